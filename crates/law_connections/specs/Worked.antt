-- The premises of the laws, of those of law_forgery too, are met by the deployment and the schedule of
-- a sample that is carried from a sensor to a bulb. Nobody has to believe this file.
use Rattle.std.specs.Prelude.{ℕ, ◌≤◌, List, [], ◌∷◌, length, Ok}
use Rattle.sx_tag.specs.Mac.{Mac, IsTag}
use Rattle.sx_sched.specs.Lines.{Line, Take, Give, Sense, Ask, Answer, Load, Call}
use Rattle.sx_deploy.specs.Deployment.{Deployed, IsRead}
use Rattle.sx_bulk.specs.Bulk.{head}
use Rattle.spec_run.specs.Setting.{Setting}
use Rattle.spec_run.specs.Accepted.{AreImages, setting_of}
use Rattle.spec_run.specs.AcceptedLaw.{AreLines}
use Rattle.spec_run.specs.Law.{IsLawfulSetting, LinesInForm}
use Rattle.law_forgery.specs.Tags.{AgreeOnTags}
use Rattle.law_forgery.specs.Named.{named_setting}

-- the schedule of examples/lighting.txt
abbrev pub lighting_lines : List Line
lighting_lines =
    Load 0 ∷ Load 1 ∷ Load 2
    ∷ Ask 0 ∷ Give 0 0 0x300 ∷ Call 0 1 0x300 0x400 ∷ Take 0 0x400 16 ∷ Answer 0 0 1
    ∷ Give 2 0 0x300 ∷ Call 0 0 0x300 0x400
    ∷ Ask 1 ∷ Give 3 0 0x300 ∷ Call 1 1 0x300 0x400 ∷ Take 0 0x400 16 ∷ Answer 1 0 4
    ∷ Give 5 0 0x300 ∷ Call 1 0 0x300 0x400 ∷ Give 6 0 0x300 ∷ Call 1 0 0x300 0x400
    ∷ Ask 2 ∷ Give 7 1 0x300 ∷ Call 2 1 0x300 0x400 ∷ Take 1 0x400 16 ∷ Answer 2 0 8
    ∷ Give 9 1 0x300 ∷ Call 2 0 0x300 0x400
    ∷ Sense 0 120 ∷ Call 0 3 0x300 0x400 ∷ Take 0 0x400 24
    ∷ Give 10 0 0x300 ∷ Call 1 2 0x300 0x400 ∷ Take 0 0x400 24
    ∷ Give 11 1 0x300 ∷ Call 2 2 0x300 0x400 ∷ []

-- The setting is sound and the lines are in form, and as few as may be; and no tag tells the
-- setting and one with names apart.
pub record Meets (set : Setting) (lines : List Line) : Type 0 where
  pub sound : IsLawfulSetting set
  pub form : LinesInForm set lines
  pub few : length lines ≤ 65536
  pub names : (table : Mac) × AgreeOnTags set (named_setting table set)

-- The text is accepted and its lines are in form; and each setting of it, with a lawful tag and
-- images that realize its modules, meets the premises.
abbrev pub LightingMeets : Type 0
LightingMeets = (d : Deployed) × IsRead head (Ok d) × AreLines d.names lighting_lines
    × ((mac : Mac) (texts : List (List ℕ)) → IsTag mac → AreImages mac d texts
    → Meets (setting_of mac d texts) lighting_lines)
