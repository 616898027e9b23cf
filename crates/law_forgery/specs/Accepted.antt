-- The first `forged` of an accepted deployment's run, from its text on.
use Rattle.std.specs.Prelude.{ℕ, ◌≤◌, List, length, Ok}
use Rattle.sx_tag.specs.Mac.{Mac, IsTag}
use Rattle.sx_sched.specs.Lines.{Line}
use Rattle.sx_deploy.specs.Deployment.{Deployed, IsRead}
use Rattle.spec_run.specs.Accepted.{setting_of, AreImages}
use Rattle.spec_run.specs.AcceptedLaw.{AreLines}
use Rattle.law_forgery.specs.Forgery.{ForgedIsForgery}

-- for every text that is accepted, every lawful tag, all images that realize its modules and every
-- schedule of at most 65,536 lines
abbrev pub AcceptedForged : Type 0
AcceptedForged = (text : List ℕ) (d : Deployed) → IsRead text (Ok d)
    → (mac : Mac) (texts : List (List ℕ)) → IsTag mac → AreImages mac d texts
    → (lines : List Line) → length lines ≤ 65536 → AreLines d.names lines
    → ForgedIsForgery (setting_of mac d texts) lines
