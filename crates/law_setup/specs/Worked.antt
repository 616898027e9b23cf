-- The set-up's lines of the lighting application, as a worked schedule has them. Nobody has to
-- believe this file.
use Rattle.std.specs.Prelude.{◌≡◌, List, [], ◌∷◌, length}
use Rattle.sx_sched.specs.Lines.{Line, Load, Ask, Give, Call, Take, Answer}
use Rattle.sx_mean.specs.Worked.{lighting}
use Rattle.law_setup.specs.Schedule.{setup_schedule}

-- the modules 0 and 1 are at the node 0, and the module 2 at the node 1
abbrev pub lighting_lines : List Line
lighting_lines =
    Load 0 ∷ Ask 0 ∷ Give 0 0 0x40 ∷ Call 0 1 0x40 0x80 ∷ Take 0 0x80 16 ∷ Answer 0 0 1
    ∷ Give 2 0 0x40 ∷ Call 0 0 0x40 0x80
    ∷ Load 1 ∷ Ask 1 ∷ Give 3 0 0x40 ∷ Call 1 1 0x40 0x80 ∷ Take 0 0x80 16 ∷ Answer 1 0 4
    ∷ Give 5 0 0x40 ∷ Call 1 0 0x40 0x80 ∷ Give 6 0 0x40 ∷ Call 1 0 0x40 0x80
    ∷ Load 2 ∷ Ask 2 ∷ Give 7 1 0x40 ∷ Call 2 1 0x40 0x80 ∷ Take 1 0x80 16 ∷ Answer 2 0 8
    ∷ Give 9 1 0x40 ∷ Call 2 0 0x40 0x80 ∷ []

-- they are those of the definition, 26 of them
pub record LightingSetUp : Type 0 where
  pub lines : setup_schedule lighting ≡ lighting_lines
  pub many : length lighting_lines ≡ 26
