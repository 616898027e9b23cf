-- What contracts see of a timeline.
use Rattle.std.specs.Prelude.{ℕ, List, [], ◌∷◌}
use Rattle.sx_sched.specs.Lines.{Line}
use Rattle.spec_run.specs.Setting.{Site}
use Rattle.sx_world.specs.Held.{Held}

-- where its modules are deployed, its lines, after how many lines there is a checkpoint, and the
-- checkpoints, the first of them before all lines
pub record Kept : Type 0 where
  pub sites : List Site
  pub lines : List Line
  pub every : ℕ
  pub checkpoints : List Held

-- the sites of the first world
abbrev pub first_sites : List Held → List Site
first_sites [] = []
first_sites (held ∷ more) = held.sites
