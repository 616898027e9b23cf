-- Where the program's world is: at the world of a run that some lines lead to.
use Rattle.std.specs.Prelude.{◌≡◌, ◌*◌, ◌≤◌, false, List, length}
use Rattle.sx_sched.specs.Lines.{Line}
use Rattle.spec_run.specs.Setting.{Setting}
use Rattle.spec_run.specs.State.{World, switched_on}
use Rattle.spec_run.specs.Run.{run}
use Rattle.spec_run.specs.Law.{LinesInForm}
use Rattle.sx_world.specs.Held.{Held, Shows}

-- It shows this world of a run: that of as many lines in form as it has performed, each of at most
-- a million steps.
pub record Stands (set : Setting) (held : Held) (w : World) : Type 0 where
  pub lines : List Line
  pub formed : LinesInForm set lines
  pub count : length lines ≡ held.performed
  pub steps : w.steps ≤ 1000000 * held.performed
  pub is : w ≡ (run set (switched_on set) lines).world
  pub shows : Shows set held.running w

-- It is so, unless it has run out of memory.
abbrev pub IsGoing : Setting → Held → Type 0
IsGoing set held = held.ran_out ≡ false → (w : World) × Stands set held w
