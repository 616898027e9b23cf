-- The state of a schedule between two lines.
use Rattle.std.proofs.Common.{ℕ, Bool, List}
use Rattle.sx_io.specs.Reading.{Answer, Limit}
use Rattle.sx_io.specs.Next.{Ahead}
use Rattle.command_promise.specs.Told.{CommandAt, Output}
use Rattle.command_promise.specs.Parts.{Begun, Notes}
use Rattle.command_promise.specs.Head.{head_lines}
use Rattle.sx_trace.specs.Names.{NameLists}
use Rattle.spec_run.specs.Setting.{Setting}
use Rattle.spec_run.specs.State.{World, switched_on}
use Rattle.sx_world.specs.Held.{Held}
use Rattle.sx_world.specs.Standing.{Stands}
use Rattle.command_text.proofs.Keeping.{Keeps}
use Rattle.command_deploy.proofs.Given.{Gave}
use Rattle.command_run.specs.declared.trace.Shown.{Shown}
use Rattle.command_run.specs.Turns.{shown_from}

-- There is a world, and what is left is what is kept, and then what is defined from the next line on in it; and the lines before that were given.
pub record Between (shown : Shown) (tells to_tell : Bool) (m1 m2 : CommandAt) (old new : Ahead) (names : NameLists) (set : Setting) (held : Held) (number : ℕ) (kept : List ℕ) : Type 0 where
  pub world : World
  pub stands : Stands set held world
  pub keeps : (limit : Limit) (m0 : CommandAt) (defined : List Answer → Output) (aside : List Answer → List ℕ) (noted : List ℕ)
      → Begun tells to_tell limit head_lines m0 m1 old defined (shown_from shown names set (switched_on set) 1) (Notes aside noted)
      → Keeps tells to_tell limit m0 m2 new defined kept (shown_from shown names set world number) (Notes aside noted)
  pub gave : Gave tells m1.source m2.source old new number
