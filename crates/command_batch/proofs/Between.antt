-- The state of common lines, of a schedule and of all schedules between two lines.
use Rattle.std.proofs.Common.{ℕ, Bool, List}
use Rattle.sx_asm.specs.Assembled.{assembled}
use Rattle.sx_io.specs.Reading.{Answer, Limit}
use Rattle.sx_io.specs.Next.{Ahead}
use Rattle.command_promise.specs.Told.{CommandAt, Output}
use Rattle.command_promise.specs.Parts.{Begun, Notes}
use Rattle.command_promise.specs.Head.{head_lines}
use Rattle.sx_trace.specs.Names.{NameLists}
use Rattle.spec_run.specs.Setting.{Setting}
use Rattle.spec_run.specs.State.{World, switched_on}
use Rattle.sx_deploy.specs.Deployment.{Deployed}
use Rattle.sx_world.specs.Held.{Held}
use Rattle.sx_world.specs.Standing.{Stands}
use Rattle.command_batch.specs.Output.{Runs, common_from, schedules_from}
use Rattle.command_batch.specs.Parts.{KeepsWanting, Since, next_from}

-- The program's world is where the common lines led, and what is left is what is defined from the next one on in it.
pub record Between (tells to_tell : Bool) (m1 m2 : CommandAt) (old new : Ahead) (names : NameLists) (set : Setting) (held : Held) (number : ℕ) : Type 0 where
  pub world : World
  pub stands : Stands set held world
  pub begun : (limit : Limit) (m0 : CommandAt) (defined : List Answer → Output) (aside : List Answer → List ℕ) (noted : List ℕ)
      → Begun tells to_tell limit head_lines m0 m1 old defined (common_from assembled names set (switched_on set) 1) (Notes aside noted)
      → Begun tells to_tell limit head_lines m0 m2 new defined (common_from assembled names set world number) (Notes aside noted)
  pub since : Since tells m1.source m2.source old new

-- The same of a schedule, whatever world it began in.
pub record BetweenOwn (tells to_tell : Bool) (m1 m2 : CommandAt) (old new : Ahead) (names : NameLists) (set : Setting) (first : ℕ) (held : Held) (number : ℕ) (start : World) : Type 0 where
  pub world : World
  pub stands : Stands set held world
  pub begun : (count : ℕ) (limit : Limit) (m0 : CommandAt) (defined : List Answer → Output) (aside : List Answer → List ℕ) (noted : List ℕ)
      → Begun tells to_tell limit head_lines m0 m1 old defined (schedules_from assembled names set start first count (Runs start) first) (Notes aside noted)
      → Begun tells to_tell limit head_lines m0 m2 new defined (schedules_from assembled names set start first count (Runs world) number) (Notes aside noted)

-- So many schedules were answered.
pub record Answered (tells to_tell : Bool) (m1 m2 : CommandAt) (old new : Ahead) (d : Deployed) (set : Setting) (held : Held) (first count : ℕ) : Type 0 where
  pub begun : (w : World) → Stands set held w → (limit : Limit) (m0 : CommandAt) (defined : List Answer → Output) (aside : List Answer → List ℕ) (noted : List ℕ)
      → Begun tells to_tell limit head_lines m0 m1 old defined (schedules_from assembled d.names set w first 1 (Runs w) first) (Notes aside noted)
      → Begun tells to_tell limit head_lines m0 m2 new defined (next_from d.names set w first count) (Notes aside noted)
  pub keeps : KeepsWanting d tells m1.source m2.source old new
