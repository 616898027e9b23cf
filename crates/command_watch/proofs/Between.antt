-- The state of the command between two lines of a trace.
use Rattle.std.proofs.Common.{◌≡◌, ◌≤◌, ℕ, ◌+◌, Bool, List, [], length}
use Rattle.sx_io.specs.Reading.{Answer, Limit}
use Rattle.sx_io.specs.Next.{Ahead}
use Rattle.command_promise.specs.Told.{CommandAt, Output}
use Rattle.command_promise.specs.Parts.{Begun, Notes}
use Rattle.sx_trace.specs.declared.items.Item.{Item}
use Rattle.sx_trace.specs.Names.{NameLists}
use Rattle.sx_watch.specs.Watched.{PropertyTree}
use Rattle.command_explain.specs.Meant.{AreMeanings, Meanings}
use Rattle.command_explain.specs.Trace.{trace_lines}
use Rattle.command_watch.specs.declared.following.Following.{Following}
use Rattle.command_watch.specs.Following.{Stands}
use Rattle.command_watch.specs.Output.{watch_from}

-- The property was followed through these items, and what is left is what is said from the line after them on.
pub record Between (tells to_tell : Bool) (m1 m2 : CommandAt) (old new : Ahead) (names : NameLists) (first now : Following) (number : ℕ) : Type 0 where
  pub few : number ≤ 4000001
  pub items : List Item
  pub counted : number ≡ length items + 1
  pub stands : (p : PropertyTree) → Stands p [] first → Stands p items now
  pub begun : (means : Meanings) (p : PropertyTree) → AreMeanings means → Stands p [] first → (limit : Limit) (m0 : CommandAt) (defined : List Answer → Output) (aside : List Answer → List ℕ) (noted : List ℕ)
      → Begun tells to_tell limit trace_lines m0 m1 old defined (watch_from p (means.item names) []) (Notes aside noted)
      → Begun tells to_tell limit trace_lines m0 m2 new defined (watch_from p (means.item names) items) (Notes aside noted)
