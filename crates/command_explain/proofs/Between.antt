-- The state of the command between two lines of a trace.
use Rattle.std.proofs.Common.{◌≡◌, ◌≤◌, ℕ, ◌+◌, Bool, List, [], length}
use Rattle.sx_io.specs.Reading.{Answer, Limit}
use Rattle.sx_io.specs.Next.{Ahead}
use Rattle.command_promise.specs.Told.{CommandAt, Output}
use Rattle.command_promise.specs.Parts.{Begun, Notes}
use Rattle.sx_trace.specs.declared.items.Item.{Item}
use Rattle.sx_trace.specs.Names.{NameLists}
use Rattle.sx_mean.specs.Application.{AppTree}
use Rattle.sx_explain.specs.Followed.{Follows, Seen}
use Rattle.command_explain.specs.Output.{explain_from}
use Rattle.command_explain.specs.Meant.{AreMeanings, Meanings}
use Rattle.command_explain.specs.Trace.{trace_lines}
use Rattle.command_text.proofs.Keeping.{Waits}
use Rattle.command_explain.proofs.Wanted.{GaveTrace}

-- The judge follows these items, and what is left is what is kept, and then what is said from the line after them on.
pub record Between (tells to_tell : Bool) (m1 m2 : CommandAt) (old new : Ahead) (app : AppTree) (names : NameLists) (judge : Seen) (number : ℕ) (kept : List ℕ) : Type 0 where
  pub few : number ≤ 4000001
  pub items : List Item
  pub follows : Follows app items judge
  pub counted : number ≡ length items + 1
  pub gave : GaveTrace tells m1.source m2.source old new names number items
  pub waits : (means : Meanings) → AreMeanings means → (limit : Limit) (m0 : CommandAt) (defined : List Answer → Output) (aside : List Answer → List ℕ) (noted : List ℕ)
      → Begun tells to_tell limit trace_lines m0 m1 old defined (explain_from app (means.item names) []) (Notes aside noted)
      → Waits tells to_tell limit m0 m2 new defined kept (explain_from app (means.item names) items) (Notes aside noted)
