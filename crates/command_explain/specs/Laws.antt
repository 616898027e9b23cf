-- What texts and lines mean, and what is said of a trace, by the items before its first forged one:
-- of legal ones what caused each and how the trace ended, else what caused each before the first
-- that the source refuses.
use Rattle.std.specs.Prelude.{◌≡◌, ℕ, ◌+◌, false, List, [], ◌∷◌, ◌++◌, length, Option, Some, None}
use Rattle.std.specs.List.{list_any}
use Rattle.sx_io.specs.Reading.{Answer}
use Rattle.command_promise.specs.Told.{behind}
use Rattle.sx_trace.specs.declared.items.Item.{Item}
use Rattle.sx_mean.specs.Application.{AppTree}
use Rattle.sx_model.specs.State.{Model, power_on}
use Rattle.sx_model.specs.Step.{step}
use Rattle.sx_model.specs.Legal.{Legal, after, before, is_forged}
use Rattle.sx_explain.specs.Causes.{cause}
use Rattle.command_explain.specs.Output.{because_line, explain_from, illegal_output}
use Rattle.command_explain.specs.Output.{stop_output}
use Rattle.command_explain.specs.Meant.{AreMeanings, Meanings}
use Rattle.command_explain.specs.Trace.{Trace, trace}

-- each text of a deployment has a meaning, and each line of a trace an item or none
abbrev pub SomeMeanings : Type 0
SomeMeanings = (means : Meanings) × AreMeanings means

-- the line of an item's cause, if it has one
abbrev pub cause_line : ℕ → Option ℕ → List ℕ
cause_line number None = []
cause_line number (Some n) = because_line number n

-- the causes of items after others
abbrev pub causes_text : AppTree → List Item → List Item → List ℕ
causes_text app front [] = []
causes_text app front (i ∷ is) =
    cause_line (length front + 1) (cause app front i) ++ causes_text app (front ++ i ∷ []) is

-- an item that the source refuses, after items that it allows, none of which is forged
pub record Refused (app : AppTree) (items front : List Item) : Type 0 where
  pub item : Item
  pub behind : List Item
  pub place : items ≡ front ++ item ∷ behind
  pub honest : list_any is_forged front ≡ false
  pub before : Model
  pub ran : after app (power_on app) front ≡ Some before
  pub refused : step app before item ≡ None

-- what is said of a trace whose items up to the first forged one are legal, and of one with an item
-- that the source refuses
pub record IsExplained (app : AppTree) (item : List ℕ → Option Item) (answers : List Answer)
    (t : Trace) : Type 0 where
  pub legal : Legal app (before t.items) → explain_from app item [] answers
      ≡ behind (causes_text app [] (before t.items)) (stop_output t.items t.stop)
  pub illegal : (front : List Item) → Refused app t.items front → explain_from app item [] answers
      ≡ behind (causes_text app [] front) (illegal_output (length front + 1))

-- each trace is explained so
abbrev pub TracesExplained : Type 0
TracesExplained = (app : AppTree) (item : List ℕ → Option Item) (answers : List Answer)
    → IsExplained app item answers (trace item 1 answers)
