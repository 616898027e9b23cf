-- What a reader may take from a run in order: what a handler emits before it sends was put out
-- before the word is taken.
use Rattle.std.specs.Prelude.{◌≡◌, ℕ, true, List, ◌∷◌, ◌++◌, slice_get, Some}
use Rattle.sx_mean.specs.declared.apps.Link.{Link}
use Rattle.sx_mean.specs.declared.events.Act.{Act}
use Rattle.sx_mean.specs.declared.events.Act.TheVariants.{Send}
use Rattle.sx_mean.specs.declared.events.SourceEvent.{SourceEvent}
use Rattle.sx_mean.specs.Application.{AppTree, PartTree}
use Rattle.sx_mean.specs.React.{react}
use Rattle.sx_trace.specs.declared.items.Item.{Item}
use Rattle.sx_trace.specs.declared.items.Item.TheVariants.{Take}
use Rattle.sx_model.specs.Consequences.{begins_event}
use Rattle.sx_explain.specs.Causes.{event_of, emits_of, outs_of}
use Rattle.sx_model.specs.order.State.{Model, Present, Standing, power_on}
use Rattle.sx_model.specs.order.Legal.{after}

-- an event of a module among items: where it began, what came since, and to which acts its handler
-- reacts
pub record EventOf (app : AppTree) (items : List Item) (m : ℕ) : Type 0 where
  pub front : List Item
  pub by : Item
  pub rest : List Item
  pub place : items ≡ front ++ by ∷ rest
  pub begins : begins_event m by ≡ true
  pub before : Model
  pub ran : after app (power_on app) front ≡ Some before
  pub part : PartTree
  pub part_is : slice_get app.parts m ≡ Some part
  pub standing : Standing
  pub standing_is : slice_get before.modules m ≡ Some standing
  pub present : Present
  pub present_is : standing.present ≡ Some present
  pub event : SourceEvent
  pub event_is : event_of app by ≡ Some event

-- those acts
abbrev pub acts_of : {app : AppTree} → {items : List Item} → {m : ℕ} → EventOf app items m
    → List Act
acts_of e = (react e.part.tree e.event e.present.cells).acts

-- An event of the module sends the value, and all that its handler emits before that was put out
-- since it began.
pub record SentBehind (app : AppTree) (items : List Item) (m output v : ℕ) : Type 0 where
  pub event : EventOf app items m
  pub first : List Act
  pub later : List Act
  pub acts : acts_of event ≡ first ++ Send output v ∷ later
  pub more : List ℕ
  pub shown : outs_of m event.rest ≡ emits_of first ++ more

-- Each word that is taken was sent so.
abbrev pub TakenBehind : AppTree → List Item → Type 0
TakenBehind app items =
    (before behind : List Item) (m c i v : ℕ) → items ≡ before ++ Take m c i v ∷ behind
    → (l : Link) × (slice_get app.links c ≡ Some l) × SentBehind app before l.from l.output v
