-- An event is finished, with all that its handler emits put out in order, before its node shows
-- anything else.
use Rattle.std.specs.Prelude.{◌≡◌, ℕ, Bool, true, false, List, ◌∷◌, ◌++◌, slice_get, Some}
use Rattle.std.specs.List.{list_any}
use Rattle.sx_trace.specs.declared.items.Item.{Item}
use Rattle.sx_trace.specs.declared.items.Item.TheVariants.{Reset, Done}
use Rattle.sx_mean.specs.Application.{AppTree, PartTree}
use Rattle.sx_model.specs.Consequences.{begins_event, is_part_at}
use Rattle.sx_explain.specs.Causes.{emits_of, outs_of}
use Rattle.sx_explain.specs.Sending.{EventOf, acts_of}
use Rattle.sx_model.specs.order.Turns.{is_at_node, goes_on}

-- the module's node is reset
abbrev pub resets : AppTree → ℕ → Item → Bool
resets app m (Reset n cause) = is_part_at n (slice_get app.parts m)
resets app m _ = false

-- Among these items, which come right after the beginning of a module's event, the event is done:
-- what it put out is all that its handler emits.
pub record IsFinished (app : AppTree) (before : List Item) (first : Item) (between : List Item)
    (m : ℕ) : Type 0 where
  pub mid : List Item
  pub pieces : ℕ
  pub rest : List Item
  pub place : between ≡ mid ++ Done m 1 pieces ∷ rest
  pub event : EventOf app (before ++ first ∷ mid) m
  pub alone : event.rest ≡ mid
  pub shown : outs_of m mid ≡ emits_of (acts_of event)

-- A reading or a taking begins an event. Where its node then shows something that isn't of it, and
-- wasn't reset in between, it is finished.
abbrev pub EventsAreFinished : AppTree → List Item → Type 0
EventsAreFinished app items =
    (before between behind : List Item) (first item : Item) (m : ℕ) (q : PartTree)
    → items ≡ before ++ first ∷ between ++ item ∷ behind → slice_get app.parts m ≡ Some q
    → begins_event m first ≡ true → is_at_node app q.node item ≡ true → goes_on m item ≡ false
    → list_any (resets app m) between ≡ false
    → IsFinished app before first between m
