-- The legal runs of the source in which each act comes in the order in which its handler does it.
use Rattle.std.specs.Prelude.{List, [], ◌∷◌, Option, Some, IsSome, option_and_then}
use Rattle.sx_trace.specs.declared.items.Item.{Item}
use Rattle.sx_mean.specs.Application.{AppTree}
use Rattle.sx_model.specs.order.State.{Model, power_on}
use Rattle.sx_model.specs.order.Step.{step}

-- the state after these items; none where one of them isn't allowed
abbrev pub after : AppTree → Model → List Item → Option Model
after app s [] = Some s
after app s (item ∷ items) = option_and_then (λ t. after app t items) (step app s item)

-- each of the items is allowed, from power-on
abbrev pub LegalInOrder : AppTree → List Item → Type 0
LegalInOrder app items = IsSome (after app (power_on app) items)
