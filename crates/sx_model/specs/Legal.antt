-- The legal runs of the source.
use Rattle.std.specs.Prelude.{Bool, true, false, if◌then◌else◌, List, [], ◌∷◌, Option, Some, IsSome}
use Rattle.std.specs.Prelude.{option_and_then}
use Rattle.sx_trace.specs.declared.items.Item.{Item}
use Rattle.sx_trace.specs.declared.items.Item.TheVariants.{Forged}
use Rattle.sx_mean.specs.Application.{AppTree}
use Rattle.sx_model.specs.State.{Model, power_on}
use Rattle.sx_model.specs.Step.{step}

-- the state after these items; none where one of them isn't allowed
abbrev pub after : AppTree → Model → List Item → Option Model
after app s [] = Some s
after app s (item ∷ items) = option_and_then (λ t. after app t items) (step app s item)

-- each of the items is allowed, from power-on
abbrev pub Legal : AppTree → List Item → Type 0
Legal app items = IsSome (after app (power_on app) items)

-- an item that says that what comes next rests on what its rightful maker hadn't made
abbrev pub is_forged : Item → Bool
is_forged (Forged m) = true
is_forged _ = false

-- the items before the first that is forged
abbrev pub before : List Item → List Item
before [] = []
before (item ∷ items) = if is_forged item then [] else item ∷ before items
