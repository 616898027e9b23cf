-- Which items a judge may take memory for.
use Rattle.std.specs.Prelude.{◌≡◌, ◌⊎◌, ℕ, true, false, List, [], ◌∷◌, ◌++◌}
use Rattle.std.specs.List.{list_any}
use Rattle.sx_trace.specs.declared.items.Item.{Item}
use Rattle.sx_model.specs.Consequences.{begins_event}
use Rattle.sx_model.specs.Legal.{is_forged}
use Rattle.sx_model.specs.Memory.{may_take_memory}

-- the last of these items is an event of a module
abbrev pub IsBehindEvent : List Item → Type 0
IsBehindEvent items = (before : List Item) × (event : Item) × (m : ℕ)
    × (items ≡ before ++ event ∷ []) × (begins_event m event ≡ true)

-- Memory may run out at this item after these: none of them was forged, and the item may take
-- memory, or it comes next after an event, whose words get their numbers then.
abbrev pub item_may : List Item → Item → Type 0
item_may items item = (list_any is_forged items ≡ false)
    × ((may_take_memory item ≡ true) ⊎ IsBehindEvent items)
