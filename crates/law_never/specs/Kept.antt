-- That no item breaks a property, item by item.
use Rattle.std.specs.Prelude.{ℕ, List, [], ◌∷◌}
use Rattle.sx_mean.specs.declared.events.Act.{Act}
use Rattle.sx_mean.specs.declared.events.Act.TheVariants.{Send, Emit}
use Rattle.sx_mean.specs.Places.{initial_cells}
use Rattle.sx_trace.specs.declared.items.Item.{Item}
use Rattle.sx_watch.specs.Watched.{PropertyTree, watched}

-- the act is no emit
abbrev pub NoEmit : Act → Type 0
NoEmit (Send output v) = Unit {0}
NoEmit (Emit v) = ⊥

-- none of the acts is an emit
abbrev pub AreQuiet : List Act → Type 0
AreQuiet [] = Unit {0}
AreQuiet (a ∷ acts) = NoEmit a × AreQuiet acts

-- from these cells on the property emits at none of the items
abbrev pub KeepsFrom : PropertyTree → List ℕ → List Item → Type 0
KeepsFrom o cells [] = Unit {0}
KeepsFrom o cells (item ∷ items) =
    AreQuiet (watched o cells item).acts × KeepsFrom o (watched o cells item).cells items

-- the property emits at none of the items
abbrev pub Keeps : PropertyTree → List Item → Type 0
Keeps o items = KeepsFrom o (initial_cells o.tree.decls) items
