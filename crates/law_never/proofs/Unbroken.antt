-- A property that emits at no item is not broken.
use Rattle.std.proofs.Common.{◌≡◌, ℕ, ◌+◌, false, if◌then◌else◌, List, [], ◌∷◌, Some, None, refl, ap, ◌∙◌}
use Rattle.sx_mean.specs.declared.events.Act.{Act}
use Rattle.sx_mean.specs.declared.events.Act.TheVariants.{Send, Emit}
use Rattle.sx_mean.specs.Places.{initial_cells}
use Rattle.sx_trace.specs.declared.items.Item.{Item}
use Rattle.std.specs.List.{list_any}
use Rattle.sx_watch.specs.Watched.{PropertyTree, broken_at, is_emit, watched}
use Rattle.sx_watch.specs.Watching.{broken_from}
use Rattle.law_never.specs.Kept.{AreQuiet, Keeps, KeepsFrom}

quiet : (acts : List Act) → AreQuiet acts → list_any is_emit acts ≡ false
quiet [] h = refl
quiet (Send output v ∷ acts) h = quiet acts h.1
quiet (Emit v ∷ acts) h = absurd h.0

from : (o : PropertyTree) (n : ℕ) (cells : List ℕ) (items : List Item) → KeepsFrom o cells items → broken_from o n cells items ≡ None
from o n cells [] h = refl
from o n cells (item ∷ items) h =
    ap (λ b. if b then Some n else broken_from o (n + 1) (watched o cells item).cells items) (quiet (watched o cells item).acts h.0)
    ∙ from o (n + 1) (watched o cells item).cells items h.1

pub unbroken : (o : PropertyTree) (items : List Item) → Keeps o items → broken_at o items ≡ None
unbroken o items h = from o 1 (initial_cells o.tree.decls) items h
