-- What an item makes of a property that followed the items before it.
use Rattle.std.proofs.Common.{◌≡◌, ◌∙◌, ℕ, ◌+◌, Bool, true, false, if◌then◌else◌, List, [], ◌∷◌, ◌++◌, length, Some, sym, ap, subst, append_assoc, arith}
use Rattle.std.proofs.lemmas.List.{length-append}
use Rattle.sx_trace.specs.declared.items.Item.{Item}
use Rattle.sx_watch.specs.declared.watcher.Watcher.{Watcher}
use Rattle.std.specs.List.{list_any}
use Rattle.sx_watch.specs.Watched.{PropertyTree, broken_at, is_emit, watched}
use Rattle.sx_watch.specs.Watching.{Follows, Heeds, broken_from, property_as}

turn : (p : PropertyTree) (n : ℕ) (cells : List ℕ) (item : Item) (more : List Item) (b : Bool) → b ≡ list_any is_emit (watched p cells item).acts
    → broken_from p n cells (item ∷ more) ≡ (if b then Some n else broken_from p (n + 1) (watched p cells item).cells more)
turn p n cells item more b h = ap (λ (x : Bool). if x then Some n else broken_from p (n + 1) (watched p cells item).cells more) (sym h)

longer : (items : List Item) (item : Item) → length items + 1 + 1 ≡ length (items ++ item ∷ []) + 1
longer items item = omega (arith, length-append items (item ∷ []))

heeds_as : (p : PropertyTree) (items : List Item) (item : Item) (old new : Watcher) (broken : Bool) → Follows p items old → property_as new.property ≡ p
    → broken ≡ list_any is_emit (watched p old.store.cells.items item).acts → new.store.cells.items ≡ (watched p old.store.cells.items item).cells
    → Heeds p items item new broken
heeds_as p items item old new true f same b cells = λ more.
    f.unbroken (item ∷ more) ∙ turn p (length items + 1) old.store.cells.items item more true b
heeds_as p items item old new false f same b cells = record {
  property = same;
  unbroken = λ more. ap (broken_at p) (append_assoc items (item ∷ []) more) ∙ f.unbroken (item ∷ more)
      ∙ turn p (length items + 1) old.store.cells.items item more false b
      ∙ ap (λ (n : ℕ). broken_from p n (watched p old.store.cells.items item).cells more) (longer items item)
      ∙ ap (λ (c : List ℕ). broken_from p (length (items ++ item ∷ []) + 1) c more) (sym cells);
}

pub heeds : (p : PropertyTree) (items : List Item) (item : Item) (old new : Watcher) (broken : Bool) → Follows p items old → new.property ≡ old.property
    → broken ≡ list_any is_emit (watched (property_as old.property) old.store.cells.items item).acts
    → new.store.cells.items ≡ (watched (property_as old.property) old.store.cells.items item).cells → Heeds p items item new broken
heeds p items item old new broken f same b cells = heeds_as p items item old new broken f (ap property_as same ∙ f.property)
    (subst (λ (q : PropertyTree). broken ≡ list_any is_emit (watched q old.store.cells.items item).acts) f.property b)
    (subst (λ (q : PropertyTree). new.store.cells.items ≡ (watched q old.store.cells.items item).cells) f.property cells)
