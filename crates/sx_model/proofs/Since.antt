-- What an item makes of a `Since`.
use Rattle.std.proofs.Common.{◌≡◌, Bool, true, false, List, [], ◌∷◌, ◌++◌, append_assoc, refl, ap, ◌∙◌}
use Rattle.std.specs.List.{list_any}
use Rattle.std.proofs.lemmas.Bool.{or_from}
use Rattle.std.proofs.lemmas.List.Folds.{list_any-append}
use Rattle.sx_trace.specs.declared.items.Item.{Item}
use Rattle.sx_model.specs.Consequences.{Since}

pub since_now : (begins ends : Item → Bool) (items : List Item) (item : Item) → begins item ≡ true → Since begins ends (items ++ item ∷ [])
since_now begins ends items item h = record { before = items; item = item; behind = []; place = refl; begun = h; unended = refl }

pub since_still : (begins ends : Item → Bool) (items : List Item) (item : Item) → Since begins ends items → ends item ≡ false → Since begins ends (items ++ item ∷ [])
since_still begins ends items item h e = record {
  before = h.before;
  item = h.item;
  behind = h.behind ++ item ∷ [];
  place = ap (λ xs. xs ++ item ∷ []) h.place ∙ append_assoc h.before (h.item ∷ h.behind) (item ∷ []);
  begun = h.begun;
  unended = list_any-append ends h.behind (item ∷ []) ∙ or_from (list_any ends h.behind) (list_any ends (item ∷ [])) h.unended (or_from (ends item) false e refl);
}
