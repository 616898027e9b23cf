-- A list whose elements are changed one after the other.
use Rattle.std.proofs.Common.{◌≡◌, ℕ, ◌+◌, ◌<◌, List, [], ◌∷◌, ◌++◌, length, take, drop, map, get_or, set, sym, ◌∙◌, ap, arith, append_assoc}
use Rattle.std.proofs.lemmas.List.{take_more_set, drop-set-lt, drop_more}

module _ {X : Type 0} (f : X → X) where
  -- one more element is changed
  pub changed : (xs all : List X) (i : ℕ) (d y : X) → i < length xs → y ≡ f (get_or xs i d) → take i xs ++ map f (drop i xs) ≡ map f all
      → take (i + 1) (set xs i y) ++ map f (drop (i + 1) (set xs i y)) ≡ map f all
  changed xs all i d y h is e =
      let rest : drop (i + 1) (set xs i y) ≡ drop (i + 1) xs = drop-set-lt (i + 1) xs i y (omega arith) in
      ap (λ (front : List X). front ++ map f (drop (i + 1) (set xs i y))) (take_more_set xs i y h)
      ∙ append_assoc (take i xs) (y ∷ []) (map f (drop (i + 1) (set xs i y)))
      ∙ ap (λ (behind : List X). take i xs ++ (y ∷ map f behind)) rest
      ∙ ap (λ (z : X). take i xs ++ (z ∷ map f (drop (i + 1) xs))) is
      ∙ ap (λ (behind : List X). take i xs ++ map f behind) (sym (drop_more xs i d h))
      ∙ e
