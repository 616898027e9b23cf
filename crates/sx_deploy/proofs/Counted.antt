-- Counts over lists and over what they are mapped to.
use Rattle.std.proofs.Common.{◌≡◌, ◌+◌, Bool, List, [], ◌∷◌, map, count_by, refl, ap, sym, ◌∙◌, cond}
use Rattle.sx_check.proofs.Distinct.{count_by-cons}

pub count_by-map : {A B : Type 0} (v : A → B) (p : B → Bool) (xs : List A) → count_by (λ x. p (v x)) xs ≡ count_by p (map v xs)
count_by-map v p [] = refl
count_by-map v p (x ∷ xs) = count_by-cons (λ y. p (v y)) x xs ∙ ap (λ n. cond (p (v x)) 1 0 + n) (count_by-map v p xs) ∙ sym (count_by-cons p (v x) (map v xs))
