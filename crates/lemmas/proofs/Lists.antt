-- Lists: what is at a place of a list, and what follows it.
use Rattle.std.proofs.Common.{◌≡◌, ℕ, zero, suc, ◌+◌, ◌<◌, List, [], ◌∷◌, ◌++◌, length, get_or, drop, replicate, Some, refl, sym, ap, ◌∙◌, add-one, arith}
use Rattle.std.specs.Prelude.{slice_get, slice_set, slice_index}
use Rattle.std.proofs.Math.Seq.{drop-cons}

-- an element is within a list
pub get_some : {A : Type 0} → (xs : List A) (i : ℕ) → i < length xs → (x : A) × (slice_get xs i ≡ Some x)
get_some [] i h = absurd (omega (arith, h))
get_some (x ∷ xs) zero h = (x, refl)
get_some (x ∷ xs) (suc i) h = get_some xs i (omega (arith, h))

-- the element after a list
pub get_mid : {A : Type 0} → (xs ys : List A) (x : A) → slice_get (xs ++ x ∷ ys) (length xs) ≡ Some x
get_mid [] ys x = refl
get_mid (z ∷ xs) ys x = get_mid xs ys x

-- what is left from a place on begins with the element there
pub rest_is : {A : Type 0} (items : List A) (i : ℕ) (x : A) → i < length items → x ≡ get_or items i x
    → drop i items ≡ x ∷ drop (i + 1) items
rest_is items i x h e = drop-cons items i x h ∙ ap (λ y. y ∷ drop (suc i) items) (sym e) ∙ ap (λ n. x ∷ drop n items) (sym (add-one i))

-- an element that was set is found at its place
pub get_same : {A : Type 0} → (xs : List A) (i : ℕ) (v w : A) → slice_get xs i ≡ Some w → slice_get (slice_set xs i v) i ≡ Some v
get_same [] i v w e = absurd (cc)
get_same (x ∷ xs) zero v w e = refl
get_same (x ∷ xs) (suc i) v w e = get_same xs i v w e

-- in a list of zeros, and after it, each element is 0
pub zero_at : (n k : ℕ) → slice_index (replicate n 0) k ≡ 0
zero_at zero k = refl
zero_at (suc n) zero = refl
zero_at (suc n) (suc k) = zero_at n k
