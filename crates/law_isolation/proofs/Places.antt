-- Elements of lists that are set at their places.
use Rattle.std.proofs.Common.{◌≡◌, ℕ, zero, suc, List, [], ◌∷◌, map, Some, None, refl, ap}
use Rattle.std.specs.Prelude.{slice_get, slice_set}
use Rattle.spec_run.proofs.tie.Lists.{some_inj}

pub set_swap : {X : Type 0} → (xs : List X) (i j : ℕ) (v w : X) → (i ≡ j → ⊥) → slice_set (slice_set xs i v) j w ≡ slice_set (slice_set xs j w) i v
set_swap [] i j v w n = refl
set_swap (x ∷ xs) zero zero v w n = absurd (n refl)
set_swap (x ∷ xs) zero (suc j) v w n = refl
set_swap (x ∷ xs) (suc i) zero v w n = refl
set_swap (x ∷ xs) (suc i) (suc j) v w n = ap (λ r. x ∷ r) (set_swap xs i j v w (λ e. n (ap suc e)))

pub get_map : {X Y : Type 0} → (f : X → Y) (xs : List X) (i : ℕ) (v : X) → slice_get xs i ≡ Some v → slice_get (map f xs) i ≡ Some (f v)
get_map f [] i v e = cc
get_map f (x ∷ xs) zero v e = ap (λ r. Some (f r)) (some_inj x v e)
get_map f (x ∷ xs) (suc i) v e = get_map f xs i v e

pub get_map_none : {X Y : Type 0} → (f : X → Y) (xs : List X) (i : ℕ) → slice_get xs i ≡ None → slice_get (map f xs) i ≡ None
get_map_none f [] i e = refl
get_map_none f (x ∷ xs) zero e = cc
get_map_none f (x ∷ xs) (suc i) e = get_map_none f xs i e
