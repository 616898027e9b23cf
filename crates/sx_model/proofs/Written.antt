-- Elements of a list after a write.
use Rattle.std.proofs.Common.{◌≡◌, ℕ, zero, suc, ◌⊎◌, inl, inr, List, [], ◌∷◌, Some, refl, ap, arith}
use Rattle.std.specs.Prelude.{slice_get, slice_set}
use Rattle.std.proofs.lemmas.Option.{same_Some}

-- an element that is found is the one that was written, or another place's
pub at_set : {X : Type 0} → (xs : List X) (i j : ℕ) (v w : X) → slice_get (slice_set xs i v) j ≡ Some w
    → ((i ≡ j) × (v ≡ w)) ⊎ ((i ≡ j → ⊥) × (slice_get xs j ≡ Some w))
at_set [] i j v w e = absurd cc
at_set (x ∷ xs) zero zero v w e = inl (refl, same_Some v w e)
at_set (x ∷ xs) zero (suc j) v w e = inr (λ h. absurd (omega (arith, h)), e)
at_set (x ∷ xs) (suc i) zero v w e = inr (λ h. absurd (omega (arith, h)), e)
at_set (x ∷ xs) (suc i) (suc j) v w e =
    elim (at_set xs i j v w e) [ inl h ↦ inl (ap suc h.0, h.1) | inr h ↦ inr (λ q. h.0 (omega (arith, q)), h.1) ]

pub get_other : {X : Type 0} → (xs : List X) (i j : ℕ) (v : X) → (i ≡ j → ⊥) → slice_get (slice_set xs i v) j ≡ slice_get xs j
get_other [] i j v n = refl
get_other (x ∷ xs) zero zero v n = absurd (n refl)
get_other (x ∷ xs) zero (suc j) v n = refl
get_other (x ∷ xs) (suc i) zero v n = refl
get_other (x ∷ xs) (suc i) (suc j) v n = get_other xs i j v (λ e. n (ap suc e))
