-- Elements of lists by their places.
use Rattle.std.proofs.Common.{◌≡◌, ℕ, zero, suc, ◌<◌, List, [], ◌∷◌, ◌++◌, length, Option, Some, refl, ap, arith, ◌-◌, ◌==◌, false, if◌then◌else◌, ◌∙◌}
use Rattle.std.specs.Prelude.{slice_get, slice_set}
use Rattle.std.proofs.lemmas.Bool.Decides.{nat_tests}
use Rattle.spec_run.specs.Deployer.{list_at}

pub get_other : {X : Type 0} → (xs : List X) (i j : ℕ) (v : X) → (j ≡ i → ⊥) → slice_get (slice_set xs i v) j ≡ slice_get xs j
get_other [] i j v n = refl
get_other (x ∷ xs) zero zero v n = absurd (n refl)
get_other (x ∷ xs) zero (suc j) v n = refl
get_other (x ∷ xs) (suc i) zero v n = refl
get_other (x ∷ xs) (suc i) (suc j) v n = get_other xs i j v (λ e. n (ap suc e))

pub get_end : {X : Type 0} → (xs : List X) (v : X) → slice_get (xs ++ v ∷ []) (length xs) ≡ Some v
get_end [] v = refl
get_end (x ∷ xs) v = get_end xs v

pub get_before : {X : Type 0} → (xs ys : List X) (n : ℕ) (v : X) → slice_get xs n ≡ Some v → slice_get (xs ++ ys) n ≡ Some v
get_before [] ys n v e = cc
get_before (x ∷ xs) ys zero v e = e
get_before (x ∷ xs) ys (suc n) v e = get_before xs ys n v e

pub get_within : {X : Type 0} → (xs : List X) (i : ℕ) (v : X) → slice_get xs i ≡ Some v → i < length xs
get_within [] i v e = cc
get_within (x ∷ xs) zero v e = omega arith
get_within (x ∷ xs) (suc i) v e = let h = get_within xs i v e in omega arith

pub length_set : {X : Type 0} → (xs : List X) (i : ℕ) (v : X) → length (slice_set xs i v) ≡ length xs
length_set [] i v = refl
length_set (x ∷ xs) zero v = refl
length_set (x ∷ xs) (suc i) v = ap suc (length_set xs i v)

pub some_inj : {X : Type 0} → (x y : X) → ◌≡◌ {A = Option X} (Some x) (Some y) → x ≡ y
some_inj x y e = cc

pub list_at_is : (xs : List (List ℕ)) (i : ℕ) (x : List ℕ) → slice_get xs i ≡ Some x → list_at xs i ≡ x
list_at_is [] i x e = absurd cc
list_at_is (y ∷ xs) zero x e = cc
list_at_is (y ∷ xs) (suc i) x e =
    let later : (suc i == 0) ≡ false = grind (arith, nat_tests) in
    let less : suc i - 1 ≡ i = omega arith in
    ap (λ b. if b then y else list_at xs (suc i - 1)) later ∙ ap (λ (k : ℕ). list_at xs k) less ∙ list_at_is xs i x e
