-- To add a value bit by bit is a permutation of the bytes.
use Rattle.std.proofs.Common.{◌≡◌, ℕ, zero, suc, ◌*◌, ◌<◌, ◌==◌, List, [], ◌∷◌, refl, sym, ◌∙◌, ap, subst, arith, ◌⊎◌, inl, inr, bit_xor}
use Rattle.std.specs.Int.Bits.{xor_assoc, xor_self, xor_zero_r, xor_comm, xor_lt}
use Rattle.std.proofs.lemmas.Bool.{ne_eqb, eq-eqb, cases_eq}
use Rattle.law_counting.specs.Counting.{total, sum_all, one, IsTable}
use Rattle.law_counting.specs.Pads.{mixed, CiphersAreRandom}
use Rattle.law_counting.proofs.Sums.{total_same, total_mul, total_hit, total_swap}

-- what a value below w picks of a sum
picked : (w x : ℕ) (f : ℕ → ℕ) → x < w → f x ≡ total w (λ u. f u * one (x == u))
picked w x f lt =
    let a : total w (λ u. f u * one (x == u)) ≡ total w (λ u. f x * one (x == u))
    = total_same w (λ u. f u * one (x == u)) (λ u. f x * one (x == u)) (λ u below. each u (cases_eq x u)) in
    let b : total w (λ u. f x * one (x == u)) ≡ f x * total w (λ u. one (x == u)) = total_mul w (f x) (λ u. one (x == u)) in
    let c : total w (λ u. one (x == u)) ≡ 1 = total_hit w x lt in
    sym (a ∙ b ∙ ap (λ (z : ℕ). f x * z) c ∙ omega arith)
  where
    each : (u : ℕ) → (x ≡ u) ⊎ (x ≡ u → ⊥) → f u * one (x == u) ≡ f x * one (x == u)
    each u (inl e) = ap (λ (z : ℕ). f z * one (x == u)) (sym e)
    each u (inr ne) =
        let q : one (x == u) ≡ 0 = ap one (ne_eqb x u ne) in
        subst (λ (z : ℕ). f u * z ≡ f x * z) (sym q) (omega arith)

-- a sum in another order
total_turned : (w : ℕ) (f turn : ℕ → ℕ) → ((v : ℕ) → v < w → turn v < w) → ((v : ℕ) → turn (turn v) ≡ v)
    → total w (λ v. f (turn v)) ≡ total w f
total_turned w f turn low back =
    total_same w (λ v. f (turn v)) (λ v. total w (λ u. f u * one (turn v == u))) (λ v lt. picked w (turn v) f (low v lt))
    ∙ total_swap w w (λ v u. f u * one (turn v == u))
    ∙ total_same w (λ u. total w (λ v. f u * one (turn v == u))) f (λ u lt. each u lt)
  where
    each : (u : ℕ) → u < w → total w (λ v. f u * one (turn v == u)) ≡ f u
    each u lt =
        total_mul w (f u) (λ v. one (turn v == u))
        ∙ ap (λ (z : ℕ). f u * z) (total_same w (λ v. one (turn v == u)) (λ v. one (turn u == v)) (λ v below. same v (cases_eq (turn v) u)) ∙ total_hit w (turn u) (low u lt))
        ∙ omega arith
      where
        same : (v : ℕ) → (turn v ≡ u) ⊎ (turn v ≡ u → ⊥) → one (turn v == u) ≡ one (turn u == v)
        same v (inl e) = ap one (eq-eqb (turn v) u e ∙ sym (eq-eqb (turn u) v (ap turn (sym e) ∙ back v)))
        same v (inr ne) = ap one (ne_eqb (turn v) u ne ∙ sym (ne_eqb (turn u) v (λ q. ne (ap turn (sym q) ∙ back u))))

twice : (k v : ℕ) → bit_xor k (bit_xor k v) ≡ v
twice k v = sym (xor_assoc k k v) ∙ ap (λ (z : ℕ). bit_xor z v) (xor_self k) ∙ xor_comm 0 v ∙ xor_zero_r v

sum_mixed : (n : ℕ) (body : List ℕ) (f : List ℕ → ℕ) → IsTable n 256 body → sum_all n 256 (λ pad. f (mixed body pad)) ≡ sum_all n 256 f
sum_mixed zero [] f h = refl
sum_mixed zero (k ∷ ks) f h = absurd h
sum_mixed (suc n) [] f h = absurd h
sum_mixed (suc n) (k ∷ ks) f h =
    total_same 256 (λ v. sum_all n 256 (λ vs. f (bit_xor k v ∷ mixed ks vs))) (λ v. sum_all n 256 (λ vs. f (bit_xor k v ∷ vs)))
    (λ v lt. sum_mixed n ks (λ vs. f (bit_xor k v ∷ vs)) h.1)
    ∙ total_turned 256 (λ v. sum_all n 256 (λ vs. f (v ∷ vs))) (bit_xor k) (λ v lt. xor_lt 8 k v h.0 lt) (twice k)

pub ciphers_are_random : CiphersAreRandom
ciphers_are_random n body p h = sum_mixed n body (λ t. one (p t)) h
