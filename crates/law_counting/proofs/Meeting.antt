-- Each entry meets few values.
use Rattle.std.proofs.Common.{◌≡◌, ℕ, zero, suc, ◌+◌, ◌*◌, ◌^◌, ◌≤◌, ◌==◌, ◌||◌, Bool, true, false, List, [], ◌∷◌, length, refl, sym, ◌∙◌, subst, arith}
use Rattle.std.proofs.Math.Nat.{pow-suc, pow-zero}
use Rattle.law_counting.specs.Counting.{total, sum_all, one, count}
use Rattle.law_counting.specs.Processes.{is_in}
use Rattle.law_counting.specs.Meeting.{meets, FewMeet}
use Rattle.law_counting.proofs.Sums.{total_le, total_add, total_mul, total_const, total_few, sum_le, sum_add, sum_one, or_le}

-- few numbers are among these values
few_in : (w : ℕ) (values : List ℕ) → total w (λ v. one (is_in v values)) ≤ length values
few_in w [] = let z : total w (λ v. 0) ≡ w * 0 = total_const w 0 in omega (arith, z)
few_in w (d ∷ ds) =
    let a : total w (λ v. one ((d == v) || is_in v ds)) ≤ total w (λ v. one (d == v) + one (is_in v ds))
    = total_le w (λ v. one ((d == v) || is_in v ds)) (λ v. one (d == v) + one (is_in v ds)) (λ v lt. or_le (d == v) (is_in v ds)) in
    let b : total w (λ v. one (d == v) + one (is_in v ds)) ≡ total w (λ v. one (d == v)) + total w (λ v. one (is_in v ds)) = total_add w (λ v. one (d == v)) (λ v. one (is_in v ds)) in
    let c : total w (λ v. one (d == v)) ≤ 1 = total_few w d in
    let e : total w (λ v. one (is_in v ds)) ≤ length ds = few_in w ds in
    omega (arith, a, b, c, e)

-- a number of tables of one entry less
module _ (n w : ℕ) (values : List ℕ) where
  abbrev rest : ℕ → ℕ
  rest v = count n w (λ t. meets (v ∷ values) t)

  line : (v : ℕ) → sum_all n w (λ t. one (is_in v values || meets (v ∷ values) t)) ≤ w ^ n * one (is_in v values) + rest v
  line v =
      let c = one (is_in v values) in
      let a : sum_all n w (λ t. one (is_in v values || meets (v ∷ values) t)) ≤ sum_all n w (λ t. c + one (meets (v ∷ values) t))
      = sum_le n w (λ t. one (is_in v values || meets (v ∷ values) t)) (λ t. c + one (meets (v ∷ values) t)) (λ t table. or_le (is_in v values) (meets (v ∷ values) t)) in
      let b : sum_all n w (λ t. c + one (meets (v ∷ values) t)) ≡ sum_all n w (λ t. c) + rest v = sum_add n w (λ t. c) (λ t. one (meets (v ∷ values) t)) in
      let d : sum_all n w (λ t. c) ≡ w ^ n * c = same (is_in v values) in
      omega (arith, a, b, d)
    where
      same : (b : Bool) → sum_all n w (λ t. one b) ≡ w ^ n * one b
      same true = sum_one n w ∙ omega arith
      same false = Rattle.law_counting.proofs.Sums.sum_mul n w 0 (λ t. 1) ∙ omega arith

pub few_meet : FewMeet
few_meet zero w values = omega (arith, pow-zero w)
few_meet (suc n) w values =
    let q = length values in
    let s = w ^ n in
    let k = (q + 1 + n) * n in
    let a : count (suc n) w (λ t. meets values t) ≤ total w (λ v. s * one (is_in v values) + rest n w values v)
    = total_le w (λ v. sum_all n w (λ t. one (is_in v values || meets (v ∷ values) t))) (λ v. s * one (is_in v values) + rest n w values v) (λ v lt. line n w values v) in
    let b : total w (λ v. s * one (is_in v values) + rest n w values v) ≡ total w (λ v. s * one (is_in v values)) + total w (rest n w values)
    = total_add w (λ v. s * one (is_in v values)) (rest n w values) in
    let c : total w (λ v. s * one (is_in v values)) ≡ s * total w (λ v. one (is_in v values)) = total_mul w s (λ v. one (is_in v values)) in
    let d : total w (λ v. one (is_in v values)) ≤ q = few_in w values in
    let e : total w (λ v. w * rest n w values v) ≤ total w (λ v. k * s)
    = total_le w (λ v. w * rest n w values v) (λ v. k * s) (λ v lt. turned (rest n w values v) w k s (few_meet n w (v ∷ values)) (omega arith)) in
    let f : total w (λ v. w * rest n w values v) ≡ w * total w (rest n w values) = total_mul w w (rest n w values) in
    let g : total w (λ v. k * s) ≡ w * (k * s) = total_const w (k * s) in
    let p : w ^ suc n ≡ w * s = pow-suc w n ∙ turn s w in
    bound w s q n k (count (suc n) w (λ t. meets values t)) (total w (λ v. one (is_in v values))) (total w (rest n w values)) (w ^ suc n) p refl (omega (arith, a, b, c)) d (omega (arith, e, f, g))
  where
    turn : (s w : ℕ) → s * w ≡ w * s
    turn s w = grind arith

    turned : (r w k s : ℕ) → r * w ≤ (suc (length values) + n) * n * s → k ≡ (length values + 1 + n) * n → w * r ≤ k * s
    turned r w k s h e =
        let x : (suc (length values) + n) * n * s ≡ k * s = subst (λ (z : ℕ). (suc (length values) + n) * n * s ≡ z * s) (sym e) (grind arith) in
        let y : r * w ≡ w * r = grind arith in omega (arith, h, x, y)

    bound : (w s q n k c i r p : ℕ) → p ≡ w * s → k ≡ (q + 1 + n) * n → c ≤ s * i + r → i ≤ q → w * r ≤ w * (k * s) → c * w ≤ (q + suc n) * suc n * p
    bound w s q n k c i r p whole is a d e =
        let one : c * w ≤ (s * i + r) * w = Rattle.std.proofs.lemmas.Nat.mul-le c w (s * i + r) w a (omega arith) in
        let two : (s * i + r) * w ≡ s * i * w + w * r = grind arith in
        let three : s * i * w ≤ s * q * w = Rattle.std.proofs.lemmas.Nat.mul-le (s * i) w (s * q) w (Rattle.std.proofs.lemmas.Nat.mul-le s i s q (omega arith) d) (omega arith) in
        let four : (q + suc n) * suc n * p ≡ s * q * w + w * (k * s) + s * w * suc n =
        subst (λ (z : ℕ). (q + suc n) * suc n * z ≡ s * q * w + w * (k * s) + s * w * suc n) (sym whole)
        (subst (λ (z : ℕ). (q + suc n) * suc n * (w * s) ≡ s * q * w + w * (z * s) + s * w * suc n) (sym is) (grind arith)) in
        omega (arith, one, two, three, four, e)
