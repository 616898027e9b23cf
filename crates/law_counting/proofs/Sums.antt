-- Sums over numbers and over tables.
use Rattle.std.proofs.Common.{◌≡◌, ℕ, zero, suc, ◌+◌, ◌*◌, ◌^◌, ◌<◌, ◌≤◌, ◌==◌, ◌||◌, Bool, true, false, List, [], ◌∷◌, refl, sym, ◌∙◌, ap, arith, ◌⊎◌, inl, inr}
use Rattle.std.proofs.Math.Nat.{pow-suc, pow-zero}
use Rattle.std.proofs.lemmas.Bool.{ne_eqb, eq-eqb, cases_eq}
use Rattle.law_counting.specs.Counting.{total, sum_all, one, IsTable, put}

pub or_le : (b c : Bool) → one (b || c) ≤ one b + one c
or_le true c = omega arith
or_le false c = omega arith

pub total_le : (w : ℕ) (f g : ℕ → ℕ) → ((v : ℕ) → v < w → f v ≤ g v) → total w f ≤ total w g
total_le zero f g h = omega arith
total_le (suc n) f g h =
    let a : total n f ≤ total n g = total_le n f g (λ v lt. h v (omega (arith, lt))) in
    let b : f n ≤ g n = h n (omega arith) in omega (arith, a, b)

pub total_same : (w : ℕ) (f g : ℕ → ℕ) → ((v : ℕ) → v < w → f v ≡ g v) → total w f ≡ total w g
total_same zero f g h = refl
total_same (suc n) f g h =
    let a : total n f ≡ total n g = total_same n f g (λ v lt. h v (omega (arith, lt))) in
    let b : f n ≡ g n = h n (omega arith) in omega (arith, a, b)

pub total_add : (w : ℕ) (f g : ℕ → ℕ) → total w (λ v. f v + g v) ≡ total w f + total w g
total_add zero f g = refl
total_add (suc n) f g = let a : total n (λ v. f v + g v) ≡ total n f + total n g = total_add n f g in omega (arith, a)

pub total_mul : (w k : ℕ) (f : ℕ → ℕ) → total w (λ v. k * f v) ≡ k * total w f
total_mul zero k f = omega arith
total_mul (suc n) k f = let a : total n (λ v. k * f v) ≡ k * total n f = total_mul n k f in omega (arith, a)

pub total_const : (w c : ℕ) → total w (λ v. c) ≡ w * c
total_const zero c = omega arith
total_const (suc n) c = let a : total n (λ v. c) ≡ n * c = total_const n c in omega (arith, a)

pub total_none : (w : ℕ) (f : ℕ → ℕ) → ((v : ℕ) → v < w → f v ≡ 0) → total w f ≡ 0
total_none zero f h = refl
total_none (suc n) f h =
    let a : total n f ≡ 0 = total_none n f (λ v lt. h v (omega (arith, lt))) in
    let b : f n ≡ 0 = h n (omega arith) in omega (arith, a, b)

pub total_swap : (w m : ℕ) (f : ℕ → ℕ → ℕ) → total w (λ u. total m (f u)) ≡ total m (λ v. total w (λ u. f u v))
total_swap zero m f = sym (total_none m (λ v. 0) (λ v lt. refl))
total_swap (suc n) m f =
    let a : total n (λ u. total m (f u)) ≡ total m (λ v. total n (λ u. f u v)) = total_swap n m f in
    let b : total m (λ v. total n (λ u. f u v) + f n v) ≡ total m (λ v. total n (λ u. f u v)) + total m (f n)
    = total_add m (λ v. total n (λ u. f u v)) (f n) in
    omega (arith, a, b)

-- one of n numbers is this one, if it is below n
pub total_hit : (n x : ℕ) → x < n → total n (λ e. one (x == e)) ≡ 1
total_hit zero x lt = absurd (omega (arith, lt))
total_hit (suc n) x lt = by (total_hit n x) (cases_eq x n)
  where
    by : (x < n → total n (λ e. one (x == e)) ≡ 1) → (x ≡ n) ⊎ (x ≡ n → ⊥) → total n (λ e. one (x == e)) + one (x == n) ≡ 1
    by rec (inl e) =
        let a : total n (λ k. one (x == k)) ≡ 0 = total_none n (λ k. one (x == k)) (λ k below. ap one (ne_eqb x k (λ q. omega (arith, q, e, below)))) in
        let b : one (x == n) ≡ 1 = ap one (eq-eqb x n e) in omega (arith, a, b)
    by rec (inr ne) =
        let below : x < n = omega (arith, lt, ne) in
        let a : total n (λ k. one (x == k)) ≡ 1 = rec below in
        let b : one (x == n) ≡ 0 = ap one (ne_eqb x n ne) in omega (arith, a, b)

-- it is at most one of them
pub total_few : (n x : ℕ) → total n (λ e. one (x == e)) ≤ 1
total_few zero x = omega arith
total_few (suc n) x = by (total_few n x) (cases_eq x n)
  where
    by : total n (λ e. one (x == e)) ≤ 1 → (x ≡ n) ⊎ (x ≡ n → ⊥) → total n (λ e. one (x == e)) + one (x == n) ≤ 1
    by rec (inl e) =
        let a : total n (λ k. one (x == k)) ≡ 0 = total_none n (λ k. one (x == k)) (λ k below. ap one (ne_eqb x k (λ q. omega (arith, q, e, below)))) in
        let b : one (x == n) ≡ 1 = ap one (eq-eqb x n e) in omega (arith, a, b)
    by rec (inr ne) =
        let a : total n (λ k. one (x == k)) ≤ 1 = rec in
        let b : one (x == n) ≡ 0 = ap one (ne_eqb x n ne) in omega (arith, a, b)

pub sum_le : (n w : ℕ) (f g : List ℕ → ℕ) → ((t : List ℕ) → IsTable n w t → f t ≤ g t) → sum_all n w f ≤ sum_all n w g
sum_le zero w f g h = h [] tt
sum_le (suc n) w f g h =
    total_le w (λ v. sum_all n w (λ vs. f (v ∷ vs))) (λ v. sum_all n w (λ vs. g (v ∷ vs)))
    (λ v lt. sum_le n w (λ vs. f (v ∷ vs)) (λ vs. g (v ∷ vs)) (λ vs k. h (v ∷ vs) (lt, k)))

pub sum_same : (n w : ℕ) (f g : List ℕ → ℕ) → ((t : List ℕ) → IsTable n w t → f t ≡ g t) → sum_all n w f ≡ sum_all n w g
sum_same zero w f g h = h [] tt
sum_same (suc n) w f g h =
    total_same w (λ v. sum_all n w (λ vs. f (v ∷ vs))) (λ v. sum_all n w (λ vs. g (v ∷ vs)))
    (λ v lt. sum_same n w (λ vs. f (v ∷ vs)) (λ vs. g (v ∷ vs)) (λ vs k. h (v ∷ vs) (lt, k)))

pub sum_add : (n w : ℕ) (f g : List ℕ → ℕ) → sum_all n w (λ t. f t + g t) ≡ sum_all n w f + sum_all n w g
sum_add zero w f g = refl
sum_add (suc n) w f g =
    total_same w (λ v. sum_all n w (λ vs. f (v ∷ vs) + g (v ∷ vs))) (λ v. sum_all n w (λ vs. f (v ∷ vs)) + sum_all n w (λ vs. g (v ∷ vs)))
    (λ v lt. sum_add n w (λ vs. f (v ∷ vs)) (λ vs. g (v ∷ vs)))
    ∙ total_add w (λ v. sum_all n w (λ vs. f (v ∷ vs))) (λ v. sum_all n w (λ vs. g (v ∷ vs)))

pub sum_mul : (n w k : ℕ) (f : List ℕ → ℕ) → sum_all n w (λ t. k * f t) ≡ k * sum_all n w f
sum_mul zero w k f = refl
sum_mul (suc n) w k f =
    total_same w (λ v. sum_all n w (λ vs. k * f (v ∷ vs))) (λ v. k * sum_all n w (λ vs. f (v ∷ vs)))
    (λ v lt. sum_mul n w k (λ vs. f (v ∷ vs)))
    ∙ total_mul w k (λ v. sum_all n w (λ vs. f (v ∷ vs)))

-- there are so many tables
pub sum_one : (n w : ℕ) → sum_all n w (λ t. 1) ≡ w ^ n
sum_one zero w = sym (pow-zero w)
sum_one (suc n) w =
    total_same w (λ v. sum_all n w (λ vs. 1)) (λ v. w ^ n) (λ v lt. sum_one n w)
    ∙ total_const w (w ^ n) ∙ omega (arith, pow-suc w n)

-- a sum of sums over tables
pub sum_swap : (n w m : ℕ) (f : List ℕ → ℕ → ℕ) → sum_all n w (λ t. total m (f t)) ≡ total m (λ v. sum_all n w (λ t. f t v))
sum_swap zero w m f = refl
sum_swap (suc n) w m f =
    total_same w (λ u. sum_all n w (λ vs. total m (f (u ∷ vs)))) (λ u. total m (λ v. sum_all n w (λ vs. f (u ∷ vs) v)))
    (λ u lt. sum_swap n w m (λ vs. f (u ∷ vs)))
    ∙ total_swap w m (λ u v. sum_all n w (λ vs. f (u ∷ vs) v))

-- each table is on a line of w tables, which differ at one entry
pub sum_lines : (n w e : ℕ) (f : List ℕ → ℕ) → e < n → sum_all n w (λ t. total w (λ v. f (put t e v))) ≡ w * sum_all n w f
sum_lines zero w e f lt = absurd (omega (arith, lt))
sum_lines (suc n) w zero f lt =
    total_const w (sum_all n w (λ vs. total w (λ v. f (v ∷ vs))))
    ∙ ap (λ (z : ℕ). w * z) (sum_swap n w w (λ vs v. f (v ∷ vs)))
sum_lines (suc n) w (suc e) f lt =
    total_same w (λ u. sum_all n w (λ vs. total w (λ v. f (u ∷ put vs e v)))) (λ u. w * sum_all n w (λ vs. f (u ∷ vs)))
    (λ u below. sum_lines n w e (λ vs. f (u ∷ vs)) (omega (arith, lt)))
    ∙ total_mul w w (λ u. sum_all n w (λ vs. f (u ∷ vs)))
