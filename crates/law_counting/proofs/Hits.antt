-- The law.
use Rattle.std.proofs.Common.{◌≡◌, ℕ, zero, suc, ◌+◌, ◌-◌, ◌*◌, ◌^◌, ◌<◌, ◌≤◌, ◌==◌, ◌&&◌, Bool, true, false, List, refl, sym, ◌∙◌, ap, subst, arith, ◌⊎◌, inl, inr, Option, Some, None}
use Rattle.std.proofs.lemmas.Nat.{mul-le}
use Rattle.std.proofs.lemmas.Bool.{cases_lt}
use Rattle.law_counting.specs.Counting.{total, sum_all, one, put}
use Rattle.law_counting.specs.Guesses.{Attempt, Play, misses, all_miss, IsBlind, FewGuessesHit}
use Rattle.law_counting.proofs.Sums.{total_le, total_mul, total_none, total_hit, sum_le, sum_same, sum_add, sum_mul, sum_one, sum_swap, sum_lines}
use Rattle.law_counting.proofs.Lines.{at_entry, line}

-- 1. numbers
below_zero : (c a b : ℕ) → 0 < c → b < a → c * b < c * a
below_zero c a b h g = omega (arith, mul-le c (suc b) c a (omega arith) g, h)

cancel : (c a b : ℕ) → 0 < c → c * a ≤ c * b → a ≤ b
cancel c a b h g = by (cases_lt b a)
  where
    by : (b < a) ⊎ (a ≤ b) → a ≤ b
    by (inl lt) = let q : c * b < c * a = below_zero c a b h lt in absurd (omega (arith, q, g))
    by (inr le) = le

-- 2. a truth value by the entry that is tried
is_no : Option Attempt → Bool
is_no None = true
is_no (Some x) = false

split : (n : ℕ) (b : Bool) (o : Option Attempt) → ((x : Attempt) → o ≡ Some x → x.entry < n)
    → one b ≡ one (b && is_no o) + total n (λ e. one (b && at_entry e o))
unfolding is_no
split n false o h = let a : total n (λ e. 0) ≡ 0 = total_none n (λ e. 0) (λ e lt. refl) in omega (arith, a)
split n true None h = let a : total n (λ e. 0) ≡ 0 = total_none n (λ e. 0) (λ e lt. refl) in omega (arith, a)
split n true (Some x) h = let a : total n (λ e. one (x.entry == e)) ≡ 1 = total_hit n x.entry (h x refl) in omega (arith, a)

none_same : (b : Bool) (o : Option Attempt) (t : List ℕ) → one (b && is_no o) ≡ one (b && misses o t && is_no o)
unfolding is_no
none_same false o t = refl
none_same true None t = refl
none_same true (Some x) t = by (misses (Some x) t)
  where
    by : (c : Bool) → 0 ≡ one (c && false)
    by true = refl
    by false = refl

module _ (n w : ℕ) (play : Play) (is : IsBlind n w play) where
  -- so many tables survive j attempts
  abbrev left : ℕ → ℕ
  left j = sum_all n w (λ t. one (all_miss play t j))

  -- 3. one attempt more
  module _ (j k : ℕ) (wide : w ≡ j + suc k) where
    abbrev here : ℕ → List ℕ → ℕ
    here e t = one (all_miss play t j && at_entry e (play.tries t j))

    abbrev there : ℕ → List ℕ → ℕ
    there e t = one (all_miss play t (suc j) && at_entry e (play.tries t j))

    per_entry : (e : ℕ) → e < n → k * sum_all n w (here e) ≤ suc k * sum_all n w (there e)
    per_entry e low =
        let a : sum_all n w (λ t. k * total w (λ v. here e (put t e v))) ≤ sum_all n w (λ t. suc k * total w (λ v. there e (put t e v)))
        = sum_le n w (λ t. k * total w (λ v. here e (put t e v))) (λ t. suc k * total w (λ v. there e (put t e v)))
        (λ t table. line n w play is t table e low j k wide) in
        let b : sum_all n w (λ t. k * total w (λ v. here e (put t e v))) ≡ k * (w * sum_all n w (here e))
        = sum_mul n w k (λ t. total w (λ v. here e (put t e v))) ∙ ap (λ (z : ℕ). k * z) (sum_lines n w e (here e) low) in
        let c : sum_all n w (λ t. suc k * total w (λ v. there e (put t e v))) ≡ suc k * (w * sum_all n w (there e))
        = sum_mul n w (suc k) (λ t. total w (λ v. there e (put t e v))) ∙ ap (λ (z : ℕ). suc k * z) (sum_lines n w e (there e) low) in
        cancel w (k * sum_all n w (here e)) (suc k * sum_all n w (there e)) (omega (arith, wide)) (omega (arith, a, b, c))

    abbrev idle : ℕ
    idle = sum_all n w (λ t. one (all_miss play t j && is_no (play.tries t j)))

    abbrev idle2 : ℕ
    idle2 = sum_all n w (λ t. one (all_miss play t (suc j) && is_no (play.tries t j)))

    left_now : left j ≡ idle + total n (λ e. sum_all n w (here e))
    left_now =
        sum_same n w (λ t. one (all_miss play t j)) (λ t. one (all_miss play t j && is_no (play.tries t j)) + total n (λ e. here e t))
        (λ t table. split n (all_miss play t j) (play.tries t j) (λ x q. is.inside t j x table q))
        ∙ sum_add n w (λ t. one (all_miss play t j && is_no (play.tries t j))) (λ t. total n (λ e. here e t))
        ∙ ap (λ (z : ℕ). idle + z) (sum_swap n w n (λ t e. here e t))

    left_next : left (suc j) ≡ idle2 + total n (λ e. sum_all n w (there e))
    left_next =
        sum_same n w (λ t. one (all_miss play t (suc j))) (λ t. one (all_miss play t (suc j) && is_no (play.tries t j)) + total n (λ e. there e t))
        (λ t table. split n (all_miss play t (suc j)) (play.tries t j) (λ x q. is.inside t j x table q))
        ∙ sum_add n w (λ t. one (all_miss play t (suc j) && is_no (play.tries t j))) (λ t. total n (λ e. there e t))
        ∙ ap (λ (z : ℕ). idle2 + z) (sum_swap n w n (λ t e. there e t))

    idle_same : idle ≡ idle2
    idle_same =
        sum_same n w (λ t. one (all_miss play t j && is_no (play.tries t j))) (λ t. one (all_miss play t (suc j) && is_no (play.tries t j)))
        (λ t table. none_same (all_miss play t j) (play.tries t j) t)

    step : k * left j ≤ suc k * left (suc j)
    step =
        let a : total n (λ e. k * sum_all n w (here e)) ≤ total n (λ e. suc k * sum_all n w (there e))
        = total_le n (λ e. k * sum_all n w (here e)) (λ e. suc k * sum_all n w (there e)) per_entry in
        let b : total n (λ e. k * sum_all n w (here e)) ≡ k * total n (λ e. sum_all n w (here e)) = total_mul n k (λ e. sum_all n w (here e)) in
        let c : total n (λ e. suc k * sum_all n w (there e)) ≡ suc k * total n (λ e. sum_all n w (there e)) = total_mul n (suc k) (λ e. sum_all n w (there e)) in
        sums (left j) (left (suc j)) idle idle2 (total n (λ e. sum_all n w (here e))) (total n (λ e. sum_all n w (there e)))
        left_now left_next idle_same (omega (arith, a, b, c))
      where
        sums : (l m i i2 s u : ℕ) → l ≡ i + s → m ≡ i2 + u → i ≡ i2 → k * s ≤ suc k * u → k * l ≤ suc k * m
        sums l m i i2 s u p q r h =
            subst (λ (z : ℕ). k * z ≤ suc k * m) (sym p)
            (subst (λ (z : ℕ). k * (i + s) ≤ suc k * z) (sym q)
            (subst (λ (z : ℕ). k * (i + s) ≤ suc k * (z + u)) r (omega (arith, h))))

  -- 4. all attempts
  survive : (j k : ℕ) → w ≡ j + k → k * w ^ n ≤ left j * w
  survive zero k e =
      let a : left zero ≡ w ^ n = sum_one n w in
      let b : k ≡ w = omega (arith, e) in
      subst (λ (z : ℕ). k * w ^ n ≤ z * w) (sym a) (subst (λ (z : ℕ). z * w ^ n ≤ w ^ n * w) (sym b) (omega arith))
  survive (suc j) k e =
      let wide : w ≡ j + suc k = omega (arith, e) in
      let before : suc k * w ^ n ≤ left j * w = survive j (suc k) wide in
      let once : k * left j ≤ suc k * left (suc j) = step j k wide in
      last k (w ^ n) (left j) (left (suc j)) before once
    where
      last : (k m l l2 : ℕ) → suc k * m ≤ l * w → k * l ≤ suc k * l2 → k * m ≤ l2 * w
      last k m l l2 p q =
          let a : k * (suc k * m) ≤ k * (l * w) = mul-le k (suc k * m) k (l * w) (omega arith) p in
          let b : k * l * w ≤ suc k * l2 * w = mul-le (k * l) w (suc k * l2) w q (omega arith) in
          cancel (suc k) (k * m) (l2 * w) (omega arith) (grind (arith, a, b))

pub few_guesses_hit : FewGuessesHit
few_guesses_hit n width q play is le = survive n width play is q (width - q) (omega (arith, le))
