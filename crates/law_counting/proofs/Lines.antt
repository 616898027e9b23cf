-- On a line of tables an attempt at its entry hits one, if it hits any; and then most have missed so far.
use Rattle.std.proofs.Common.{◌≡◌, ℕ, zero, suc, ◌+◌, ◌*◌, ◌<◌, ◌≤◌, ◌==◌, ◌&&◌, ◌||◌, not, Bool, true, false, List, [], ◌∷◌, length, refl, sym, ◌∙◌, ap, subst, arith, ◌⊎◌, inl, inr, Option, Some, None}
use Rattle.std.proofs.lemmas.Nat.{mul-le}
use Rattle.std.proofs.lemmas.Bool.{true≢false, eqb-true, eqb-false, ne_eqb, eq-eqb, cases_eq, cases_Bool, and_parts, and_from, or_parts, not_from_false}
use Rattle.law_counting.specs.Counting.{total, one, IsTable, at, put}
use Rattle.law_counting.specs.Guesses.{Attempt, Play, misses, all_miss, IsBlind}
use Rattle.law_counting.proofs.Sums.{or_le, total_le, total_same, total_add, total_const, total_none, total_few}

-- 1. entries

-- each is one of the values
pub entry_below : (n w : ℕ) (x : List ℕ) → IsTable n w x → (k : ℕ) → k < n → at x k < w
entry_below zero w x h k lt = absurd (omega (arith, lt))
entry_below (suc n) w [] h k lt = absurd h
entry_below (suc n) w (y ∷ x) h zero lt = h.0
entry_below (suc n) w (y ∷ x) h (suc k) lt = entry_below n w x h.1 k (omega (arith, lt))

pub put_table : (n w : ℕ) (t : List ℕ) (e v : ℕ) → IsTable n w t → v < w → IsTable n w (put t e v)
put_table zero w [] e v h lt = h
put_table zero w (u ∷ t) e v h lt = absurd h
put_table (suc n) w [] e v h lt = absurd h
put_table (suc n) w (u ∷ t) zero v h lt = (lt, h.1)
put_table (suc n) w (u ∷ t) (suc e) v h lt = (h.0, put_table n w t e v h.1 lt)

put_again : (t : List ℕ) (e u v : ℕ) → put (put t e u) e v ≡ put t e v
put_again [] e u v = refl
put_again (x ∷ t) zero u v = refl
put_again (x ∷ t) (suc e) u v = ap (λ (z : List ℕ). x ∷ z) (put_again t e u v)

at_put : (n w : ℕ) (t : List ℕ) (e v : ℕ) → IsTable n w t → e < n → at (put t e v) e ≡ v
at_put zero w t e v h lt = absurd (omega (arith, lt))
at_put (suc n) w [] e v h lt = absurd h
at_put (suc n) w (u ∷ t) zero v h lt = refl
at_put (suc n) w (u ∷ t) (suc e) v h lt = at_put n w t e v h.1 (omega (arith, lt))

pub at_other : (t : List ℕ) (d e v : ℕ) → (d ≡ e → ⊥) → at (put t e v) d ≡ at t d
at_other [] d e v ne = refl
at_other (u ∷ t) zero zero v ne = absurd (ne refl)
at_other (u ∷ t) zero (suc e) v ne = refl
at_other (u ∷ t) (suc d) zero v ne = refl
at_other (u ∷ t) (suc d) (suc e) v ne = at_other t d e v (λ q. ne (ap suc q))

-- 2. whether a test holds of one of the numbers below w
find : (w : ℕ) (b : ℕ → Bool) → ((v : ℕ) → v < w → b v ≡ false) ⊎ ((v : ℕ) × (v < w) × (b v ≡ true))
find zero b = inl (λ v lt. absurd (omega (arith, lt)))
find (suc n) b = by (cases_Bool (b n)) (find n b)
  where
    by : (b n ≡ true) ⊎ (b n ≡ false) → ((v : ℕ) → v < n → b v ≡ false) ⊎ ((v : ℕ) × (v < n) × (b v ≡ true))
        → ((v : ℕ) → v < suc n → b v ≡ false) ⊎ ((v : ℕ) × (v < suc n) × (b v ≡ true))
    by (inl yes') k = inr (n, omega arith, yes')
    by (inr no') (inr k) = inr (k.0, omega (arith, k.1), k.2)
    by (inr no') (inl k) = inl (λ v lt. at_v v lt (cases_eq v n))
      where
        at_v : (v : ℕ) → v < suc n → (v ≡ n) ⊎ (v ≡ n → ⊥) → b v ≡ false
        at_v v lt (inl e) = ap b e ∙ no'
        at_v v lt (inr ne) = k v (omega (arith, lt, ne))

-- 3. the values that an entry was tried with
abbrev mem : ℕ → List ℕ → Bool
mem v [] = false
mem v (x ∷ xs) = (x == v) || mem v xs

mem_few : (w : ℕ) (xs : List ℕ) → total w (λ v. one (mem v xs)) ≤ length xs
mem_few w [] = let a : total w (λ v. 0) ≡ 0 = total_none w (λ v. 0) (λ v lt. refl) in omega (arith, a)
mem_few w (x ∷ xs) =
    let a : total w (λ v. one (mem v (x ∷ xs))) ≤ total w (λ v. one (x == v) + one (mem v xs))
    = total_le w (λ v. one (mem v (x ∷ xs))) (λ v. one (x == v) + one (mem v xs)) (λ v lt. or_le (x == v) (mem v xs)) in
    let b : total w (λ v. one (x == v) + one (mem v xs)) ≡ total w (λ v. one (x == v)) + total w (λ v. one (mem v xs))
    = total_add w (λ v. one (x == v)) (λ v. one (mem v xs)) in
    let c : total w (λ v. one (x == v)) ≤ 1 = total_few w x in
    let d : total w (λ v. one (mem v xs)) ≤ length xs = mem_few w xs in
    omega (arith, a, b, c, d)

abbrev pub at_entry : ℕ → Option Attempt → Bool
at_entry e None = false
at_entry e (Some x) = x.entry == e

abbrev pick : Bool → ℕ → List ℕ → List ℕ
pick true v ys = v ∷ ys
pick false v ys = ys

abbrev noted : ℕ → Option Attempt → List ℕ → List ℕ
noted e None xs = xs
noted e (Some x) xs = pick (x.entry == e) x.value xs

abbrev tried : Play → List ℕ → ℕ → ℕ → List ℕ
tried play s e zero = []
tried play s e (suc i) = noted e (play.tries s i) (tried play s e i)

noted_long : (e : ℕ) (o : Option Attempt) (xs : List ℕ) → length (noted e o xs) ≤ suc (length xs)
noted_long e None xs = omega arith
noted_long e (Some x) xs = by (x.entry == e)
  where
    by : (b : Bool) → length (pick b x.value xs) ≤ suc (length xs)
    by true = omega arith
    by false = omega arith

tried_few : (play : Play) (s : List ℕ) (e i : ℕ) → length (tried play s e i) ≤ i
tried_few play s e zero = omega arith
tried_few play s e (suc i) = omega (arith, noted_long e (play.tries s i) (tried play s e i), tried_few play s e i)

-- 4. Now a table s of which the first j attempts miss, and an entry that isn't given before the j-th.
module _ (n w : ℕ) (play : Play) (is : IsBlind n w play) (s : List ℕ) (table : IsTable n w s) (e : ℕ) (low : e < n) where
  -- what misses later missed before
  missed : (i j : ℕ) → i ≤ j → all_miss play s j ≡ true → all_miss play s i ≡ true
  missed i zero le h =
      let q : 0 ≡ i = omega (arith, le) in subst (λ (z : ℕ). all_miss play s z ≡ true) q h
  missed i (suc j) le h = by (cases_eq i (suc j)) (missed i j)
    where
      by : (i ≡ suc j) ⊎ (i ≡ suc j → ⊥) → (i ≤ j → all_miss play s j ≡ true → all_miss play s i ≡ true) → all_miss play s i ≡ true
      by (inl q) rec = subst (λ (z : ℕ). all_miss play s z ≡ true) (sym q) h
      by (inr ne) rec = rec (omega (arith, le, ne)) (and_parts (all_miss play s j) (misses (play.tries s j) s) h).0

  -- an attempt that missed here misses there, too, but where it is at this entry with this value
  misses_there : (v : ℕ) (o : Option Attempt) (xs : List ℕ) → v < w → misses o s ≡ true → mem v (noted e o xs) ≡ false → misses o (put s e v) ≡ true
  misses_there v None xs lt h k = refl
  misses_there v (Some x) xs lt h k = by (cases_eq x.entry e)
    where
      by : (x.entry ≡ e) ⊎ (x.entry ≡ e → ⊥) → not (at (put s e v) x.entry == x.value) ≡ true
      by (inl q) =
          let m : mem v (x.value ∷ xs) ≡ false = subst (λ (b : Bool). mem v (pick b x.value xs) ≡ false) (eq-eqb x.entry e q) k in
          let apart : (x.value == v) ≡ false = (or_parts (x.value == v) (mem v xs) m).0 in
          let here : at (put s e v) x.entry ≡ v = ap (at (put s e v)) q ∙ at_put n w s e v table low in
          not_from_false (at (put s e v) x.entry == x.value) (ne_eqb (at (put s e v) x.entry) x.value (λ r. eqb-false x.value v apart (sym r ∙ here)))
      by (inr ne) = subst (λ (z : ℕ). not (z == x.value) ≡ true) (sym (at_other s x.entry e v ne)) h

  untried : (v i : ℕ) → mem v (tried play s e (suc i)) ≡ false → mem v (tried play s e i) ≡ false
  untried v i h = by (play.tries s i) h
    where
      by : (o : Option Attempt) → mem v (noted e o (tried play s e i)) ≡ false → mem v (tried play s e i) ≡ false
      by None k = k
      by (Some x) k = pass (x.entry == e) k
        where
          pass : (b : Bool) → mem v (pick b x.value (tried play s e i)) ≡ false → mem v (tried play s e i) ≡ false
          pass true m = (or_parts (x.value == v) (mem v (tried play s e i)) m).1
          pass false m = m

  module _ (j : ℕ) (all : all_miss play s j ≡ true) (new : play.given s j e ≡ false) where
    -- with a value that wasn't tried all attempts miss, too
    spared : (v i : ℕ) → v < w → i ≤ j → mem v (tried play s e i) ≡ false → all_miss play (put s e v) i ≡ true
    spared v zero lt le h = refl
    spared v (suc i) lt le h =
        let here : all_miss play s (suc i) ≡ true = missed (suc i) j le all in
        let parts : (all_miss play s i ≡ true) × (misses (play.tries s i) s ≡ true) = and_parts (all_miss play s i) (misses (play.tries s i) s) here in
        let there : all_miss play (put s e v) i ≡ true = spared v i lt (omega (arith, le)) (untried v i h) in
        let same : play.tries (put s e v) i ≡ play.tries s i
        = is.blind s i e v table low lt (is.stays s i j e table (omega (arith, le)) new) parts.0 there in
        let miss : misses (play.tries s i) (put s e v) ≡ true = misses_there v (play.tries s i) (tried play s e i) lt parts.1 h in
        and_from (all_miss play (put s e v) i) (misses (play.tries (put s e v) i) (put s e v)) there
        (subst (λ (o : Option Attempt). misses o (put s e v) ≡ true) (sym same) miss)

    -- and the next attempt is the same
    next_same : (v : ℕ) → v < w → all_miss play (put s e v) j ≡ true → play.tries (put s e v) j ≡ play.tries s j
    next_same v lt h = is.blind s j e v table low lt new all h

    abbrev before_v : ℕ → Bool
    before_v v = all_miss play (put s e v) j && at_entry e (play.tries (put s e v) j)

    abbrev after_v : ℕ → Bool
    after_v v = all_miss play (put s e v) (suc j) && at_entry e (play.tries (put s e v) j)

    module _ (x : Attempt) (it : play.tries s j ≡ Some x) (mine : x.entry ≡ e) where
      many : w ≤ total w (λ v. one (before_v v)) + j
      many =
          let a : total w (λ v. 1) ≤ total w (λ v. one (before_v v) + one (mem v (tried play s e j)))
          = total_le w (λ v. 1) (λ v. one (before_v v) + one (mem v (tried play s e j))) (λ v lt. each v lt (cases_Bool (mem v (tried play s e j)))) in
          let b : total w (λ v. one (before_v v) + one (mem v (tried play s e j))) ≡ total w (λ v. one (before_v v)) + total w (λ v. one (mem v (tried play s e j)))
          = total_add w (λ v. one (before_v v)) (λ v. one (mem v (tried play s e j))) in
          let c : total w (λ v. one (mem v (tried play s e j))) ≤ length (tried play s e j) = mem_few w (tried play s e j) in
          let d : length (tried play s e j) ≤ j = tried_few play s e j in
          let f : total w (λ v. 1) ≡ w * 1 = total_const w 1 in
          omega (arith, a, b, c, d, f)
        where
          each : (v : ℕ) → v < w → (mem v (tried play s e j) ≡ true) ⊎ (mem v (tried play s e j) ≡ false)
              → 1 ≤ one (before_v v) + one (mem v (tried play s e j))
          each v lt (inl m) = let q : one (mem v (tried play s e j)) ≡ 1 = ap one m in omega (arith, q)
          each v lt (inr m) =
              let miss : all_miss play (put s e v) j ≡ true = spared v j lt (omega arith) m in
              let at_it : at_entry e (play.tries (put s e v) j) ≡ true
              = ap (at_entry e) (next_same v lt miss ∙ it) ∙ eq-eqb x.entry e mine in
              let q : one (before_v v) ≡ 1 = ap one (and_from (all_miss play (put s e v) j) (at_entry e (play.tries (put s e v) j)) miss at_it) in
              omega (arith, q)

      one_hit : total w (λ v. one (before_v v)) ≤ total w (λ v. one (after_v v)) + 1
      one_hit =
          let a : total w (λ v. one (before_v v)) ≤ total w (λ v. one (after_v v) + one (x.value == v))
          = total_le w (λ v. one (before_v v)) (λ v. one (after_v v) + one (x.value == v)) (λ v lt. each v lt (cases_Bool (before_v v)) (cases_eq x.value v)) in
          let b : total w (λ v. one (after_v v) + one (x.value == v)) ≡ total w (λ v. one (after_v v)) + total w (λ v. one (x.value == v))
          = total_add w (λ v. one (after_v v)) (λ v. one (x.value == v)) in
          let c : total w (λ v. one (x.value == v)) ≤ 1 = total_few w x.value in
          omega (arith, a, b, c)
        where
          each : (v : ℕ) → v < w → (before_v v ≡ true) ⊎ (before_v v ≡ false) → (x.value ≡ v) ⊎ (x.value ≡ v → ⊥)
              → one (before_v v) ≤ one (after_v v) + one (x.value == v)
          each v lt (inr none') k = let q : one (before_v v) ≡ 0 = ap one none' in omega (arith, q)
          each v lt (inl some') (inl hit) =
              let q : one (before_v v) ≡ 1 = ap one some' in
              let r : one (x.value == v) ≡ 1 = ap one (eq-eqb x.value v hit) in omega (arith, q, r)
          each v lt (inl some') (inr ne) =
              let parts : (all_miss play (put s e v) j ≡ true) × (at_entry e (play.tries (put s e v) j) ≡ true)
              = and_parts (all_miss play (put s e v) j) (at_entry e (play.tries (put s e v) j)) some' in
              let same : play.tries (put s e v) j ≡ Some x = next_same v lt parts.0 ∙ it in
              let here : at (put s e v) x.entry ≡ v = ap (at (put s e v)) mine ∙ at_put n w s e v table low in
              let miss : misses (play.tries (put s e v) j) (put s e v) ≡ true
              = subst (λ (o : Option Attempt). misses o (put s e v) ≡ true) (sym same)
              (not_from_false (at (put s e v) x.entry == x.value) (ne_eqb (at (put s e v) x.entry) x.value (λ r. ne (sym r ∙ here)))) in
              let q : one (before_v v) ≡ 1 = ap one some' in
              let r : one (after_v v) ≡ 1 = ap one (and_from (all_miss play (put s e v) (suc j)) (at_entry e (play.tries (put s e v) j))
              (and_from (all_miss play (put s e v) j) (misses (play.tries (put s e v) j) (put s e v)) parts.0 miss) parts.1) in
              omega (arith, q, r)

-- 5. numbers
less_of_line : (k m p : ℕ) → suc k ≤ m → m ≤ p + 1 → k * m ≤ suc k * p
less_of_line k m p h g =
    let a : k * m ≤ k * (p + 1) = mul-le k m k (p + 1) (omega arith) g in
    omega (arith, a, h, g)

-- 6. The line of any table t.
module _ (n w : ℕ) (play : Play) (is : IsBlind n w play) (t : List ℕ) (table : IsTable n w t) (e : ℕ) (low : e < n) (j k : ℕ) (wide : w ≡ j + suc k) where
  abbrev first : ℕ → Bool
  first v = all_miss play (put t e v) j && at_entry e (play.tries (put t e v) j)

  abbrev second : ℕ → Bool
  second v = all_miss play (put t e v) (suc j) && at_entry e (play.tries (put t e v) j)

  pub line : k * total w (λ v. one (first v)) ≤ suc k * total w (λ v. one (second v))
  line = by (find w first)
    where
      by : ((v : ℕ) → v < w → first v ≡ false) ⊎ ((v : ℕ) × (v < w) × (first v ≡ true)) → k * total w (λ v. one (first v)) ≤ suc k * total w (λ v. one (second v))
      by (inl none') =
          let a : total w (λ v. one (first v)) ≡ 0 = total_none w (λ v. one (first v)) (λ v lt. ap one (none' v lt)) in
          subst (λ (z : ℕ). k * z ≤ suc k * total w (λ v. one (second v))) (sym a) (omega arith)
      by (inr found) = at_one (play.tries (put t e found.0) j) refl
        where
          at_one : (o : Option Attempt) → play.tries (put t e found.0) j ≡ o → k * total w (λ v. one (first v)) ≤ suc k * total w (λ v. one (second v))
          at_one o is_o = by_o o is_o
              (and_parts (all_miss play (put t e found.0) j) (at_entry e (play.tries (put t e found.0) j)) found.2)
            where
              by_o : (o : Option Attempt) → play.tries (put t e found.0) j ≡ o
                  → (all_miss play (put t e found.0) j ≡ true) × (at_entry e (play.tries (put t e found.0) j) ≡ true)
                  → k * total w (λ v. one (first v)) ≤ suc k * total w (λ v. one (second v))
              by_o None q parts = absurd (true≢false (sym parts.1 ∙ ap (at_entry e) q))
              by_o (Some x) q parts =
                  let s : List ℕ = put t e found.0 in
                  let ts : IsTable n w s = put_table n w t e found.0 table found.1 in
                  let mine : x.entry ≡ e = eqb-true x.entry e (sym (ap (at_entry e) q) ∙ parts.1) in
                  let new : play.given s j e ≡ false = subst (λ (z : ℕ). play.given s j z ≡ false) mine (is.fresh s j x ts q) in
                  let m : w ≤ total w (λ v. one (all_miss play (put s e v) j && at_entry e (play.tries (put s e v) j))) + j
                  = many n w play is s ts e low j parts.0 new x q mine in
                  let h : total w (λ v. one (all_miss play (put s e v) j && at_entry e (play.tries (put s e v) j)))
                  ≤ total w (λ v. one (all_miss play (put s e v) (suc j) && at_entry e (play.tries (put s e v) j))) + 1
                  = one_hit n w play is s ts e low j parts.0 new x q mine in
                  let a : total w (λ v. one (all_miss play (put s e v) j && at_entry e (play.tries (put s e v) j))) ≡ total w (λ v. one (first v))
                  = total_same w (λ v. one (all_miss play (put s e v) j && at_entry e (play.tries (put s e v) j))) (λ v. one (first v))
                  (λ v lt. ap (λ (z : List ℕ). one (all_miss play z j && at_entry e (play.tries z j))) (put_again t e found.0 v)) in
                  let b : total w (λ v. one (all_miss play (put s e v) (suc j) && at_entry e (play.tries (put s e v) j))) ≡ total w (λ v. one (second v))
                  = total_same w (λ v. one (all_miss play (put s e v) (suc j) && at_entry e (play.tries (put s e v) j))) (λ v. one (second v))
                  (λ v lt. ap (λ (z : List ℕ). one (all_miss play z (suc j) && at_entry e (play.tries z j))) (put_again t e found.0 v)) in
                  less_of_line k (total w (λ v. one (first v))) (total w (λ v. one (second v))) (omega (arith, m, a, wide)) (omega (arith, h, a, b))
