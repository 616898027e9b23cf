-- A state follows a path that a test narrowed, if the test came out so.
use Rattle.std.proofs.Common.{◌≡◌, ◌≤◌, ◌⊎◌, inl, inr, ℕ, zero, suc, ◌+◌, ◌-◌, ◌==◌, Bool, true, false, not, if◌then◌else◌, List, [], ◌∷◌, ◌++◌, max, Some}
use Rattle.std.proofs.Common.{nat_lt, nat_le, refl, sym, ap, ◌∙◌, subst, arith}
use Rattle.std.specs.Prelude.{bit_and, bit_or, slice_index, slice_set, unwrap_or, ◌&&◌}
use Rattle.std.specs.List.{AllZip, flat_map}
use Rattle.std.proofs.lemmas.Bool.{eqb-false, eqb-true, ltb-false, ltb-true}
use Rattle.std.proofs.lemmas.Bool.Decides.{nat_tests}
use Rattle.std.proofs.lemmas.Nat.{and_le_l, and_le_r, le_or_l, le_or_r}
use Rattle.sx_lang.specs.declared.tree.Decl.{Decl}
use Rattle.sx_lang.specs.declared.tree.UnOp.TheVariants.{Not}
use Rattle.sx_lang.specs.declared.tree.BinOp.TheVariants.{And, Eq, Ge, Gt, Le, Lt, Ne, Or}
use Rattle.sx_lang.specs.Tree.{Expression, Constant, Variable, Indexed, Applied, Combined}
use Rattle.sx_check.specs.Names.{same}
use Rattle.lemmas.specs.Truth.{truth}
use Rattle.sx_mean.specs.declared.moments.Local.{Local}
use Rattle.sx_mean.specs.Places.{place, array_length}
use Rattle.sx_mean.specs.Meaning.{HandlerState, look_up, value}
use Rattle.sx_mean.proofs.Words.{not_equal}
use Rattle.sx_span.specs.Intervals.{Interval, Lies, between, only}
use Rattle.sx_span.specs.Ranges.{Follows, LocalLies, LocalRange, Path, look_up_range, range_of}
use Rattle.sx_span.specs.Narrow.{limit, limit_both, limit_cell, limit_element, limit_local, limit_name, limit_to, are_flags, meet, narrow, narrow_plain}
use Rattle.sx_span.specs.Narrow.{narrow_equal, narrow_less, without}
use Rattle.sx_span.specs.Sound.{FollowsOne}
use Rattle.sx_span.proofs.Followed.{one, one_flat, one_left, one_right}
use Rattle.sx_span.proofs.Values.{ranges_hold}

-- Places

cells_limited : (cells : List ℕ) (box : List Interval) (k : ℕ) (i : Interval) → AllZip Lies cells box → Lies (slice_index cells k) i → AllZip Lies cells (slice_set box k i)
cells_limited [] [] k i z h = tt
cells_limited [] (b ∷ box) k i z h = absurd z
cells_limited (c ∷ cells) [] k i z h = absurd z
cells_limited (c ∷ cells) (b ∷ box) zero i z h = (h, z.1)
cells_limited (c ∷ cells) (b ∷ box) (suc k) i z h = (z.0, cells_limited cells box k i z.1 h)

locals_limited : (ls : List Local) (rs : List LocalRange) (x : List ℕ) (c : ℕ) (i : Interval) → AllZip LocalLies ls rs → Lies (unwrap_or (look_up ls x) c) i
    → AllZip LocalLies ls (limit_local rs x i)
locals_limited [] [] x c i z h = tt
locals_limited [] (r ∷ rs) x c i z h = absurd z
locals_limited (l ∷ ls) [] x c i z h = absurd z
locals_limited (l ∷ ls) (r ∷ rs) x c i z h = go (same x l.name) (same x r.name) (ap (λ n. same x n) z.0.0) (λ m. locals_limited ls rs x c i z.1 m) h
  where
    go : (s t : Bool) → s ≡ t → (Lies (unwrap_or (look_up ls x) c) i → AllZip LocalLies ls (limit_local rs x i))
        → Lies (unwrap_or (if s then Some l.value else look_up ls x) c) i
        → AllZip LocalLies (l ∷ ls) (if t then record r { range = i } ∷ rs else r ∷ limit_local rs x i)
    go true true e more h = ((z.0.0, h), z.1)
    go true false e more h = absurd (cc)
    go false true e more h = absurd (cc)
    go false false e more h = (z.0, more h)

hidden : (ls : List Local) (rs : List LocalRange) (x : List ℕ) (cells : List ℕ) (box : List Interval) (k : ℕ) (i : Interval) → AllZip LocalLies ls rs → AllZip Lies cells box
    → Lies (unwrap_or (look_up ls x) (slice_index cells k)) i → AllZip Lies cells (limit_cell (look_up_range rs x) box k i)
hidden [] [] x cells box k i z y h = cells_limited cells box k i y h
hidden [] (r ∷ rs) x cells box k i z y h = absurd z
hidden (l ∷ ls) [] x cells box k i z y h = absurd z
hidden (l ∷ ls) (r ∷ rs) x cells box k i z y h = go (same x l.name) (same x r.name) (ap (λ n. same x n) z.0.0) (λ m. hidden ls rs x cells box k i z.1 y m) h
  where
    go : (s t : Bool) → s ≡ t → (Lies (unwrap_or (look_up ls x) (slice_index cells k)) i → AllZip Lies cells (limit_cell (look_up_range rs x) box k i))
        → Lies (unwrap_or (if s then Some l.value else look_up ls x) (slice_index cells k)) i
        → AllZip Lies cells (limit_cell (if t then Some r.range else look_up_range rs x) box k i)
    go true true e more h = y
    go true false e more h = absurd (cc)
    go false true e more h = absurd (cc)
    go false false e more h = more h

name_limited : (ds : List Decl) (x : List ℕ) (i : Interval) (st : HandlerState) (p : Path) → Follows st p → Lies (value ds st (Variable x)) i → Follows st (limit_name ds x i p)
name_limited ds x i st p f h = record {
  locals = locals_limited st.locals p.locals x (slice_index st.cells (place ds x)) i f.locals h;
  cells = hidden st.locals p.locals x st.cells p.cells (place ds x) i f.locals f.cells h;
  acts = f.acts;
}

element_limited : (ds : List Decl) (x : List ℕ) (k : ℕ) (j i : Interval) (st : HandlerState) (p : Path) → Follows st p → Lies k j
    → Lies (if nat_lt k (array_length ds x) then slice_index st.cells (place ds x + k) else 0) i → Follows st (limit_element ds x j i p)
element_limited ds x k j i st p f l h = go (j.low == j.high) (nat_lt j.low (array_length ds x)) (nat_lt k (array_length ds x)) refl refl refl h
  where
    go : (a b c : Bool) → (j.low == j.high) ≡ a → nat_lt j.low (array_length ds x) ≡ b → nat_lt k (array_length ds x) ≡ c
        → Lies (if c then slice_index st.cells (place ds x + k) else 0) i
        → Follows st (if a && b then record p { cells = slice_set p.cells (place ds x + j.low) i } else p)
    go true true true q r s h =
        let e = eqb-true j.low j.high q in
        let m : k ≡ j.low = omega arith in
        record {
          locals = f.locals;
          cells = cells_limited st.cells p.cells (place ds x + j.low) i f.cells (subst (λ n. Lies (slice_index st.cells (place ds x + n)) i) m h);
          acts = f.acts;
        }
    go true true false q r s h =
        let e = eqb-true j.low j.high q in
        let u = ltb-true j.low (array_length ds x) r in
        let w = ltb-false k (array_length ds x) s in
        absurd (omega arith)
    go true false c q r s h = f
    go false true c q r s h = f
    go false false c q r s h = f

to_limited : (ds : List Decl) (e : Expression) (i : Interval) (st : HandlerState) (p : Path) → Follows st p → Lies (value ds st e) i → Follows st (limit_to ds e i p)
to_limited ds (Constant n) i st p f h = f
to_limited ds (Variable x) i st p f h = name_limited ds x i st p f h
to_limited ds (Indexed x e) i st p f h = element_limited ds x (value ds st e) (range_of ds p e) i st p f (ranges_hold ds st p e f) h
to_limited ds (Applied o e) i st p f h = f
to_limited ds (Combined o a b) i st p f h = f

meets : (v : ℕ) (i j : Interval) → Lies v i → Lies v j → Lies v (meet i j)
meets v i j p q = record { above = omega arith; below = omega arith }

limits : (ds : List Decl) (e : Expression) (i : Interval) (st : HandlerState) (p : Path) → Follows st p → Lies (value ds st e) i → FollowsOne st (limit ds e i p)
limits ds e i st p f h = go (nat_lt j.high j.low) refl
  where
    j : Interval
    j = meet (range_of ds p e) i

    go : (t : Bool) → nat_lt j.high j.low ≡ t → FollowsOne st (if t then [] else limit_to ds e j p ∷ [])
    go true q =
        let m = meets (value ds st e) (range_of ds p e) i (ranges_hold ds st p e f) h in
        let u = ltb-true j.high j.low q in
        absurd (omega (arith, m.above, m.below, u))
    go false q = one st (limit_to ds e j p) (to_limited ds e j st p f (meets (value ds st e) (range_of ds p e) i (ranges_hold ds st p e f) h))

limits_both : (ds : List Decl) (a b : Expression) (i j : Interval) (st : HandlerState) (p : Path) → Follows st p → Lies (value ds st a) i → Lies (value ds st b) j
    → FollowsOne st (limit_both ds a i b j p)
limits_both ds a b i j st p f h k = one_flat st st (limit ds b j) (limit ds a i p) (λ q g. limits ds b j st q g k) (limits ds a i st p f h)

-- Comparisons

less_narrows : (ds : List Decl) (a b : Expression) (t : Bool) (st : HandlerState) (p : Path) → Follows st p → nat_lt (value ds st a) (value ds st b) ≡ t
    → FollowsOne st (narrow_less ds a b t p)
less_narrows ds a b true st p f h =
    let l = ltb-true (value ds st a) (value ds st b) h in
    let v = ranges_hold ds st p a f in
    let w = ranges_hold ds st p b f in
    limits_both ds a b (between 0 ((range_of ds p b).high - 1)) (between ((range_of ds p a).low + 1) (range_of ds p b).high) st p f
    (record { above = omega arith; below = omega arith }) (record { above = omega arith; below = omega arith })
less_narrows ds a b false st p f h =
    let l = ltb-false (value ds st a) (value ds st b) h in
    let v = ranges_hold ds st p a f in
    let w = ranges_hold ds st p b f in
    limits_both ds a b (between (range_of ds p b).low (range_of ds p a).high) (between 0 (range_of ds p a).high) st p f
    (record { above = omega arith; below = omega arith }) (record { above = omega arith; below = omega arith })

lies_without : (v w : ℕ) (i j : Interval) → Lies v i → Lies w j → (v ≡ w → ⊥) → Lies v (without i j)
lies_without v w i j l m n = go (j.low == j.high) (i.low == j.low) (i.high == j.low) refl refl refl
  where
    go : (a b c : Bool) → (j.low == j.high) ≡ a → (i.low == j.low) ≡ b → (i.high == j.low) ≡ c
        → Lies v (if a then between (if b then i.low + 1 else i.low) (if c then i.high - 1 else i.high) else i)
    go true true true p q r =
        let e = eqb-true j.low j.high p in let x = eqb-true i.low j.low q in let y = eqb-true i.high j.low r in
        absurd (n (omega arith))
    go true true false p q r =
        let e = eqb-true j.low j.high p in let x = eqb-true i.low j.low q in
        record { above = omega (arith, n); below = omega arith }
    go true false true p q r =
        let e = eqb-true j.low j.high p in let y = eqb-true i.high j.low r in
        record { above = omega arith; below = omega (arith, n) }
    go true false false p q r = l
    go false b c p q r = l

equal_narrows : (ds : List Decl) (a b : Expression) (t : Bool) (st : HandlerState) (p : Path) → Follows st p → (value ds st a == value ds st b) ≡ t
    → FollowsOne st (narrow_equal ds a b t p)
equal_narrows ds a b true st p f h =
    let e = eqb-true (value ds st a) (value ds st b) h in
    limits_both ds a b (range_of ds p b) (range_of ds p a) st p f
    (subst (λ n. Lies n (range_of ds p b)) (sym e) (ranges_hold ds st p b f)) (subst (λ n. Lies n (range_of ds p a)) e (ranges_hold ds st p a f))
equal_narrows ds a b false st p f h =
    let e = eqb-false (value ds st a) (value ds st b) h in
    let v = ranges_hold ds st p a f in
    let w = ranges_hold ds st p b f in
    limits_both ds a b (without (range_of ds p a) (range_of ds p b)) (without (range_of ds p b) (range_of ds p a)) st p f
    (lies_without (value ds st a) (value ds st b) (range_of ds p a) (range_of ds p b) v w e)
    (lies_without (value ds st b) (value ds st a) (range_of ds p b) (range_of ds p a) w v (λ q. e (sym q)))

-- Tests

truth_is : (b t : Bool) → (truth b == 0) ≡ not t → b ≡ t
truth_is true true h = refl
truth_is true false h = absurd (cc)
truth_is false true h = absurd (cc)
truth_is false false h = refl

not_truth_is : (b t : Bool) → (truth (truth b == 0) == 0) ≡ not t → b ≡ not t
not_truth_is true true h = absurd (cc)
not_truth_is true false h = refl
not_truth_is false true h = refl
not_truth_is false false h = absurd (cc)

not_less : (v w : ℕ) (t : Bool) → (truth (nat_le v w) == 0) ≡ not t → nat_lt w v ≡ not t
not_less v w t h = let e = truth_is (nat_le v w) t h in grind (arith, nat_tests)

not_not : (b t : Bool) → (truth b == 0) ≡ not t → b ≡ not (not t)
not_not b true h = truth_is b true h
not_not b false h = truth_is b false h

not_zero : (n : ℕ) → (n == 0) ≡ false → 1 ≤ n
not_zero n h = grind (arith, nat_tests)

flags_and : (v w : ℕ) → v ≤ 1 → w ≤ 1 → (bit_and v w == 0) ≡ true → ((v == 0) ≡ true) ⊎ (((v == 0) ≡ false) × ((w == 0) ≡ true))
flags_and zero w p q h = inl refl
flags_and (suc zero) zero p q h = inr (refl, refl)
flags_and (suc zero) (suc zero) p q h = absurd (cc)
flags_and (suc zero) (suc (suc w)) p q h = absurd (omega (arith, q))
flags_and (suc (suc v)) w p q h = absurd (omega (arith, p))

suc_not_zero : (n : ℕ) → (suc n == 0) ≡ false
suc_not_zero n = grind (arith, nat_tests)

or_some : (v w : ℕ) → (bit_or v w == 0) ≡ false → ((v == 0) ≡ false) ⊎ (((v == 0) ≡ true) × ((w == 0) ≡ false))
or_some zero zero h = absurd (cc)
or_some zero (suc w) h = inr (refl, suc_not_zero w)
or_some (suc v) w h = inl (suc_not_zero v)

plain_true : (ds : List Decl) (e : Expression) (st : HandlerState) (p : Path) → Follows st p → (value ds st e == 0) ≡ false
    → FollowsOne st (limit ds e (between 1 (range_of ds p e).high) p)
plain_true ds e st p f h =
    let n = not_zero (value ds st e) h in
    let r = ranges_hold ds st p e f in
    limits ds e (between 1 (range_of ds p e).high) st p f (record { above = n; below = r.below })

plain_false : (ds : List Decl) (e : Expression) (st : HandlerState) (p : Path) → Follows st p → (value ds st e == 0) ≡ true
    → FollowsOne st (limit ds e (only 0) p)
plain_false ds e st p f h =
    let n = eqb-true (value ds st e) 0 h in
    limits ds e (only 0) st p f (record { above = omega arith; below = omega arith })

plain_narrows : (ds : List Decl) (e : Expression) (t : Bool) (st : HandlerState) (p : Path) → Follows st p → (value ds st e == 0) ≡ not t
    → FollowsOne st (narrow_plain ds e t p)
plain_narrows ds e true st p f h = plain_true ds e st p f h
plain_narrows ds e false st p f h = plain_false ds e st p f h

and_narrows : (ds : List Decl) (a b : Expression) (both : List Path) (st : HandlerState) (p : Path) → Follows st p → (value ds st (Combined And a b) == 0) ≡ true
    → ((value ds st a == 0) ≡ true → FollowsOne st both) → ((value ds st a == 0) ≡ false → (value ds st b == 0) ≡ true → FollowsOne st both)
    → FollowsOne st (if are_flags ds p a b then both else narrow_plain ds (Combined And a b) false p)
and_narrows ds a b both st p f h first second = go (nat_lt (max (range_of ds p a).high (range_of ds p b).high) 2) refl
  where
    go : (t : Bool) → nat_lt (max (range_of ds p a).high (range_of ds p b).high) 2 ≡ t → FollowsOne st (if t then both else narrow_plain ds (Combined And a b) false p)
    go true q =
        let u = ltb-true (max (range_of ds p a).high (range_of ds p b).high) 2 q in
        let v = ranges_hold ds st p a f in
        let w = ranges_hold ds st p b f in
        elim (flags_and (value ds st a) (value ds st b) (omega arith) (omega arith) h) as (λ x. FollowsOne st both) [
          | inl x ↦ first x
          | inr x ↦ second x.0 x.1
        ]
    go false q = plain_false ds (Combined And a b) st p f h

pub narrows : (ds : List Decl) (e : Expression) (t : Bool) (st : HandlerState) (p : Path) → Follows st p → (value ds st e == 0) ≡ not t
    → FollowsOne st (narrow ds e t p)
narrows ds (Applied Not e) t st p f h = narrows ds e (not t) st p f (not_not (value ds st e == 0) t h)
narrows ds (Combined Lt a b) t st p f h = less_narrows ds a b t st p f (truth_is (nat_lt (value ds st a) (value ds st b)) t h)
narrows ds (Combined Gt a b) t st p f h = less_narrows ds b a t st p f (truth_is (nat_lt (value ds st b) (value ds st a)) t h)
narrows ds (Combined Le a b) t st p f h = less_narrows ds b a (not t) st p f (not_less (value ds st a) (value ds st b) t h)
narrows ds (Combined Ge a b) t st p f h = less_narrows ds a b (not t) st p f (not_less (value ds st b) (value ds st a) t h)
narrows ds (Combined Eq a b) t st p f h = equal_narrows ds a b t st p f (truth_is (value ds st a == value ds st b) t h)
narrows ds (Combined Ne a b) t st p f h =
    equal_narrows ds a b (not t) st p f
    (not_truth_is (value ds st a == value ds st b) t (ap (λ n. n == 0) (not_equal (value ds st a) (value ds st b)) ∙ h))
narrows ds (Combined And a b) true st p f h =
    let n = not_zero (bit_and (value ds st a) (value ds st b)) h in
    let l = and_le_l (value ds st a) (value ds st b) in
    let r = and_le_r (value ds st a) (value ds st b) in
    let u : (value ds st a == 0) ≡ false = grind (arith, nat_tests) in
    let w : (value ds st b == 0) ≡ false = grind (arith, nat_tests) in
    one_flat st st (narrow ds b true) (narrow ds a true p) (λ q g. narrows ds b true st q g w) (narrows ds a true st p f u)
narrows ds (Combined And a b) false st p f h =
    and_narrows ds a b (narrow ds a false p ++ flat_map (narrow ds b false) (narrow ds a true p)) st p f h
    (λ u. one_left st (narrow ds a false p) (flat_map (narrow ds b false) (narrow ds a true p)) (narrows ds a false st p f u))
    (λ u w. one_right st (narrow ds a false p) (flat_map (narrow ds b false) (narrow ds a true p))
    (one_flat st st (narrow ds b false) (narrow ds a true p) (λ q g. narrows ds b false st q g w) (narrows ds a true st p f u)))
narrows ds (Combined Or a b) true st p f h =
    elim (or_some (value ds st a) (value ds st b) h) as (λ x. FollowsOne st (narrow ds a true p ++ flat_map (narrow ds b true) (narrow ds a false p))) [
      | inl u ↦ one_left st (narrow ds a true p) (flat_map (narrow ds b true) (narrow ds a false p)) (narrows ds a true st p f u)
      | inr x ↦ one_right st (narrow ds a true p) (flat_map (narrow ds b true) (narrow ds a false p))
          (one_flat st st (narrow ds b true) (narrow ds a false p) (λ q g. narrows ds b true st q g x.1) (narrows ds a false st p f x.0))
    ]
narrows ds (Combined Or a b) false st p f h =
    let n = eqb-true (bit_or (value ds st a) (value ds st b)) 0 h in
    let l = le_or_l (value ds st a) (value ds st b) in
    let r = le_or_r (value ds st a) (value ds st b) in
    let u : (value ds st a == 0) ≡ true = grind (arith, nat_tests) in
    let w : (value ds st b == 0) ≡ true = grind (arith, nat_tests) in
    one_flat st st (narrow ds b false) (narrow ds a false p) (λ q g. narrows ds b false st q g w) (narrows ds a false st p f u)
narrows ds e t st p f h = plain_narrows ds e t st p f h
