-- An expression's value lies in its interval.
use Rattle.std.proofs.Common.{◌≡◌, ◌⊎◌, inl, inr, ◌≤◌, ℕ, zero, suc, ◌+◌, ◌-◌, Bool, true, false, if◌then◌else◌, List, [], ◌∷◌, Some, nat_lt, refl, ap, subst}
use Rattle.std.proofs.Common.{arith}
use Rattle.std.specs.Prelude.{slice_index, unwrap_or}
use Rattle.std.specs.List.{AllZip}
use Rattle.std.proofs.lemmas.Bool.{cases_eq, ltb-false, ltb-true}
use Rattle.sx_lang.specs.declared.tree.Decl.{Decl}
use Rattle.sx_lang.specs.Tree.{Expression, Constant, Variable, Indexed, Applied, Combined}
use Rattle.sx_check.specs.Names.{same}
use Rattle.sx_mean.specs.declared.moments.Local.{Local}
use Rattle.sx_mean.specs.Places.{place, array_length}
use Rattle.sx_mean.specs.Meaning.{HandlerState, look_up, value}
use Rattle.sx_span.specs.Intervals.{Interval, Lies, hull, only}
use Rattle.sx_span.specs.Ranges.{Follows, LocalLies, LocalRange, Path, cell_range, look_up_range, range_of, spread}
use Rattle.sx_span.proofs.Arithmetic.{apply_lies, combine_lies, lies_left, lies_only, lies_right}

pub cell_lies : (cells : List ℕ) (box : List Interval) (i : ℕ) → AllZip Lies cells box → Lies (slice_index cells i) (cell_range box i)
cell_lies [] [] i z = lies_only 0
cell_lies [] (b ∷ box) i z = absurd z
cell_lies (c ∷ cells) [] i z = absurd z
cell_lies (c ∷ cells) (b ∷ box) zero z = z.0
cell_lies (c ∷ cells) (b ∷ box) (suc i) z = cell_lies cells box i z.1

spread_lies : (box : List Interval) (v i k q : ℕ) → i ≤ q → q ≤ i + k → Lies v (cell_range box q) → Lies v (spread box i k)
spread_lies box v i zero q l m h = let e : q ≡ i = omega arith in subst (λ n. Lies v (cell_range box n)) e h
spread_lies box v i (suc k) q l m h = go (cases_eq q i) (λ n. spread_lies box v (i + 1) k q n (omega arith) h)
  where
    go : (q ≡ i) ⊎ (q ≡ i → ⊥) → (i + 1 ≤ q → Lies v (spread box (i + 1) k)) → Lies v (hull (cell_range box i) (spread box (i + 1) k))
    go (inl e) more = lies_left v (cell_range box i) (spread box (i + 1) k) (subst (λ n. Lies v (cell_range box n)) e h)
    go (inr n) more = lies_right v (cell_range box i) (spread box (i + 1) k) (more (omega arith))

found_lies : (ls : List Local) (rs : List LocalRange) (x : List ℕ) (c : ℕ) (i : Interval) → AllZip LocalLies ls rs → Lies c i
    → Lies (unwrap_or (look_up ls x) c) (unwrap_or (look_up_range rs x) i)
found_lies [] [] x c i z h = h
found_lies [] (r ∷ rs) x c i z h = absurd z
found_lies (l ∷ ls) [] x c i z h = absurd z
found_lies (l ∷ ls) (r ∷ rs) x c i z h = go (same x l.name) (same x r.name) (ap (λ n. same x n) z.0.0) (found_lies ls rs x c i z.1 h)
  where
    go : (s t : Bool) → s ≡ t → Lies (unwrap_or (look_up ls x) c) (unwrap_or (look_up_range rs x) i)
        → Lies (unwrap_or (if s then Some l.value else look_up ls x) c) (unwrap_or (if t then Some r.range else look_up_range rs x) i)
    go true true e more = z.0.1
    go true false e more = absurd (cc)
    go false true e more = absurd (cc)
    go false false e more = more

element_lies : (cells : List ℕ) (box : List Interval) (n at i : ℕ) (j : Interval) → AllZip Lies cells box → Lies i j
    → Lies (if nat_lt i n then slice_index cells (at + i) else 0)
    (if nat_lt j.high n then spread box (at + j.low) (j.high - j.low)
    else if nat_lt j.low n then hull (only 0) (spread box (at + j.low) (n - (j.low + 1))) else only 0)
element_lies cells box n at i j z l = go (nat_lt i n) (nat_lt j.high n) (nat_lt j.low n) refl refl refl
  where
    here : Lies (slice_index cells (at + i)) (cell_range box (at + i))
    here = cell_lies cells box (at + i) z

    go : (a b c : Bool) → nat_lt i n ≡ a → nat_lt j.high n ≡ b → nat_lt j.low n ≡ c
        → Lies (if a then slice_index cells (at + i) else 0)
        (if b then spread box (at + j.low) (j.high - j.low)
        else if c then hull (only 0) (spread box (at + j.low) (n - (j.low + 1))) else only 0)
    go true true c p q r = spread_lies box (slice_index cells (at + i)) (at + j.low) (j.high - j.low) (at + i) (omega arith) (omega arith) here
    go false true c p q r = let u = ltb-false i n p in let w = ltb-true j.high n q in absurd (omega arith)
    go true false true p q r =
        let u = ltb-true i n p in
        lies_right (slice_index cells (at + i)) (only 0) (spread box (at + j.low) (n - (j.low + 1)))
        (spread_lies box (slice_index cells (at + i)) (at + j.low) (n - (j.low + 1)) (at + i) (omega arith) (omega arith) here)
    go false false true p q r = lies_left 0 (only 0) (spread box (at + j.low) (n - (j.low + 1))) (lies_only 0)
    go true false false p q r = let u = ltb-true i n p in let w = ltb-false j.low n r in absurd (omega arith)
    go false false false p q r = lies_only 0

pub ranges_hold : (ds : List Decl) (st : HandlerState) (p : Path) (e : Expression) → Follows st p → Lies (value ds st e) (range_of ds p e)
ranges_hold ds st p (Constant n) f = lies_only n
ranges_hold ds st p (Variable x) f =
    found_lies st.locals p.locals x (slice_index st.cells (place ds x)) (cell_range p.cells (place ds x)) f.locals (cell_lies st.cells p.cells (place ds x) f.cells)
ranges_hold ds st p (Indexed x e) f =
    element_lies st.cells p.cells (array_length ds x) (place ds x) (value ds st e) (range_of ds p e) f.cells (ranges_hold ds st p e f)
ranges_hold ds st p (Applied op e) f = apply_lies op (value ds st e) (range_of ds p e) (ranges_hold ds st p e f)
ranges_hold ds st p (Combined op a b) f =
    combine_lies op (value ds st a) (value ds st b) (range_of ds p a) (range_of ds p b) (ranges_hold ds st p a f) (ranges_hold ds st p b f)
