-- Places of lists that code sets.
use Rattle.std.proofs.Common.{◌≡◌, ◌≤◌, ◌+◌, arith, zero, ◌<◌, ℕ, suc, true, List, [], ◌∷◌, ◌++◌, length, get_or, take, drop, refl, sym, ap, ◌∙◌, subst}
use Rattle.std.proofs.Common.{drop-cons}
use Rattle.std.specs.Prelude.{slice_set}
use Rattle.std.proofs.lemmas.List.{get_or_default, set_split}
use Rattle.sx_lang.specs.Tree.{Expression, Constant, Variable, Indexed, Applied, Combined}
use Rattle.sx_check.specs.Names.{same}
use Rattle.sx_span.specs.Intervals.{Interval, hull}
use Rattle.sx_span.specs.Paths.{widened}
use Rattle.sx_span.specs.Ranges.{LocalRange}
use Rattle.sx_span.specs.Narrow.{limit_local, weight}

first_limited : (l : LocalRange) (ls : List LocalRange) (x : List ℕ) (r : Interval) → same x l.name ≡ true → limit_local (l ∷ ls) x r ≡ record l { range = r } ∷ ls
first_limited l ls x r e = rw e refl

pub limited_at : (now ls : List LocalRange) (x : List ℕ) (i : ℕ) (r : Interval) (d f : LocalRange) → now ≡ ls → i < length ls → same x (get_or now i f).name ≡ true
    → limit_local ls x r ≡ take i ls ++ limit_local (drop i ls) x r
    → slice_set now i (record { name = (get_or now i d).name; range = r }) ≡ limit_local ls x r
limited_at now ls x i r d f n h e all =
    let g : same x (get_or ls i d).name ≡ true = subst (λ (l : LocalRange). same x l.name ≡ true) (get_or_default ls i f d h) (subst (λ (m : List LocalRange). same x (get_or m i f).name ≡ true) n e) in
    subst (λ m. slice_set m i (record { name = (get_or m i d).name; range = r }) ≡ limit_local ls x r) (sym n)
    (set_split ls i _ h ∙ sym (all ∙ ap (λ l. take i ls ++ limit_local l x r) (drop-cons ls i d h) ∙ ap (λ l. take i ls ++ l) (first_limited (get_or ls i d) (drop (suc i) ls) x r g)))

pub weighs : (e : Expression) → 1 ≤ weight e
weighs (Constant n) = omega arith
weighs (Variable x) = omega arith
weighs (Indexed x e) = omega arith
weighs (Applied o e) = omega arith
weighs (Combined o a b) = omega arith

pub widened_none : (xs : List Interval) (k : ℕ) (i : Interval) → widened xs k 0 i ≡ xs
widened_none [] k i = refl
widened_none (x ∷ xs) zero i = refl
widened_none (x ∷ xs) (suc k) i = ap (λ l. x ∷ l) (widened_none xs k i)

pub widened_more : (xs : List Interval) (k n : ℕ) (i : Interval) → widened (widened xs k n i) (k + n) 1 i ≡ widened xs k (n + 1) i
widened_more [] k n i = refl
widened_more (x ∷ xs) zero zero i = refl
widened_more (x ∷ xs) zero (suc n) i =
    let a : 0 + suc n ≡ suc n = omega arith in
    let b : suc n + 1 ≡ suc (n + 1) = omega arith in
    let c : 0 + n ≡ n = omega arith in
    rw (a, b) (ap (λ l. hull x i ∷ l) (subst (λ m. widened (widened xs zero n i) m 1 i ≡ widened xs zero (n + 1) i) c (widened_more xs zero n i)))
widened_more (x ∷ xs) (suc k) n i =
    let a : suc k + n ≡ suc (k + n) = omega arith in
    rw a (ap (λ l. x ∷ l) (widened_more xs k n i))

pub widened_at : (xs : List Interval) (k : ℕ) (i d : Interval) → k < length xs → slice_set xs k (hull (get_or xs k d) i) ≡ widened xs k 1 i
widened_at [] k i d h = absurd (omega (arith, h))
widened_at (x ∷ xs) zero i d h = ap (λ l. hull x i ∷ l) (sym (widened_none xs zero i))
widened_at (x ∷ xs) (suc k) i d h = ap (λ l. x ∷ l) (widened_at xs k i d (omega (arith, h)))

pub widened_past : (xs : List Interval) (k : ℕ) (i : Interval) → length xs ≤ k → xs ≡ widened xs k 1 i
widened_past [] k i h = refl
widened_past (x ∷ xs) zero i h = absurd (omega (arith, h))
widened_past (x ∷ xs) (suc k) i h = ap (λ l. x ∷ l) (widened_past xs k i (omega (arith, h)))
