-- What the loops and branches of the code make.
use Rattle.std.proofs.Common.{◌≡◌, ◌≤◌, ◌<◌, ◌+◌, ◌-◌, ◌==◌, ℕ, zero, suc, List, [], ◌∷◌, ◌++◌, true, false, length, map, drop, nat_lt, refl, sym, ap, ◌∙◌}
use Rattle.std.proofs.Common.{subst, arith, append_assoc, get_or}
use Rattle.std.proofs.Common.{Result, Ok, Err, OnOk, Vec, Global}
use Rattle.std.specs.List.{flat_map}
use Rattle.std.proofs.lemmas.List.{drop_all}
use Rattle.std.proofs.lemmas.List.Concat.{flat_map-append}
use Rattle.std.proofs.lemmas.Bool.{lt-ltb, le-ltb, ne_eqb}
use Rattle.std.proofs.lemmas.Bool.Decides.{nat_tests}
use Rattle.lemmas.proofs.Lists.{rest_is}
use Rattle.sx_lang.specs.declared.tree.Decl.{Decl}
use Rattle.sx_lang.specs.declared.tree.Expr.{Expr}
use Rattle.sx_lang.specs.declared.tree.Stmt.{Stmt}
use Rattle.sx_lang.specs.declared.tree.Stmt.TheViews.{If, Repeat}
use Rattle.sx_lang.specs.View.{statement_of, block_of, expression_of}
use Rattle.sx_lang.proofs.Rows.{if_is, repeat_is}
use Rattle.sx_span.specs.declared.pieces.Trail.{Trail}
use Rattle.sx_span.specs.View.{paths_in}
use Rattle.sx_span.specs.Intervals.{Interval}
use Rattle.sx_span.specs.Ranges.{Path, range_of}
use Rattle.sx_span.specs.Narrow.{narrow}
use Rattle.sx_span.specs.Paths.{forget_range, inner_paths, paths_after_block, paths_after_statement, turns, ways}

flat_flat : (f g : Path → List Path) (xs : List Path) → flat_map (λ p. flat_map g (f p)) xs ≡ flat_map g (flat_map f xs)
flat_flat f g [] = refl
flat_flat f g (x ∷ xs) = ap (λ l. flat_map g (f x) ++ l) (flat_flat f g xs) ∙ sym (flat_map-append g (f x) (flat_map f xs))

flat_one : (xs : List Path) → flat_map (λ p. p ∷ []) xs ≡ xs
flat_one [] = refl
flat_one (x ∷ xs) = ap (λ l. x ∷ l) (flat_one xs)

pub on_ok : {E : Type 0} (r : Result (Unit {0}) E) {A B : Type 0} → (A → B) → OnOk r A → OnOk r B
on_ok (Ok u) f h = f h
on_ok (Err e) f h = h

pub none : (items : List Trail) (xs ys : List Path) → items ≡ [] → xs ≡ paths_in items ++ ys → xs ≡ ys
none items xs ys e h = h ∙ ap (λ (l : List Trail). paths_in l ++ ys) e

pub block_on : (ds : List Decl) (items : List Stmt) (i : ℕ) (s : Stmt) (now next whole : List Path) → i < length items → s ≡ get_or items i s
    → next ≡ flat_map (paths_after_statement ds (statement_of s)) now
    → flat_map (paths_after_block ds (block_of (drop i items))) now ≡ whole → flat_map (paths_after_block ds (block_of (drop (i + 1) items))) next ≡ whole
block_on ds items i s now next whole h e n all =
    ap (λ l. flat_map (paths_after_block ds (block_of (drop (i + 1) items))) l) n
    ∙ sym (flat_flat (paths_after_statement ds (statement_of s)) (paths_after_block ds (block_of (drop (i + 1) items))) now)
    ∙ sym (ap (λ l. flat_map (paths_after_block ds (block_of l)) now) (rest_is items i s h e)) ∙ all

pub block_done : (ds : List Decl) (items : List Stmt) (i : ℕ) (now whole : List Path) → length items ≤ i
    → flat_map (paths_after_block ds (block_of (drop i items))) now ≡ whole → now ≡ whole
block_done ds items i now whole h all = sym (flat_one now) ∙ sym (ap (λ l. flat_map (paths_after_block ds (block_of l)) now) (drop_all i items h)) ∙ all

pub turn_on : (n i : ℕ) (f : Path → List Path) (now next whole : List Path) → i < n → next ≡ flat_map f now → flat_map (turns (n - i) f) now ≡ whole
    → flat_map (turns (n - (i + 1)) f) next ≡ whole
turn_on n i f now next whole h e all = go (n - i) (n - (i + 1)) (omega arith) all
  where
    go : (a b : ℕ) → a ≡ b + 1 → flat_map (turns a f) now ≡ whole → flat_map (turns b f) next ≡ whole
    go zero b q all = absurd (omega (arith, q))
    go (suc a) b q all =
        let s : b ≡ a = omega (arith, q) in
        subst (λ k. flat_map (turns k f) next ≡ whole) (sym s) (ap (λ l. flat_map (turns a f) l) e ∙ sym (flat_flat f (turns a f) now) ∙ all)

pub turns_done : (k : ℕ) (f : Path → List Path) (now whole : List Path) → k ≡ 0 → flat_map (turns k f) now ≡ whole → now ≡ whole
turns_done zero f now whole e all = sym (flat_one now) ∙ all
turns_done (suc k) f now whole e all = absurd (omega (arith, e))

to : (i : Interval) (taken left : List Path) → i.high ≡ 0 → ways i taken left ≡ left
to i taken left h = let z : (i.high == 0) ≡ true = grind (arith, nat_tests) in rw z refl

surely : (i : Interval) (taken left : List Path) → (i.high ≡ 0 → ⊥) → 0 < i.low → ways i taken left ≡ taken
surely i taken left h l =
    let z : (i.high == 0) ≡ false = ne_eqb i.high 0 h in
    let m : nat_lt 0 i.low ≡ true = lt-ltb 0 i.low l in
    rw (z, m) refl

either : (i : Interval) (taken left : List Path) → (i.high ≡ 0 → ⊥) → i.low ≤ 0 → ways i taken left ≡ taken ++ left
either i taken left h l =
    let z : (i.high == 0) ≡ false = ne_eqb i.high 0 h in
    let m : nat_lt 0 i.low ≡ false = le-ltb 0 i.low l in
    rw (z, m) refl

module _ (ds : List Decl) (s : Stmt) (e : Expr) (v w : Vec Stmt Global) (p : Path) (is : s ≡ If e v w) where
  choice : paths_after_statement ds (statement_of s) p
      ≡ ways (range_of ds p (expression_of e)) (flat_map (inner_paths ds (block_of v.items)) (narrow ds (expression_of e) true p))
      (flat_map (inner_paths ds (block_of w.items)) (narrow ds (expression_of e) false p))
  choice = ap (λ s. paths_after_statement ds s p) (ap statement_of is ∙ if_is e v w)

  pub left_is : (test : Interval) (old trails new : List Path) → test ≡ range_of ds p (expression_of e) → test.high ≡ 0
      → trails ≡ narrow ds (expression_of e) false p → new ≡ old ++ flat_map (inner_paths ds (block_of w.items)) trails
      → new ≡ old ++ paths_after_statement ds (statement_of s) p
  left_is test old trails new i h t n =
      n ∙ ap (λ l. old ++ flat_map (inner_paths ds (block_of w.items)) l) t
      ∙ ap (λ l. old ++ l) (sym (choice ∙ to (range_of ds p (expression_of e)) _ _ (sym (ap (λ (j : Interval). j.high) i) ∙ h)))

  pub taken_is : (test : Interval) (old trails new : List Path) → test ≡ range_of ds p (expression_of e) → (test.high ≡ 0 → ⊥) → 0 < test.low
      → trails ≡ narrow ds (expression_of e) true p → new ≡ old ++ flat_map (inner_paths ds (block_of v.items)) trails
      → new ≡ old ++ paths_after_statement ds (statement_of s) p
  taken_is test old trails new i h l t n =
      n ∙ ap (λ l. old ++ flat_map (inner_paths ds (block_of v.items)) l) t
      ∙ ap (λ l. old ++ l) (sym (choice ∙ surely (range_of ds p (expression_of e)) _ _ (λ z. h (ap (λ (j : Interval). j.high) i ∙ z)) (subst (λ (j : Interval). 0 < j.low) i l)))

  pub both_are : (test : Interval) (old trails mid others new : List Path) → test ≡ range_of ds p (expression_of e) → (test.high ≡ 0 → ⊥) → test.low ≤ 0
      → trails ≡ narrow ds (expression_of e) true p → mid ≡ old ++ flat_map (inner_paths ds (block_of v.items)) trails
      → others ≡ narrow ds (expression_of e) false p → new ≡ mid ++ flat_map (inner_paths ds (block_of w.items)) others
      → new ≡ old ++ paths_after_statement ds (statement_of s) p
  both_are test old trails mid others new i h l t m u n =
      n ∙ ap (λ l. mid ++ flat_map (inner_paths ds (block_of w.items)) l) u
      ∙ ap (λ l. l ++ flat_map (inner_paths ds (block_of w.items)) (narrow ds (expression_of e) false p)) (m ∙ ap (λ l. old ++ flat_map (inner_paths ds (block_of v.items)) l) t)
      ∙ append_assoc old _ _
      ∙ ap (λ l. old ++ l) (sym (choice ∙ either (range_of ds p (expression_of e)) _ _ (λ z. h (ap (λ (j : Interval). j.high) i ∙ z)) (subst (λ (j : Interval). j.low ≤ 0) i l)))

pub repeated_is : (ds : List Decl) (s : Stmt) (n : ℕ) (v : Vec Stmt Global) (p : Path) (old new : List Path) → s ≡ Repeat n v
    → new ≡ old ++ turns n (inner_paths ds (block_of v.items)) p → new ≡ old ++ paths_after_statement ds (statement_of s) p
repeated_is ds s n v p old new is h = h ∙ sym (ap (λ s. old ++ paths_after_statement ds s p) (ap statement_of is ∙ repeat_is n v))

pub onward : {E : Type 0} (r : Result (Unit {0}) E) (old now whole new : List Path) → now ≡ whole → OnOk r (new ≡ old ++ now) → OnOk r (new ≡ old ++ whole)
onward (Ok u) old now whole new e h = h ∙ ap (λ (l : List Path). old ++ l) e
onward (Err x) old now whole new e h = h

pub block_ends : {E : Type 0} (r : Result (Unit {0}) E) (ds : List Decl) (items given : List Stmt) (i outer : ℕ) (p : Path) (now old new : List Path) → items ≡ given
    → outer ≡ length p.locals → length items ≤ i → flat_map (paths_after_block ds (block_of (drop i items))) now ≡ paths_after_block ds (block_of items) p
    → OnOk r (new ≡ old ++ map (forget_range outer) now) → OnOk r (new ≡ old ++ inner_paths ds (block_of given) p)
block_ends r ds items given i outer p now old new g o h all n = onward r old (map (forget_range outer) now) (inner_paths ds (block_of given) p) new same n
  where
    same : map (forget_range outer) now ≡ inner_paths ds (block_of given) p
    same =
        ap (λ (l : List Path). map (forget_range outer) l) (block_done ds items i now (paths_after_block ds (block_of items) p) h all)
        ∙ ap (λ (k : ℕ). map (forget_range k) (paths_after_block ds (block_of items) p)) o
        ∙ ap (λ (l : List Stmt). inner_paths ds (block_of l) p) g
