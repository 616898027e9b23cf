-- The cells of variables and elements, and the names and numbers of a handler.
use Rattle.std.proofs.Common.{◌≡◌, ℕ, ◌+◌, ◌<◌, ◌≤◌, inl, inr, Bool, true, false, ◌||◌, cond, if◌then◌else◌, List, [], ◌∷◌, ◌++◌, length, get_or}
use Rattle.std.proofs.Common.{nat_lt, count_by, replicate, refl, sym, ap, ◌∙◌, arith}
use Rattle.std.specs.List.{list_any, All}
use Rattle.std.proofs.Math.ListN.{get_or-append}
use Rattle.std.proofs.lemmas.Bool.{ltb-true, both_ways, or_right, or_left}
use Rattle.std.proofs.lemmas.List.{get_or-append-add, length-replicate}
use Rattle.std.proofs.lemmas.List.Elements.{All-nil, All-cons, All-head, All-tail}
use Rattle.std.proofs.lemmas.List.Sums.{sum_by-cons}
use Rattle.sx_lang.specs.declared.tree.Decl.{Decl}
use Rattle.sx_lang.specs.declared.tree.Decl.TheVariants.{Device, Input, Output, Var, Array}
use Rattle.sx_lang.specs.Tree.{Expression, Constant, Variable, Indexed, Applied, Combined, Statement, Defines, Assigns, Stores, Chooses, Repeats, Sends, Emits, Block, Done, Then}
use Rattle.sx_lang.specs.Sizes.{declaration_cells}
use Rattle.sx_lang.specs.Words.{AreWords, BlockHasWords, DeclHasWords, DeclsHaveWords, HasWords, IsWord}
use Rattle.sx_check.specs.declared.declared.Role.TheVariants.{Word}
use Rattle.sx_check.specs.Names.{same, declares, defined}
use Rattle.sx_check.specs.Bounds.{statement_emits, block_emits}
use Rattle.sx_check.specs.Uses.{Use, used, expression_uses, statement_uses, block_uses, declares_as}
use Rattle.sx_check.specs.Accepted.{IsProper}
use Rattle.sx_mean.specs.Places.{place, initial_cells, first_cells, array_length, own_length}
use Rattle.sx_mean.specs.Variables.{FineBlock, FineExpression, FineStatement, IsElement, IsKnown, IsVariable, first_value, own_value}
use Rattle.sx_mean.proofs.Scope.{seen_index}
use Rattle.lemmas.proofs.Lists.{zero_at}

-- Variables

abbrev counts : List ℕ → Decl → ℕ
counts x d = cond (declares x d) 1 0

-- so few declarations are of the name
declared_once : (ds : List Decl) (x : List ℕ) → list_any (declares_as Word x) ds ≡ true → 1 ≤ count_by (declares x) ds
declared_once [] x h = absurd (cc)
declared_once (Device k ∷ ds) x h = let r = declared_once ds x h in omega (arith, sum_by-cons (counts x) (Device k) ds, r)
declared_once (Input y ∷ ds) x h = let r = declared_once ds x h in omega (arith, sum_by-cons (counts x) (Input y) ds, r)
declared_once (Output y ∷ ds) x h = let r = declared_once ds x h in omega (arith, sum_by-cons (counts x) (Output y) ds, r)
declared_once (Array y n ∷ ds) x h = let r = declared_once ds x h in omega (arith, sum_by-cons (counts x) (Array y n) ds, r)
declared_once (Var y n ∷ ds) x h = go (same x y) refl h (declared_once ds x)
  where
    go : (t : Bool) → same x y ≡ t → (t || list_any (declares_as Word x) ds) ≡ true → (list_any (declares_as Word x) ds ≡ true → 1 ≤ count_by (declares x) ds)
        → 1 ≤ count_by (declares x) (Var y n ∷ ds)
    go true e h r = let c = ap {B = ℕ} (λ b. cond b 1 0) e in omega (arith, sum_by-cons (counts x) (Var y n) ds, c)
    go false e h r = let r2 = r h in omega (arith, sum_by-cons (counts x) (Var y n) ds, r2)

-- a declaration of another name, or of no cells
further : (d : Decl) (ds : List Decl) (x : List ℕ) → declares x d ≡ false → length (first_cells d) ≡ declaration_cells d → IsVariable ds x → IsVariable (d ∷ ds) x
further d ds x other long v =
    let p : place (d ∷ ds) x ≡ declaration_cells d + place ds x = ap {B = ℕ} (λ b. if b then 0 else declaration_cells d + place ds x) other in
    let f : first_value (d ∷ ds) x ≡ first_value ds x = ap {B = ℕ} (λ b. if b then own_value d else first_value ds x) other in
    let q : declaration_cells d + place ds x ≡ length (first_cells d) + place ds x = omega (arith, long) in
    record {
      there = omega (arith, p, v.there);
      first = f ∙ v.first ∙ sym (get_or-append-add (first_cells d) (initial_cells ds) (place ds x) 0) ∙ ap (λ n. get_or (initial_cells (d ∷ ds)) n 0) (sym (p ∙ q));
    }

-- a declaration of the name that isn't a variable would be a second one
not_here : (d : Decl) (ds : List Decl) (x : List ℕ) → declares x d ≡ true → count_by (declares x) (d ∷ ds) ≤ 1 → list_any (declares_as Word x) ds ≡ true → ⊥
not_here d ds x is once h =
    let c = ap {B = ℕ} (λ b. cond b 1 0) is in
    let r = declared_once ds x h in
    omega (arith, sum_by-cons (counts x) d ds, c, r, once)

or_further : (d : Decl) (ds : List Decl) (x : List ℕ) (t : Bool)
    → declares x d ≡ t → length (first_cells d) ≡ declaration_cells d → count_by (declares x) (d ∷ ds) ≤ 1 → list_any (declares_as Word x) ds ≡ true
    → (count_by (declares x) ds ≤ 1 → list_any (declares_as Word x) ds ≡ true → IsVariable ds x) → IsVariable (d ∷ ds) x
or_further d ds x true e long once h more = absurd (not_here d ds x e once h)
or_further d ds x false e long once h more =
    let c = ap {B = ℕ} (λ b. cond b 1 0) e in
    further d ds x e long (more (omega (arith, sum_by-cons (counts x) d ds, c, once)) h)

pub is_variable : (ds : List Decl) (x : List ℕ) → count_by (declares x) ds ≤ 1 → list_any (declares_as Word x) ds ≡ true → IsVariable ds x
is_variable [] x once h = absurd (cc)
is_variable (Device k ∷ ds) x once h = or_further (Device k) ds x false refl refl once h (is_variable ds x)
is_variable (Input y ∷ ds) x once h = or_further (Input y) ds x (same x y) refl refl once h (is_variable ds x)
is_variable (Output y ∷ ds) x once h = or_further (Output y) ds x (same x y) refl refl once h (is_variable ds x)
is_variable (Array y n ∷ ds) x once h = or_further (Array y n) ds x (same x y) refl (length-replicate n 0) once h (is_variable ds x)
is_variable (Var y n ∷ ds) x once h = go (same x y) refl h (is_variable ds x)
  where
    go : (t : Bool) → same x y ≡ t → (t || list_any (declares_as Word x) ds) ≡ true
        → (count_by (declares x) ds ≤ 1 → list_any (declares_as Word x) ds ≡ true → IsVariable ds x) → IsVariable (Var y n ∷ ds) x
    go true e h more =
        let p : place (Var y n ∷ ds) x ≡ 0 = ap {B = ℕ} (λ b. if b then 0 else 1 + place ds x) e in
        let f : first_value (Var y n ∷ ds) x ≡ n = ap {B = ℕ} (λ b. if b then n else first_value ds x) e in
        record { there = omega (arith, p); first = f ∙ ap (λ i. get_or (initial_cells (Var y n ∷ ds)) i 0) (sym p) }
    go false e h more = or_further (Var y n) ds x false e refl once h more

pub small_values : (ds : List Decl) (x : List ℕ) → DeclsHaveWords ds → IsWord (first_value ds x)
small_values [] x w = omega arith
small_values (d ∷ ds) x w = go (declares x d) (own d w.0) (small_values ds x w.1)
  where
    own : (d : Decl) → DeclHasWords d → IsWord (own_value d)
    own (Device k) w = omega arith
    own (Input y) w = omega arith
    own (Output y) w = omega arith
    own (Var y v) w = w
    own (Array y k) w = omega arith

    go : (b : Bool) → IsWord (own_value d) → IsWord (first_value ds x) → IsWord (if b then own_value d else first_value ds x)
    go true p q = p
    go false p q = q

-- Elements

element_further : (d : Decl) (ds : List Decl) (x : List ℕ) (i : ℕ) → declares x d ≡ false → length (first_cells d) ≡ declaration_cells d → IsElement ds x i → IsElement (d ∷ ds) x i
element_further d ds x i other long h =
    let p : place (d ∷ ds) x ≡ declaration_cells d + place ds x = ap {B = ℕ} (λ b. if b then 0 else declaration_cells d + place ds x) other in
    let q : place (d ∷ ds) x + i ≡ length (first_cells d) + (place ds x + i) = omega (arith, p, long) in
    record {
      there = omega (arith, p, h.there);
      zero = ap (λ n. get_or (initial_cells (d ∷ ds)) n 0) q ∙ get_or-append-add (first_cells d) (initial_cells ds) (place ds x + i) 0 ∙ h.zero;
    }

-- a declaration without elements, of the name or another
element_on : (d : Decl) (ds : List Decl) (x : List ℕ) (i : ℕ) (t : Bool) → declares x d ≡ t → length (first_cells d) ≡ declaration_cells d → own_length x d ≡ 0
    → nat_lt i (if t then own_length x d else array_length ds x) ≡ true → (nat_lt i (array_length ds x) ≡ true → IsElement ds x i) → IsElement (d ∷ ds) x i
element_on d ds x i true e long own h more = let l = ltb-true i (own_length x d) h in absurd (omega (arith, own, l))
element_on d ds x i false e long own h more = element_further d ds x i e long (more h)

pub is_element : (ds : List Decl) (x : List ℕ) (i : ℕ) → nat_lt i (array_length ds x) ≡ true → IsElement ds x i
is_element [] x i h = let l = ltb-true i 0 h in absurd (omega (arith, l))
is_element (Device k ∷ ds) x i h = element_on (Device k) ds x i false refl refl refl h (is_element ds x i)
is_element (Input y ∷ ds) x i h = element_on (Input y) ds x i (same x y) refl refl refl h (is_element ds x i)
is_element (Output y ∷ ds) x i h = element_on (Output y) ds x i (same x y) refl refl refl h (is_element ds x i)
is_element (Var y n ∷ ds) x i h = element_on (Var y n) ds x i (same x y) refl refl refl h (is_element ds x i)
is_element (Array y n ∷ ds) x i h = go (same x y) refl h (is_element ds x i)
  where
    go : (t : Bool) → same x y ≡ t → nat_lt i (if t then (if t then n else 0) else array_length ds x) ≡ true → (nat_lt i (array_length ds x) ≡ true → IsElement ds x i) → IsElement (Array y n ∷ ds) x i
    go true e h more =
        let l = ltb-true i n h in
        let p : place (Array y n ∷ ds) x ≡ 0 = ap {B = ℕ} (λ b. if b then 0 else n + place ds x) e in
        let q : place (Array y n ∷ ds) x + i ≡ i = omega (arith, p) in
        let inside : i < length (replicate n 0) = omega (arith, l, length-replicate {A = ℕ} n 0) in
        record {
          there = omega (arith, p, l);
          zero = ap (λ k. get_or (initial_cells (Array y n ∷ ds)) k 0) q ∙ get_or-append (replicate n 0) (initial_cells ds) 0 i inside ∙ zero_at n i;
        }
    go false e h more = element_further (Array y n) ds x i e (length-replicate {A = ℕ} n 0) (more h)

-- Handlers

module _ (ds : List Decl) (alone : (x : List ℕ) → count_by (declares x) ds ≤ 1) where
  -- each use is of a local in sight, or as what it is declared
  abbrev pub Proper : List Use → Type 0
  Proper us = All (IsProper ds) us

  pub front : (us vs : List Use) → Proper (us ++ vs) → Proper us
  front [] vs p = All-nil (IsProper ds)
  front (u ∷ us) vs p = All-cons (IsProper ds) u us (All-head (IsProper ds) u (us ++ vs) p) (front us vs (All-tail (IsProper ds) u (us ++ vs) p))

  pub back : (us vs : List Use) → Proper (us ++ vs) → Proper vs
  back [] vs p = p
  back (u ∷ us) vs p = back us vs (All-tail (IsProper ds) u (us ++ vs) p)

  rest : (u : Use) (us : List Use) → Proper (u ∷ us) → Proper us
  rest u us p = All-tail (IsProper ds) u us p

  -- a name that is used as a word, and is no local in scope, is a variable
  pub known_word : (names : List (List ℕ)) (x : List ℕ) (us : List Use) → Proper (used Word x names ∷ us) → IsKnown ds names x
  known_word names x us p unseen = go (All-head (IsProper ds) (used Word x names) us p)
    where
      go : IsProper ds (used Word x names) → IsVariable ds x
      go (inl seen) = absurd (both_ways _ (seen_index names x ∙ unseen) seen)
      go (inr declared) = is_variable ds x (alone x) declared

  pub fine_expression : (e : Expression) (names : List (List ℕ)) → AreWords e → Proper (expression_uses names e) → FineExpression ds names e
  fine_expression (Constant v) names w p = w
  fine_expression (Variable x) names w p = known_word names x [] p
  fine_expression (Indexed x e) names w p = fine_expression e names w (rest _ _ p)
  fine_expression (Applied o e) names w p = fine_expression e names w p
  fine_expression (Combined o a b) names w p =
      (fine_expression a names w.0 (front _ (expression_uses names b) p), fine_expression b names w.1 (back (expression_uses names a) _ p))

  module _ (E : Type 0) where
    mutual
      pub fine_statement : (s : Statement) (names : List (List ℕ)) → HasWords s → Proper (statement_uses names s) → (statement_emits s ≡ true → E) → FineStatement ds E names s
      fine_statement (Defines x e) names w p em = fine_expression e names w p
      fine_statement (Assigns x e) names w p em = (known_word names x _ p, fine_expression e names w (rest _ _ p))
      fine_statement (Stores x i e) names w p em =
          let q = rest _ _ p in
          (fine_expression i names w.0 (front _ (expression_uses names e) q), fine_expression e names w.1 (back (expression_uses names i) _ q))
      fine_statement (Chooses e a b) names w p em =
          let q = back (expression_uses names e) _ p in (
            fine_expression e names w.0 (front _ (block_uses names a ++ block_uses names b) p),
            fine_block a names w.1 (front _ (block_uses names b) q) (λ h. em (or_left (block_emits a) (block_emits b) h)),
            fine_block b names w.2 (back (block_uses names a) _ q) (λ h. em (or_right (block_emits a) (block_emits b) h)),
          )
      fine_statement (Repeats n a) names w p em = (w.0, fine_block a names w.1 p em)
      fine_statement (Sends x e) names w p em = fine_expression e names w (rest _ _ p)
      fine_statement (Emits e) names w p em = (fine_expression e names w p, em refl)

      pub fine_block : (b : Block) (names : List (List ℕ)) → BlockHasWords b → Proper (block_uses names b) → (block_emits b ≡ true → E) → FineBlock ds E names b
      fine_block Done names w p em = tt
      fine_block (Then s b) names w p em = (
        fine_statement s names w.0 (front _ (block_uses (names ++ defined s) b) p) (λ h. em (or_left (statement_emits s) (block_emits b) h)),
        fine_block b (names ++ defined s) w.1 (back (statement_uses names s) _ p) (λ h. em (or_right (statement_emits s) (block_emits b) h)),
      )
