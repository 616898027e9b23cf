-- Operations one by one, and expressions.
use Rattle.std.proofs.Common.{◌≡◌, ℕ, ◌+◌, ◌*◌, ◌%◌, ◌<◌, ◌≤◌, Bool, true, false, if◌then◌else◌, List, [], ◌∷◌, ◌++◌, length, Some, nat_lt, refl, sym, ap, ◌∙◌, subst, arith, length-append, append_assoc}
use Rattle.std.specs.Prelude.{slice_get}
use Rattle.std.proofs.Math.Seq.{get_or-append_seam}
use Rattle.std.proofs.lemmas.Option.{slice_get-get_or}
use Rattle.std.proofs.lemmas.Bool.{lt-ltb, ltb-true}
use Rattle.sx_lang.specs.declared.tree.Decl.{Decl}
use Rattle.sx_lang.specs.declared.tree.UnOp.{UnOp}
use Rattle.sx_lang.specs.declared.tree.UnOp.TheVariants as unary
use Rattle.sx_lang.specs.declared.tree.BinOp.{BinOp}
use Rattle.sx_lang.specs.declared.tree.BinOp.TheVariants.{Add, Sub, Or, Xor, Mul, And, Eq, Ne, Lt, Le, Gt, Ge}
use Rattle.sx_lang.specs.Tree.{Expression, Constant, Variable, Indexed, Applied, Combined}
use Rattle.sx_lang.specs.Sizes.{operator_cost, expression_cost}
use Rattle.sx_check.specs.Bounds.{height}
use Rattle.sx_mean.specs.Places.{place, array_length}
use Rattle.sx_mean.specs.Meaning.{HandlerState, apply, combine, word, element, value}
use Rattle.sx_rules.specs.declared.access.Violation.{Violation}
use Rattle.sx_image.specs.Reach.{Goes, Stops, Here, Next, Ends}
use Rattle.sx_image.proofs.Reaching.{and_then, weaken}
use Rattle.spec_machine.specs.Memory as memory
use Rattle.spec_invocation.specs.Marks.{Mark}
use Rattle.spec_invocation.specs.Setup.{Setup}
use Rattle.sx_mean.specs.Offsets.{cell_at}
use Rattle.sx_mean.specs.Working.{stack_words, local_at}
use Rattle.sx_ir.specs.Conf.{Conf, Halt, Violates}
use Rattle.sx_ir.specs.Counts.{count_of}
use Rattle.sx_ir.specs.Meaning.{OperationResult, op_step, is_shown, is_shown_element, op_count, handler_count, count_at, do_at, OnViolation, CodeReaches, when}
use Rattle.sx_ir.specs.declared.ir.Ir.{Ir}
use Rattle.sx_ir.specs.declared.ir.Ir.TheVariants as ir
use Rattle.sx_ir.specs.declared.ir.IrOp.TheVariants as op
use Rattle.sx_mean.specs.Scope.{index_of}
use Rattle.sx_mean.specs.Variables.{first_value, IsKnown, FineExpression}
use Rattle.sx_lower.specs.Lowered.{variable_code, unary_op, is_turned, operator_code, expression_code}
use Rattle.sx_mean.proofs.Words.{not_equal, at_most}
use Rattle.sx_ir.proofs.Shown.{cell_shown, element_shown, middle_shown}
use Rattle.sx_lower.proofs.Holds.{Holds, read_local, read_cell, read_element}

-- the operations are in the code from this place on
abbrev pub HasAt : List Ir → ℕ → List Ir → Type 0
HasAt code p [] = Unit {0}
HasAt code p (i ∷ is) = (slice_get code p ≡ Some i) × HasAt code (p + 1) is

pub has_front : (code : List Ir) (p : ℕ) (a b : List Ir) → HasAt code p (a ++ b) → HasAt code p a
has_front code p [] b h = tt
has_front code p (i ∷ a) b h = (h.0, has_front code (p + 1) a b h.1)

pub has_back : (code : List Ir) (p : ℕ) (a b : List Ir) → HasAt code p (a ++ b) → HasAt code (p + length a) b
has_back code p [] b h = let e : p ≡ p + 0 = omega arith in subst (λ n. HasAt code n b) e h
has_back code p (i ∷ a) b h =
    let e : p + 1 + length a ≡ p + length (i ∷ a) = omega arith in
    subst (λ n. HasAt code n b) e (has_back code (p + 1) a b h.1)

pub has_all : (is pre post : List Ir) → HasAt (pre ++ (is ++ post)) (length pre) is
has_all [] pre post = tt
has_all (i ∷ is) pre post =
    let rest = is ++ post in
    let within : length pre < length (pre ++ i ∷ rest) = omega (arith, length-append pre (i ∷ rest)) in
    let here = slice_get-get_or (pre ++ i ∷ rest) (length pre) i within ∙ ap Some (get_or-append_seam pre i rest i) in
    let n : length (pre ++ i ∷ []) ≡ length pre + 1 = omega (arith, length-append pre (i ∷ [])) in
    let more = has_all is (pre ++ i ∷ []) post in
    let more' = subst (λ l. HasAt l (length (pre ++ i ∷ [])) is) (append_assoc pre (i ∷ []) rest) more in
    (here, subst (λ m. HasAt (pre ++ i ∷ rest) m is) n more')

-- a configuration at another place, with another stack
abbrev pub at : ℕ → List ℕ → Conf → Conf
at p stack c = record c { place = p; stack = stack }

module _ (s : Setup) (handle : ℕ → Conf → OperationResult) (given : ℕ → ℕ) (code : List Ir) (B : Violation → List Mark → Type 0) where
  abbrev pub Comes_to : (Conf → Type 0) → ℕ → Conf → Type 0
  Comes_to Q n c = CodeReaches s handle given code B Q n c

  -- one operation, and what follows
  pub do_one : (Q : Conf → Type 0) (i : Ir) (c t : Conf) (k n : ℕ) → slice_get code c.place ≡ Some i → do_at s handle (Some i) c ≡ Goes t → count_of i + handler_count given i + k ≤ n → Comes_to Q k t
      → Comes_to Q n c
  unfolding op_step op_count
  do_one Q i c t k n has e le r = Next {k = k} {t = t} tt (ap (λ o. do_at s handle o c) has ∙ e) (subst (λ o. count_at given o + k ≤ n) (sym has) le) r

  -- an operation that ends the run with a violation
  pub do_last : (Q : Conf → Type 0) (i : Ir) (c : Conf) (n : ℕ) (v : Violation) (marks : List Mark) → slice_get code c.place ≡ Some i → do_at s handle (Some i) c ≡ Stops (Violates v marks)
      → count_of i + handler_count given i ≤ n → B v marks → Comes_to Q n c
  unfolding op_step op_count
  do_last Q i c n v marks has e le b = Ends {v = Violates v marks} tt (ap (λ o. do_at s handle o c) has ∙ e) (subst (λ o. count_at given o ≤ n) (sym has) le) b

  -- a stretch that ends at one configuration
  abbrev pub Gives : Conf → Conf → ℕ → Type 0
  Gives c t n = Comes_to (λ u. u ≡ t) n c

  pub then_so : (Q R : Conf → Type 0) (c : Conf) (n m j : ℕ) → n + m ≤ j → Comes_to Q n c → ((t : Conf) → Q t → Comes_to R m t) → Comes_to R j c
  then_so Q R c n m j le g f = and_then Conf Halt (op_step s handle code) (op_count given code) (λ _. Unit {0}) (OnViolation B) Q R n m j c le g f

  pub after : (Q : Conf → Type 0) (c t : Conf) (n m j : ℕ) → n + m ≤ j → Gives c t n → Comes_to Q m t → Comes_to Q j c
  after Q c t n m j le g r = then_so (λ u. u ≡ t) Q c n m j le g (λ u e. subst (λ u. Comes_to Q m u) (sym e) r)

  pub weaker : (Q R : Conf → Type 0) (c : Conf) (n m : ℕ) → n ≤ m → ((t : Conf) → Q t → R t) → Comes_to Q n c → Comes_to R m c
  weaker Q R c n m le f g = weaken Conf Halt (op_step s handle code) (op_count given code) (λ _. Unit {0}) (λ _. Unit {0}) (OnViolation B) (OnViolation B) Q R n m c le (λ t p. p) (λ t v b. b) f g

  pub to : (Q : Conf → Type 0) (n p q : ℕ) (stack : List ℕ) (c : Conf) → p ≡ q → Comes_to Q n (at q stack c) → Comes_to Q n (at p stack c)
  to Q n p q stack c e r = subst (λ p. Comes_to Q n (at p stack c)) (sym e) r

  -- where a test is passed
  pub passed : (b : Bool) (a : OperationResult) → b ≡ true → when b a ≡ a
  passed b a e = ap (λ b. when b a) e

  pub room : (stack : List ℕ) (a : OperationResult) → length stack < stack_words → when (nat_lt (length stack) stack_words) a ≡ a
  room stack a h = ap (λ b. when b a) (lt-ltb (length stack) stack_words h)

  -- an operator of two values
  operator_reach : (o : BinOp) (a b p : ℕ) (stack : List ℕ) (c : Conf) → HasAt code p (operator_code o)
      → Gives (at p ((if is_turned o then a else b) ∷ (if is_turned o then b else a) ∷ stack) c) (at (p + length (operator_code o)) (combine o a b ∷ stack) c) (operator_cost o)
  operator_reach Add a b p stack c has = do_one _ (ir.Op op.Add) _ _ 0 _ has.0 refl (omega arith) (Here refl)
  operator_reach Sub a b p stack c has = do_one _ (ir.Op op.Sub) _ _ 0 _ has.0 refl (omega arith) (Here refl)
  operator_reach Or a b p stack c has = do_one _ (ir.Op op.Or) _ _ 0 _ has.0 refl (omega arith) (Here refl)
  operator_reach Xor a b p stack c has = do_one _ (ir.Op op.Xor) _ _ 0 _ has.0 refl (omega arith) (Here refl)
  operator_reach Mul a b p stack c has = do_one _ (ir.Op op.Mul) _ _ 0 _ has.0 refl (omega arith) (Here refl)
  operator_reach And a b p stack c has = do_one _ (ir.Op op.And) _ _ 0 _ has.0 refl (omega arith) (Here refl)
  operator_reach Eq a b p stack c has = do_one _ (ir.Op op.Eq) _ _ 0 _ has.0 refl (omega arith) (Here refl)
  operator_reach Lt a b p stack c has = do_one _ (ir.Op op.Lt) _ _ 0 _ has.0 refl (omega arith) (Here refl)
  operator_reach Gt a b p stack c has = do_one _ (ir.Op op.Lt) _ _ 0 _ has.0 refl (omega arith) (Here refl)
  operator_reach Ne a b p stack c has =
      let q : p + 1 + 1 ≡ p + 2 = omega arith in
      do_one _ (ir.Op op.Eq) _ (at (p + 1) (combine Eq a b ∷ stack) c) 8 _ has.0 refl (omega arith)
      (do_one _ (ir.Op op.Not) _ (at (p + 1 + 1) (apply unary.Not (combine Eq a b) ∷ stack) c) 0 _ has.1.0 refl (omega arith)
      (Here (ap (λ v. at (p + 1 + 1) (v ∷ stack) c) (not_equal a b) ∙ ap (λ p. at p (combine Ne a b ∷ stack) c) q)))
  operator_reach Le a b p stack c has =
      let q : p + 1 + 1 ≡ p + 2 = omega arith in
      do_one _ (ir.Op op.Lt) _ (at (p + 1) (combine Lt b a ∷ stack) c) 8 _ has.0 refl (omega arith)
      (do_one _ (ir.Op op.Not) _ (at (p + 1 + 1) (apply unary.Not (combine Lt b a) ∷ stack) c) 0 _ has.1.0 refl (omega arith)
      (Here (ap (λ v. at (p + 1 + 1) (v ∷ stack) c) (at_most a b) ∙ ap (λ p. at p (combine Le a b ∷ stack) c) q)))
  operator_reach Ge a b p stack c has =
      let q : p + 1 + 1 ≡ p + 2 = omega arith in
      do_one _ (ir.Op op.Lt) _ (at (p + 1) (combine Lt a b ∷ stack) c) 8 _ has.0 refl (omega arith)
      (do_one _ (ir.Op op.Not) _ (at (p + 1 + 1) (apply unary.Not (combine Lt a b) ∷ stack) c) 0 _ has.1.0 refl (omega arith)
      (Here (ap (λ v. at (p + 1 + 1) (v ∷ stack) c) (at_most b a) ∙ ap (λ p. at p (combine Ge a b ∷ stack) c) q)))

  unary_reach : (o : UnOp) (a p : ℕ) (stack : List ℕ) (c : Conf) → HasAt code p (ir.Op (unary_op o) ∷ []) → Gives (at p (a ∷ stack) c) (at (p + 1) (apply o a ∷ stack) c) 32
  unary_reach unary.Neg a p stack c has = do_one _ (ir.Op op.Neg) _ _ 0 _ has.0 refl (omega arith) (Here refl)
  unary_reach unary.Inv a p stack c has = do_one _ (ir.Op op.Inv) _ _ 0 _ has.0 refl (omega arith) (Here refl)
  unary_reach unary.Not a p stack c has = do_one _ (ir.Op op.Not) _ _ 0 _ has.0 refl (omega arith) (Here refl)

  module _ (ds : List Decl) (n : ℕ) (names : List (List ℕ)) (st : HandlerState) (all : length s.ends ≡ n) where
    -- neither locals nor cells hold a key

    local_is_shown : (i : ℕ) → i < length names → length names ≤ 16 → is_shown (length s.ends) (local_at i) 2 ≡ true
    local_is_shown i lt few = middle_shown (length s.ends) (local_at i) 2 (omega arith) (omega (arith, lt, few))

    element_is_shown : (x : List ℕ) (i : ℕ) → is_shown_element (length s.ends) (cell_at n (place ds x)) (array_length ds x) i ≡ true
    element_is_shown x i = element_shown (length s.ends) (cell_at n (place ds x)) (array_length ds x) i (cell_shown (length s.ends) (cell_at n (place ds x) + 2 * i) 2 (omega (arith, all)))

    variable_reach : (x : List ℕ) (p : ℕ) (stack : List ℕ) (c : Conf) → Holds ds n names st c.priv → IsKnown ds names x → length stack + 1 < stack_words → HasAt code p (variable_code ds n names x)
        → Gives (at p stack c) (at (p + length (variable_code ds n names x)) (word ds st x ∷ stack) c) 32
    variable_reach x p stack c h known space has = go (nat_lt (index_of names x) (length names)) refl has
      where
        go : (b : Bool) → nat_lt (index_of names x) (length names) ≡ b
            → HasAt code p (if b then ir.Load (local_at (index_of names x)) ∷ [] else ir.Load (cell_at n (place ds x)) ∷ ir.Push (first_value ds x) ∷ ir.Op op.Add ∷ [])
            → Gives (at p stack c) (at (p + length (if b then ir.Load (local_at (index_of names x)) ∷ [] else ir.Load (cell_at n (place ds x)) ∷ ir.Push (first_value ds x) ∷ ir.Op op.Add ∷ []))
            (word ds st x ∷ stack) c) 32
        go true e has =
            do_one _ (ir.Load (local_at (index_of names x))) _ (at (p + 1) (memory.word c.priv (local_at (index_of names x)) ∷ stack) c) 0 _ has.0
            (passed _ _ (local_is_shown (index_of names x) (ltb-true (index_of names x) (length names) e) h.few) ∙ room stack _ (omega (arith, space))) (omega arith)
            (Here (ap (λ v. at (p + 1) (v ∷ stack) c) (read_local ds n names st c.priv h x e)))
        go false e has =
            let w = memory.word c.priv (cell_at n (place ds x)) in
            let f = first_value ds x in
            let q : p + 1 + 1 + 1 ≡ p + 3 = omega arith in
            do_one _ (ir.Load (cell_at n (place ds x))) _ (at (p + 1) (w ∷ stack) c) 16 _ has.0
            (passed _ _ (cell_shown (length s.ends) (cell_at n (place ds x)) 2 (omega (arith, all))) ∙ room stack _ (omega (arith, space))) (omega arith)
            (do_one _ (ir.Push f) _ (at (p + 1 + 1) (f ∷ w ∷ stack) c) 8 _ has.1.0 (room (w ∷ stack) _ (omega (arith, space))) (omega arith)
            (do_one _ (ir.Op op.Add) _ (at (p + 1 + 1 + 1) ((w + f) % 65536 ∷ stack) c) 0 _ has.1.1.0 refl (omega arith)
            (Here (ap (λ v. at (p + 1 + 1 + 1) (v ∷ stack) c) (read_cell ds n names st c.priv h x e (known e)) ∙ ap (λ p. at p (word ds st x ∷ stack) c) q))))

    -- two stretches that push, and what follows them
    two_reach : (ca cb co : List Ir) (x y z na nb nc j p : ℕ) (stack : List ℕ) (c : Conf) → na + nb + nc ≤ j
        → Gives (at p stack c) (at (p + length ca) (x ∷ stack) c) na
        → Gives (at (p + length ca) (x ∷ stack) c) (at (p + length ca + length cb) (y ∷ x ∷ stack) c) nb
        → Gives (at (p + length ca + length cb) (y ∷ x ∷ stack) c) (at (p + length ca + length cb + length co) (z ∷ stack) c) nc
        → Gives (at p stack c) (at (p + length (ca ++ (cb ++ co))) (z ∷ stack) c) j
    two_reach ca cb co x y z na nb nc j p stack c le ra rb ro =
        let len : p + length ca + length cb + length co ≡ p + length (ca ++ (cb ++ co)) = omega (arith, length-append ca (cb ++ co), length-append cb co) in
        after _ _ _ na (nb + nc) _ (omega (arith, le)) ra
        (after _ _ _ nb nc _ (omega arith) rb
        (subst (λ q. Gives (at (p + length ca + length cb) (y ∷ x ∷ stack) c) (at q (z ∷ stack) c) nc) len ro))

    pub expression_reach : (e : Expression) (p : ℕ) (stack : List ℕ) (c : Conf) → Holds ds n names st c.priv → FineExpression ds names e → length stack + height e < stack_words
        → HasAt code p (expression_code ds n names e) → Gives (at p stack c) (at (p + length (expression_code ds n names e)) (value ds st e ∷ stack) c) (expression_cost e)
    expression_reach (Constant v) p stack c h fine space has =
        do_one _ (ir.Push v) _ (at (p + 1) (v ∷ stack) c) 0 _ has.0 (room stack _ (omega (arith, space))) (omega arith) (Here refl)
    expression_reach (Variable x) p stack c h fine space has = variable_reach x p stack c h fine space has
    expression_reach (Indexed x e) p stack c h fine space has =
        let ce = expression_code ds n names e in
        let i = value ds st e in
        let load = ir.LoadAt (cell_at n (place ds x)) (array_length ds x) in
        let len : p + length ce + 1 ≡ p + length (ce ++ load ∷ []) = omega (arith, length-append ce (load ∷ [])) in
        after _ _ _ (expression_cost e) 64 _ (omega arith) (expression_reach e p stack c h fine (omega (arith, space)) (has_front code p ce _ has))
        (do_one _ load _ (at (p + length ce + 1) (_ ∷ stack) c) 0 _ (has_back code p ce _ has).0 (passed _ _ (element_is_shown x i)) (omega arith)
        (Here (ap (λ v. at (p + length ce + 1) (v ∷ stack) c) (read_element ds n names st c.priv h x i) ∙ ap (λ p. at p (element ds st x i ∷ stack) c) len)))
    expression_reach (Applied o e) p stack c h fine space has =
        let ce = expression_code ds n names e in
        let len : p + length ce + 1 ≡ p + length (ce ++ ir.Op (unary_op o) ∷ []) = omega (arith, length-append ce (ir.Op (unary_op o) ∷ [])) in
        after _ _ _ (expression_cost e) 32 _ (omega arith) (expression_reach e p stack c h fine (omega (arith, space)) (has_front code p ce _ has))
        (subst (λ q. Gives (at (p + length ce) (value ds st e ∷ stack) c) (at q (apply o (value ds st e) ∷ stack) c) 32) len
        (unary_reach o (value ds st e) (p + length ce) stack c (has_back code p ce _ has)))
    expression_reach (Combined o a b) p stack c h fine space has =
        go (is_turned o) refl (expression_code ds n names a) (expression_code ds n names b) has
        (λ p stack space has. expression_reach a p stack c h fine.0 space has)
        (λ p stack space has. expression_reach b p stack c h fine.1 space has)
      where
        go : (t : Bool) → is_turned o ≡ t → (ca cb : List Ir) → HasAt code p (if t then cb ++ (ca ++ operator_code o) else ca ++ (cb ++ operator_code o))
            → ((p : ℕ) (stack : List ℕ) → length stack + height a < stack_words → HasAt code p ca → Gives (at p stack c) (at (p + length ca) (value ds st a ∷ stack) c) (expression_cost a))
            → ((p : ℕ) (stack : List ℕ) → length stack + height b < stack_words → HasAt code p cb → Gives (at p stack c) (at (p + length cb) (value ds st b ∷ stack) c) (expression_cost b))
            → Gives (at p stack c) (at (p + length (if t then cb ++ (ca ++ operator_code o) else ca ++ (cb ++ operator_code o))) (combine o (value ds st a) (value ds st b) ∷ stack) c)
            (operator_cost o + expression_cost a + expression_cost b)
        go false e ca cb has ra rb =
            let x = value ds st a in
            let y = value ds st b in
            let back = has_back code p ca _ has in
            let ro = operator_reach o x y (p + length ca + length cb) stack c (has_back code (p + length ca) cb _ back) in
            let ro2 = subst (λ t. Gives (at (p + length ca + length cb) ((if t then x else y) ∷ (if t then y else x) ∷ stack) c)
            (at (p + length ca + length cb + length (operator_code o)) (combine o x y ∷ stack) c) (operator_cost o)) e ro in
            two_reach ca cb (operator_code o) x y _ (expression_cost a) (expression_cost b) (operator_cost o) _ p stack c (omega arith)
            (ra p stack (omega (arith, space)) (has_front code p ca _ has))
            (rb (p + length ca) (x ∷ stack) (omega (arith, space)) (has_front code (p + length ca) cb _ back)) ro2
        go true e ca cb has ra rb =
            let x = value ds st a in
            let y = value ds st b in
            let back = has_back code p cb _ has in
            let ro = operator_reach o x y (p + length cb + length ca) stack c (has_back code (p + length cb) ca _ back) in
            let ro2 = subst (λ t. Gives (at (p + length cb + length ca) ((if t then x else y) ∷ (if t then y else x) ∷ stack) c)
            (at (p + length cb + length ca + length (operator_code o)) (combine o x y ∷ stack) c) (operator_cost o)) e ro in
            two_reach cb ca (operator_code o) y x _ (expression_cost b) (expression_cost a) (operator_cost o) _ p stack c (omega arith)
            (rb p stack (omega (arith, space)) (has_front code p cb _ has))
            (ra (p + length cb) (y ∷ stack) (omega (arith, space)) (has_front code (p + length cb) ca _ back)) ro2
