-- Code that is at a place, and runs of operations that work on the stack alone.
use Rattle.std.proofs.Common.{◌≡◌, ℕ, ◌+◌, ◌≤◌, Bool, true, false, List, [], ◌∷◌, ◌++◌, length, Option, Some, None, refl, sym, ap, ◌∙◌, subst, arith}
use Rattle.std.specs.Prelude.{nat_lt, slice_get, if◌then◌else◌, ◌&&◌}
use Rattle.std.proofs.lemmas.Option.{none-some, same_Some}
use Rattle.sx_lang.specs.declared.tree.UnOp.TheVariants as unary
use Rattle.sx_lang.specs.declared.tree.BinOp.TheVariants as binary
use Rattle.sx_mean.specs.Meaning.{apply, combine}
use Rattle.sx_mean.specs.Working as working
use Rattle.sx_rules.specs.declared.access.Violation.{Violation}
use Rattle.spec_machine.specs.Memory.{word}
use Rattle.sx_image.specs.Reach.{Goes, Stops, Here, Next, Ends}
use Rattle.spec_invocation.specs.Marks.{Mark}
use Rattle.spec_invocation.specs.Setup.{Setup}
use Rattle.spec_invocation.specs.Windows.{is_bad_window}
use Rattle.sx_ir.specs.Conf.{Conf, Violates}
use Rattle.sx_ir.specs.Counts.{count_of}
use Rattle.sx_ir.specs.Meaning.{OperationResult, do_op, do_at, op_step, op_count, count_at, handler_count, CodeReaches, element, is_saved, keeps_slots, names_no_key, next, pushed, when, on_top, saved, operated}
use Rattle.sx_ir.specs.declared.ir.IrOp.{IrOp}
use Rattle.sx_ir.specs.declared.ir.IrOp.TheVariants as op
use Rattle.sx_ir.specs.declared.ir.Ir.{Ir}
use Rattle.sx_ir.specs.declared.ir.Ir.TheVariants as ir
use Rattle.lemmas.specs.Truth.{truth}

-- these operations are in the code from this place on
abbrev pub At : List Ir → ℕ → List Ir → Type 0
At code place [] = Unit {0}
At code place (i ∷ ops) = (slice_get code place ≡ Some i) × At code (place + 1) ops

pub at_front : (code : List Ir) (place : ℕ) (xs ys : List Ir) → At code place (xs ++ ys) → At code place xs
at_front code place [] ys h = tt
at_front code place (x ∷ xs) ys h = (h.0, at_front code (place + 1) xs ys h.1)

pub at_back : (code : List Ir) (place q : ℕ) (xs ys : List Ir) → q ≡ place + length xs → At code place (xs ++ ys)
    → At code q ys
at_back code place q [] ys e h = subst (λ (p : ℕ). At code p ys) (omega (arith, e)) h
at_back code place q (x ∷ xs) ys e h = at_back code (place + 1) q xs ys (omega (arith, e)) h.1

-- the configuration at a place with a stack
abbrev pub at : Conf → ℕ → List ℕ → Conf
at c place stack = record c { place = place; stack = stack }

-- what an operation that works on the stack alone leaves there

abbrev pub two_words : (ℕ → ℕ → ℕ) → List ℕ → Option (List ℕ)
two_words f [] = None
two_words f (y ∷ []) = None
two_words f (y ∷ x ∷ rest) = Some (f x y ∷ rest)

abbrev pub one_word : (ℕ → ℕ) → List ℕ → Option (List ℕ)
one_word f [] = None
one_word f (x ∷ rest) = Some (f x ∷ rest)

abbrev pub with_room : ℕ → List ℕ → Option (List ℕ)
with_room v stack = if nat_lt (length stack) 160 then Some (v ∷ stack) else None

abbrev pub operator : IrOp → List ℕ → Option (List ℕ)
operator op.Add stack = two_words (combine binary.Add) stack
operator op.Sub stack = two_words (combine binary.Sub) stack
operator op.Mul stack = two_words (combine binary.Mul) stack
operator op.And stack = two_words (combine binary.And) stack
operator op.Or stack = two_words (combine binary.Or) stack
operator op.Xor stack = two_words (combine binary.Xor) stack
operator op.Eq stack = two_words (combine binary.Eq) stack
operator op.Lt stack = two_words (combine binary.Lt) stack
operator op.Neg stack = one_word (apply unary.Neg) stack
operator op.Inv stack = one_word (apply unary.Inv) stack
operator op.Not stack = one_word (apply unary.Not) stack

abbrev pub pure_op : Setup → List ℕ → Ir → List ℕ → Option (List ℕ)
pure_op s priv (ir.Push n) stack = with_room n stack
pure_op s priv (ir.Load o) stack = with_room (word priv o) stack
pure_op s priv (ir.Store o) stack = None
pure_op s priv (ir.LoadAt o n) stack = one_word (element priv o n) stack
pure_op s priv (ir.StoreAt o n) stack = None
pure_op s priv (ir.Op f) stack = operator f stack
pure_op s priv (ir.Jump p) stack = None
pure_op s priv (ir.JumpZero p) stack = None
pure_op s priv (ir.JumpEqual o n p) stack = None
pure_op s priv (ir.Packet k) stack = None
pure_op s priv ir.Drop stack = None
pure_op s priv ir.Emit stack = None
pure_op s priv ir.Stop stack = None
pure_op s priv (ir.Saved r) stack = if is_saved r then with_room (word priv (working.saved_at r)) stack else None
pure_op s priv ir.Inside stack = None
pure_op s priv (ir.Meets r n) stack = if is_saved r then with_room (truth (is_bad_window s (word priv (working.saved_at r)) n)) stack else None
pure_op s priv (ir.CopyIn n o) stack = None
pure_op s priv (ir.CopyOut n o) stack = None
pure_op s priv (ir.Seal k h hn b bn) stack = None
pure_op s priv (ir.Open k h hn b bn) stack = None
pure_op s priv (ir.SetEnd k) stack = None
pure_op s priv ir.Sense stack = None
pure_op s priv (ir.Handler h) stack = None
pure_op s priv ir.Leave stack = None

abbrev pub after_pure : Option (List ℕ) → (List ℕ → Option (List ℕ)) → Option (List ℕ)
after_pure None rest = None
after_pure (Some stack) rest = rest stack

-- where it names no key
abbrev pub pure_at : Setup → List ℕ → Ir → List ℕ → Option (List ℕ)
pure_at s priv i stack = if names_no_key (length s.ends) i stack then pure_op s priv i stack else None

abbrev pub pure : Setup → List ℕ → List Ir → List ℕ → Option (List ℕ)
pure s priv [] stack = Some stack
pure s priv (i ∷ ops) stack = after_pure (pure_at s priv i stack) (pure s priv ops)

-- the instructions of operations
abbrev pub counts : List Ir → ℕ
counts [] = 0
counts (i ∷ ops) = count_of i + counts ops

module _ (s : Setup) (handle : ℕ → Conf → OperationResult) where
  -- the operation does that

  room_does : (c : Conf) (v : ℕ) (st : List ℕ) → with_room v c.stack ≡ Some st → pushed c v ≡ Goes (next c st)
  room_does c v st h = go (nat_lt (length c.stack) 160) h
    where
      go : (b : Bool) → (if b then Some (v ∷ c.stack) else None) ≡ Some st
          → when b (Goes (next c (v ∷ c.stack))) ≡ Goes (next c st)
      go true h = ap (λ (st : List ℕ). Goes (next c st)) (same_Some (v ∷ c.stack) st h)
      go false h = absurd (none-some st h)

  two_does : (f : ℕ → ℕ → ℕ) (c : Conf) (stack st : List ℕ) → two_words f stack ≡ Some st
      → on_top stack (λ y below. on_top below (λ x rest. Goes (next c (f x y ∷ rest)))) ≡ Goes (next c st)
  two_does f c [] st h = absurd (none-some st h)
  two_does f c (y ∷ []) st h = absurd (none-some st h)
  two_does f c (y ∷ x ∷ rest) st h = ap (λ (st : List ℕ). Goes (next c st)) (same_Some (f x y ∷ rest) st h)

  one_does : (f : ℕ → ℕ) (c : Conf) (stack st : List ℕ) → one_word f stack ≡ Some st
      → on_top stack (λ x rest. Goes (next c (f x ∷ rest))) ≡ Goes (next c st)
  one_does f c [] st h = absurd (none-some st h)
  one_does f c (x ∷ rest) st h = ap (λ (st : List ℕ). Goes (next c st)) (same_Some (f x ∷ rest) st h)

  operator_does : (f : IrOp) (c : Conf) (st : List ℕ) → operator f c.stack ≡ Some st → operated f c ≡ Goes (next c st)
  operator_does op.Add c st h = two_does (combine binary.Add) c c.stack st h
  operator_does op.Sub c st h = two_does (combine binary.Sub) c c.stack st h
  operator_does op.Mul c st h = two_does (combine binary.Mul) c c.stack st h
  operator_does op.And c st h = two_does (combine binary.And) c c.stack st h
  operator_does op.Or c st h = two_does (combine binary.Or) c c.stack st h
  operator_does op.Xor c st h = two_does (combine binary.Xor) c c.stack st h
  operator_does op.Eq c st h = two_does (combine binary.Eq) c c.stack st h
  operator_does op.Lt c st h = two_does (combine binary.Lt) c c.stack st h
  operator_does op.Neg c st h = one_does (apply unary.Neg) c c.stack st h
  operator_does op.Inv c st h = one_does (apply unary.Inv) c c.stack st h
  operator_does op.Not c st h = one_does (apply unary.Not) c c.stack st h

  saved_does : (b : Bool) (c : Conf) (v : ℕ) (st : List ℕ) → (if b then with_room v c.stack else None) ≡ Some st
      → when b (pushed c v) ≡ Goes (next c st)
  saved_does true c v st h = room_does c v st h
  saved_does false c v st h = absurd (none-some st h)

  pub pure_does : (i : Ir) (c : Conf) (st : List ℕ) → pure_op s c.priv i c.stack ≡ Some st
      → do_op s handle i c ≡ Goes (next c st)
  pure_does (ir.Push n) c st h = room_does c n st h
  pure_does (ir.Load o) c st h = room_does c (word c.priv o) st h
  pure_does (ir.Store o) c st h = absurd (none-some st h)
  pure_does (ir.LoadAt o n) c st h = one_does (element c.priv o n) c c.stack st h
  pure_does (ir.StoreAt o n) c st h = absurd (none-some st h)
  pure_does (ir.Op f) c st h = operator_does f c st h
  pure_does (ir.Jump p) c st h = absurd (none-some st h)
  pure_does (ir.JumpZero p) c st h = absurd (none-some st h)
  pure_does (ir.JumpEqual o n p) c st h = absurd (none-some st h)
  pure_does (ir.Packet k) c st h = absurd (none-some st h)
  pure_does ir.Drop c st h = absurd (none-some st h)
  pure_does ir.Emit c st h = absurd (none-some st h)
  pure_does ir.Stop c st h = absurd (none-some st h)
  pure_does (ir.Saved r) c st h = saved_does (is_saved r) c (saved c r) st h
  pure_does ir.Inside c st h = absurd (none-some st h)
  pure_does (ir.Meets r n) c st h = saved_does (is_saved r) c (truth (is_bad_window s (saved c r) n)) st h
  pure_does (ir.CopyIn n o) c st h = absurd (none-some st h)
  pure_does (ir.CopyOut n o) c st h = absurd (none-some st h)
  pure_does (ir.Seal k x hn b bn) c st h = absurd (none-some st h)
  pure_does (ir.Open k x hn b bn) c st h = absurd (none-some st h)
  pure_does (ir.SetEnd k) c st h = absurd (none-some st h)
  pure_does ir.Sense c st h = absurd (none-some st h)
  pure_does (ir.Handler x) c st h = absurd (none-some st h)
  pure_does ir.Leave c st h = absurd (none-some st h)

  pure_keeps : (i : Ir) (c : Conf) (st : List ℕ) → pure_op s c.priv i c.stack ≡ Some st → keeps_slots (length s.ends) i c ≡ true
  pure_keeps (ir.Store o) c st h = absurd (none-some st h)
  pure_keeps (ir.StoreAt o n) c st h = absurd (none-some st h)
  pure_keeps (ir.Packet k) c st h = absurd (none-some st h)
  pure_keeps (ir.CopyIn n o) c st h = absurd (none-some st h)
  pure_keeps (ir.Seal k x hn b bn) c st h = absurd (none-some st h)
  pure_keeps (ir.Open k x hn b bn) c st h = absurd (none-some st h)
  pure_keeps (ir.SetEnd k) c st h = absurd (none-some st h)
  pure_keeps i c st h = refl

  pub pure_done : (i : Ir) (c : Conf) (st : List ℕ) → pure_at s c.priv i c.stack ≡ Some st
      → do_at s handle (Some i) c ≡ Goes (next c st)
  pure_done i c st h = go (names_no_key (length s.ends) i c.stack) h
    where
      go : (b : Bool) → (if b then pure_op s c.priv i c.stack else None) ≡ Some st → when (keeps_slots (length s.ends) i c && b) (do_op s handle i c) ≡ Goes (next c st)
      go true h = ap (λ (b : Bool). when (b && true) (do_op s handle i c)) (pure_keeps i c st h) ∙ pure_does i c st h
      go false h = absurd (none-some st h)

  pub pure_count : (given : ℕ → ℕ) (i : Ir) (priv stack st : List ℕ) → pure_at s priv i stack ≡ Some st
      → handler_count given i ≡ 0
  pure_count given (ir.Handler x) priv stack st h = absurd (none-some st h)
  pure_count given i priv stack st h = refl

module _ (s : Setup) (handle : ℕ → Conf → OperationResult) (given : ℕ → ℕ) (code : List Ir) (B : Violation → List Mark → Type 0) (Q : Conf → Type 0) where
  abbrev pub Runs : ℕ → Conf → Type 0
  Runs n c = CodeReaches s handle given code B Q n c

  pub wider : (n m : ℕ) (c : Conf) → m ≤ n → Runs m c → Runs n c
  wider n m c le (Here x) = Here x
  wider n m c le (Next x y z r) = Next x y (omega arith) r
  wider n m c le (Ends x y z r) = Ends x y (omega arith) r

  -- one operation that goes on
  pub goes : (i : Ir) (c t : Conf) (n m : ℕ) → slice_get code c.place ≡ Some i → do_at s handle (Some i) c ≡ Goes t
      → handler_count given i ≡ 0 → count_of i + m ≤ n → Runs m t → Runs n c
  unfolding op_step op_count
  goes i c t n m e d z le r =
      let f : do_at s handle (slice_get code c.place) c ≡ Goes t = rw e d in
      let k : count_at given (slice_get code c.place) ≡ count_of i = rw (e, z) (omega arith) in
      Next {k = m} tt f (omega (arith, k, le)) r

  -- one that ends in a violation
  pub halts : (i : Ir) (c : Conf) (v : Violation) (marks : List Mark) (n : ℕ) → slice_get code c.place ≡ Some i
      → do_at s handle (Some i) c ≡ Stops (Violates v marks) → handler_count given i ≡ 0 → count_of i ≤ n → B v marks
      → Runs n c
  unfolding op_step op_count
  halts i c v marks n e d z le b =
      let f : do_at s handle (slice_get code c.place) c ≡ Stops (Violates v marks) = rw e d in
      let k : count_at given (slice_get code c.place) ≡ count_of i = rw (e, z) (omega arith) in
      Ends tt f (omega (arith, k, le)) b

  -- operations that work on the stack alone, and what follows them
  pub runs : (ops : List Ir) (c : Conf) (p q : ℕ) (stack st : List ℕ) (n m : ℕ) → At code p ops
      → pure s c.priv ops stack ≡ Some st → p + length ops ≡ q → counts ops + m ≤ n → Runs m (at c q st)
      → Runs n (at c p stack)
  runs [] c p q stack st n m a e f le r =
      let g : p ≡ q = omega (arith, f) in
      let h = same_Some stack st e in
      wider n m (at c p stack) (omega (arith, le)) (subst (λ (p : ℕ). Runs m (at c p stack)) (sym g) (subst (λ (st : List ℕ). Runs m (at c q st)) (sym h) r))
  runs (i ∷ ops) c p q stack st n m a e f le r =
      first (pure_at s c.priv i stack) refl e (λ st1 x. runs ops c (p + 1) q st1 st (counts ops + m) m a.1 x (omega (arith, f)) (omega arith) r)
    where
      first : (o : Option (List ℕ)) → pure_at s c.priv i stack ≡ o → after_pure o (pure s c.priv ops) ≡ Some st
          → ((st1 : List ℕ) → pure s c.priv ops st1 ≡ Some st → Runs (counts ops + m) (at c (p + 1) st1))
          → Runs n (at c p stack)
      first None h x f = absurd (none-some st x)
      first (Some st1) h x f =
          goes i (at c p stack) (at c (p + 1) st1) n (counts ops + m) a.0 (pure_done s handle i (at c p stack) st1 h) (pure_count s handle given i c.priv stack st1 h) (omega (arith, le)) (f st1 x)
