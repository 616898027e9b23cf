-- The places and offsets of lowered code are there.
use Rattle.std.proofs.Common.{◌≡◌, ℕ, ◌+◌, ◌*◌, ◌%◌, ◌<◌, ◌≤◌, ◌⊎◌, inl, inr, Bool, true, false, ◌||◌, ◌&&◌, if◌then◌else◌, List, [], ◌∷◌, ◌++◌, length, nat_lt}
use Rattle.std.proofs.Common.{nat_le, Some, refl, sym, ap, ◌∙◌, arith, append_assoc, length-append}
use Rattle.std.specs.Prelude.{slice_get}
use Rattle.std.specs.List.{list_all}
use Rattle.std.proofs.lemmas.Bool.{ltb-true, le-leb, lt-ltb, eq-eqb, and_from}
use Rattle.lemmas.proofs.Lists.{get_mid}
use Rattle.sx_lang.specs.declared.tree.Decl.{Decl}
use Rattle.sx_lang.specs.declared.tree.Decl.TheVariants.{Device, Input, Output, Var, Array}
use Rattle.sx_lang.specs.declared.tree.BinOp.{BinOp}
use Rattle.sx_lang.specs.declared.tree.BinOp.TheVariants.{Add, Sub, Or, Xor, Mul, And, Eq, Ne, Lt, Le, Gt, Ge}
use Rattle.sx_lang.specs.Tree.{Expression, Constant, Variable, Indexed, Applied, Combined, Statement, Defines, Assigns, Stores, Chooses, Repeats, Sends, Emits, Block, Done, Then, HandlerTree}
use Rattle.sx_lang.specs.Sizes.{declared_cells}
use Rattle.sx_check.specs.Names.{same, defined, statement_lets, block_lets}
use Rattle.sx_mean.specs.declared.events.End.{End}
use Rattle.sx_mean.specs.Places.{place, array_length, output_number}
use Rattle.sx_lang.specs.declared.sides.Side.{Side}
use Rattle.sx_lang.specs.declared.sides.Side.TheVariants.{From, To}
use Rattle.sx_mean.specs.Offsets.{cell_at, end_at}
use Rattle.sx_mean.specs.Working.{scratch_at, stack_to, event_at, local_at}
use Rattle.sx_mean.specs.Ends.{is_sending}
use Rattle.sx_ir.specs.declared.ir.Ir.{Ir}
use Rattle.sx_ir.specs.declared.ir.Ir.TheVariants as ir
use Rattle.sx_ir.specs.declared.ir.IrOp.TheVariants as op
use Rattle.sx_ir.specs.Sound.{is_sound_op}
use Rattle.sx_mean.specs.Scope.{index_of}
use Rattle.sx_mean.specs.Variables.{first_value, IsKnown, FineExpression, FineStatement, FineBlock}
use Rattle.sx_lower.specs.Lowered.{variable_code, assign_code, is_turned, operator_code, combined_code, expression_code, packets_code, statement_code, block_code, handler_code}
use Rattle.sx_lower.specs.Lowering.{IsSender, IsHandlerOp, AreHandlerOps}
use Rattle.sx_lower.proofs.Puts.{lets_defined}

-- an array lies in the cells
on_name : (t : Bool) (own cells p l all : ℕ) → own ≤ cells → p + l ≤ all → (if t then 0 else cells + p) + (if t then own else l) ≤ cells + all
on_name true own cells p l all le h = omega (arith, le)
on_name false own cells p l all le h = omega (arith, h)

own_fits : (t : Bool) (n : ℕ) → (if t then n else 0) ≤ n
own_fits true n = omega arith
own_fits false n = omega arith

pub array_fits : (ds : List Decl) (x : List ℕ) → place ds x + array_length ds x ≤ declared_cells ds
array_fits [] x = omega arith
array_fits (Device k ∷ ds) x = let r = array_fits ds x in omega (arith, r)
array_fits (Input y ∷ ds) x = on_name (same x y) 0 0 (place ds x) (array_length ds x) (declared_cells ds) (omega arith) (array_fits ds x)
array_fits (Output y ∷ ds) x = on_name (same x y) 0 0 (place ds x) (array_length ds x) (declared_cells ds) (omega arith) (array_fits ds x)
array_fits (Var y v ∷ ds) x = on_name (same x y) 0 1 (place ds x) (array_length ds x) (declared_cells ds) (omega arith) (array_fits ds x)
array_fits (Array y n ∷ ds) x = on_name (same x y) (if same x y then n else 0) n (place ds x) (array_length ds x) (declared_cells ds) (own_fits (same x y) n) (array_fits ds x)

-- an even offset of a word in a private section of this size, past the first word, beside what templates use, the stack and
-- the caller's registers
abbrev IsWordOffset : ℕ → ℕ → Type 0
IsWordOffset size o = (o % 2 ≡ 0) × (2 ≤ o) × (o + 2 ≤ size) × ((o + 2 ≤ scratch_at) ⊎ (stack_to ≤ o)) × ((o + 2 ≤ 6) ⊎ (14 ≤ o))

abbrev IsArrayOffset : ℕ → ℕ → ℕ → Type 0
IsArrayOffset size o n = (o % 2 ≡ 0) × (stack_to ≤ o) × (o + 2 * n ≤ size)

-- of this many operations, in a private section of this size, with these ends; none of the entry protocol
abbrev IsSoundOp : ℕ → ℕ → List End → Ir → Type 0
IsSoundOp ops size es (ir.Push v) = Unit {0}
IsSoundOp ops size es (ir.Load o) = IsWordOffset size o
IsSoundOp ops size es (ir.Store o) = IsWordOffset size o
IsSoundOp ops size es (ir.LoadAt o n) = IsArrayOffset size o n
IsSoundOp ops size es (ir.StoreAt o n) = IsArrayOffset size o n
IsSoundOp ops size es (ir.Op f) = Unit {0}
IsSoundOp ops size es (ir.Jump p) = p < ops
IsSoundOp ops size es (ir.JumpZero p) = p < ops
IsSoundOp ops size es (ir.Packet k) = IsSender es k × (end_at k + 24 ≤ size)
IsSoundOp ops size es ir.Drop = Unit {0}
IsSoundOp ops size es ir.Emit = Unit {0}
IsSoundOp ops size es ir.Stop = Unit {0}
IsSoundOp ops size es i = ⊥

abbrev pub AreSound : ℕ → ℕ → List End → List Ir → Type 0
AreSound ops size es [] = Unit {0}
AreSound ops size es (i ∷ is) = IsSoundOp ops size es i × AreSound ops size es is

-- The tests that follow.

one_of : (a b : Bool) → (a ≡ true) ⊎ (b ≡ true) → (a || b) ≡ true
one_of true b h = refl
one_of false b (inl e) = absurd (cc)
one_of false b (inr e) = e

word_free : (size o : ℕ) → IsWordOffset size o → (nat_le (o + 2) size && (nat_le 2 o && (nat_le (o + 2) scratch_at || nat_le stack_to o))) ≡ true
word_free size o w =
    and_from _ _ (le-leb (o + 2) size w.2)
    (and_from _ _ (le-leb 2 o w.1) (one_of _ _ (elim (w.3) [ inl h ↦ inl (le-leb (o + 2) scratch_at h) | inr h ↦ inr (le-leb stack_to o h) ])))

word_kept : (size o : ℕ) → IsWordOffset size o → (nat_le (o + 2) 6 || nat_le 14 o) ≡ true
word_kept size o w = one_of _ _ (elim (w.4) [ inl h ↦ inl (le-leb (o + 2) 6 h) | inr h ↦ inr (le-leb 14 o h) ])

array_free : (size o n : ℕ) → IsArrayOffset size o n → (nat_le (o + 2 * n) size && (nat_le 2 o && (nat_le (o + 2 * n) scratch_at || nat_le stack_to o))) ≡ true
array_free size o n w = and_from _ _ (le-leb (o + 2 * n) size w.2) (and_from _ _ (le-leb 2 o (omega (arith, w.1))) (one_of _ _ (inr (le-leb stack_to o w.1))))

op_sound : (ops parts size : ℕ) (es : List End) (i : Ir) → IsSoundOp ops size es i → is_sound_op ops parts size i ≡ true
op_sound ops parts size es (ir.Push v) s = refl
op_sound ops parts size es (ir.Load o) s = and_from _ _ (eq-eqb (o % 2) 0 s.0) (word_free size o s)
op_sound ops parts size es (ir.Store o) s = and_from _ _ (eq-eqb (o % 2) 0 s.0) (and_from _ _ (word_free size o s) (word_kept size o s))
op_sound ops parts size es (ir.LoadAt o n) s = and_from _ _ (eq-eqb (o % 2) 0 s.0) (array_free size o n s)
op_sound ops parts size es (ir.StoreAt o n) s =
    and_from _ _ (eq-eqb (o % 2) 0 s.0) (and_from _ _ (array_free size o n s) (one_of _ _ (inr (le-leb 14 o (omega (arith, s.1))))))
op_sound ops parts size es (ir.Op f) s = refl
op_sound ops parts size es (ir.Jump p) s = lt-ltb p ops s
op_sound ops parts size es (ir.JumpZero p) s = lt-ltb p ops s
op_sound ops parts size es (ir.JumpEqual o n p) s = absurd s
op_sound ops parts size es (ir.Packet k) s = le-leb (end_at k + 24) size s.1
op_sound ops parts size es ir.Drop s = refl
op_sound ops parts size es ir.Emit s = refl
op_sound ops parts size es ir.Stop s = refl
op_sound ops parts size es (ir.Saved r) s = absurd s
op_sound ops parts size es ir.Inside s = absurd s
op_sound ops parts size es (ir.Meets r n) s = absurd s
op_sound ops parts size es (ir.CopyIn n o) s = absurd s
op_sound ops parts size es (ir.CopyOut n o) s = absurd s
op_sound ops parts size es (ir.Seal k h hn b bn) s = absurd s
op_sound ops parts size es (ir.Open k h hn b bn) s = absurd s
op_sound ops parts size es (ir.SetEnd k) s = absurd s
op_sound ops parts size es ir.Sense s = absurd s
op_sound ops parts size es (ir.Handler h) s = absurd s
op_sound ops parts size es ir.Leave s = absurd s

pub all_sound : (ops parts size : ℕ) (es : List End) (code : List Ir) → AreSound ops size es code → list_all (is_sound_op ops parts size) code ≡ true
all_sound ops parts size es [] s = refl
all_sound ops parts size es (i ∷ code) s = and_from _ _ (op_sound ops parts size es i s.0) (all_sound ops parts size es code s.1)

op_ours : (ops size : ℕ) (es : List End) (i : Ir) → IsSoundOp ops size es i → IsHandlerOp es i
op_ours ops size es (ir.Push v) s = tt
op_ours ops size es (ir.Load o) s = tt
op_ours ops size es (ir.Store o) s = tt
op_ours ops size es (ir.LoadAt o n) s = tt
op_ours ops size es (ir.StoreAt o n) s = tt
op_ours ops size es (ir.Op f) s = tt
op_ours ops size es (ir.Jump p) s = tt
op_ours ops size es (ir.JumpZero p) s = tt
op_ours ops size es (ir.JumpEqual o n p) s = s
op_ours ops size es (ir.Packet k) s = s.0
op_ours ops size es ir.Drop s = tt
op_ours ops size es ir.Emit s = tt
op_ours ops size es ir.Stop s = tt
op_ours ops size es (ir.Saved r) s = s
op_ours ops size es ir.Inside s = s
op_ours ops size es (ir.Meets r n) s = s
op_ours ops size es (ir.CopyIn n o) s = s
op_ours ops size es (ir.CopyOut n o) s = s
op_ours ops size es (ir.Seal k h hn b bn) s = s
op_ours ops size es (ir.Open k h hn b bn) s = s
op_ours ops size es (ir.SetEnd k) s = s
op_ours ops size es ir.Sense s = s
op_ours ops size es (ir.Handler h) s = s
op_ours ops size es ir.Leave s = s

pub all_ours : (ops size : ℕ) (es : List End) (code : List Ir) → AreSound ops size es code → AreHandlerOps es code
all_ours ops size es [] s = tt
all_ours ops size es (i ∷ code) s = (op_ours ops size es i s.0, all_ours ops size es code s.1)

module _ (ops size : ℕ) (ends : List End) where
  pub sound_append : (a b : List Ir) → AreSound ops size ends a → AreSound ops size ends b → AreSound ops size ends (a ++ b)
  sound_append [] b p q = q
  sound_append (i ∷ a) b p q = (p.0, sound_append a b p.1 q)

  either : (t : Bool) (a b : List Ir) → AreSound ops size ends a → AreSound ops size ends b → AreSound ops size ends (if t then a else b)
  either true a b p q = p
  either false a b p q = q

  operator_sound : (o : BinOp) → AreSound ops size ends (operator_code o)
  operator_sound Add = (tt, tt)
  operator_sound Sub = (tt, tt)
  operator_sound Or = (tt, tt)
  operator_sound Xor = (tt, tt)
  operator_sound Mul = (tt, tt)
  operator_sound And = (tt, tt)
  operator_sound Eq = (tt, tt)
  operator_sound Ne = (tt, (tt, tt))
  operator_sound Lt = (tt, tt)
  operator_sound Le = (tt, (tt, tt))
  operator_sound Gt = (tt, tt)
  operator_sound Ge = (tt, (tt, tt))

  combined_sound : (o : BinOp) (a b : List Ir) → AreSound ops size ends a → AreSound ops size ends b → AreSound ops size ends (combined_code o a b)
  combined_sound o a b p q = either (is_turned o) _ _ (sound_append b _ q (sound_append a _ p (operator_sound o))) (sound_append a _ p (sound_append b _ q (operator_sound o)))

module _ (ds : List Decl) (es : List End) (ops size : ℕ) (fits : cell_at (length es) (declared_cells ds) ≤ size) where
  local_place : (i : ℕ) → i < 16 → IsWordOffset size (local_at i)
  local_place i l = (omega arith, omega arith, omega (arith, l, fits), inl (omega (arith, l)), inr (omega arith))

  cell_place : (i : ℕ) → i < declared_cells ds → IsWordOffset size (cell_at (length es) i)
  cell_place i l = (omega arith, omega arith, omega (arith, l, fits), inr (omega arith), inr (omega arith))

  array_place : (x : List ℕ) → IsArrayOffset size (cell_at (length es) (place ds x)) (array_length ds x)
  array_place x = let r = array_fits ds x in (omega arith, omega arith, omega (arith, r, fits))

  abbrev Sound : List Ir → Type 0
  Sound code = AreSound ops size es code

  variable_sound : (names : List (List ℕ)) (x : List ℕ) → length names ≤ 16 → IsKnown ds names x → Sound (variable_code ds (length es) names x)
  variable_sound names x few known = go (nat_lt (index_of names x) (length names)) refl
    where
      go : (b : Bool) → nat_lt (index_of names x) (length names) ≡ b
          → AreSound ops size es (if b then ir.Load (local_at (index_of names x)) ∷ [] else ir.Load (cell_at (length es) (place ds x)) ∷ ir.Push (first_value ds x) ∷ ir.Op op.Add ∷ [])
      go true e = let l = ltb-true (index_of names x) (length names) e in (local_place (index_of names x) (omega (arith, l, few)), tt)
      go false e = (cell_place (place ds x) (known e).there, (tt, (tt, tt)))

  assign_sound : (names : List (List ℕ)) (x : List ℕ) → length names ≤ 16 → IsKnown ds names x → Sound (assign_code ds (length es) names x)
  assign_sound names x few known = go (nat_lt (index_of names x) (length names)) refl
    where
      go : (b : Bool) → nat_lt (index_of names x) (length names) ≡ b
          → AreSound ops size es (if b then ir.Store (local_at (index_of names x)) ∷ [] else ir.Push (first_value ds x) ∷ ir.Op op.Sub ∷ ir.Store (cell_at (length es) (place ds x)) ∷ [])
      go true e = let l = ltb-true (index_of names x) (length names) e in (local_place (index_of names x) (omega (arith, l, few)), tt)
      go false e = (tt, (tt, (cell_place (place ds x) (known e).there, tt)))

  pub expression_sound : (names : List (List ℕ)) (e : Expression) → length names ≤ 16 → FineExpression ds names e → Sound (expression_code ds (length es) names e)
  expression_sound names (Constant v) few fine = (tt, tt)
  expression_sound names (Variable x) few fine = variable_sound names x few fine
  expression_sound names (Indexed x e) few fine = sound_append ops size es (expression_code ds (length es) names e) _ (expression_sound names e few fine) (array_place x, tt)
  expression_sound names (Applied o e) few fine = sound_append ops size es (expression_code ds (length es) names e) _ (expression_sound names e few fine) (tt, tt)
  expression_sound names (Combined o a b) few fine = combined_sound ops size es o _ _ (expression_sound names a few fine.0) (expression_sound names b few fine.1)

  sends : (e : End) (output k : ℕ) → slice_get es k ≡ Some e → is_sending output e.side e.port ≡ true → IsSender es k
  sends e output k at is = (e, at, side e.side is)
    where
      side : (d : Side) → is_sending output d e.port ≡ true → d ≡ From
      side From is = refl
      side To is = absurd (cc)

  packets_sound : (before rest : List End) (k output : ℕ) → before ++ rest ≡ es → length before ≡ k → Sound (packets_code k rest output)
  packets_sound before [] k output all at = tt
  packets_sound before (e ∷ rest) k output all at =
      let next : (before ++ e ∷ []) ++ rest ≡ es = append_assoc before (e ∷ []) rest ∙ all in
      let more = packets_sound (before ++ e ∷ []) rest (k + 1) output next (omega (arith, at, length-append before (e ∷ []))) in
      let here : slice_get es k ≡ Some e = ap (λ l. slice_get l k) (sym all) ∙ ap (slice_get (before ++ e ∷ rest)) (sym at) ∙ get_mid before rest e in
      let slot : end_at k + 24 ≤ size = omega (arith, at, fits, length-append before (e ∷ rest), ap length all) in
      go (is_sending output e.side e.port) refl here slot more
    where
      go : (b : Bool) → is_sending output e.side e.port ≡ b → slice_get es k ≡ Some e → end_at k + 24 ≤ size → Sound (packets_code (k + 1) rest output)
          → Sound (if b then ir.Packet k ∷ packets_code (k + 1) rest output else packets_code (k + 1) rest output)
      go true is here slot more = ((sends e output k here is, slot), more)
      go false is here slot more = more

  -- a statement's jumps go to its own places or to the one after it
  mutual
    pub statement_sound : (E : Type 0) (t : Statement) (p : ℕ) (names : List (List ℕ)) → FineStatement ds E names t → length names + length (statement_lets t) ≤ 16
        → p + length (statement_code ds es p names t) < ops → Sound (statement_code ds es p names t)
    statement_sound E (Defines x e) p names fine lets short =
        sound_append ops size es (expression_code ds (length es) names e) _ (expression_sound names e (omega (arith, lets)) fine) (local_place (length names) (omega (arith, lets)), tt)
    statement_sound E (Assigns x e) p names fine lets short =
        sound_append ops size es (expression_code ds (length es) names e) _ (expression_sound names e (omega (arith, lets)) fine.1) (assign_sound names x (omega (arith, lets)) fine.0)
    statement_sound E (Stores x i e) p names fine lets short =
        sound_append ops size es (expression_code ds (length es) names i) _ (expression_sound names i (omega (arith, lets)) fine.0)
        (sound_append ops size es (expression_code ds (length es) names e) _ (expression_sound names e (omega (arith, lets)) fine.1) (array_place x, tt))
    statement_sound E (Sends x e) p names fine lets short =
        sound_append ops size es (expression_code ds (length es) names e) _ (expression_sound names e (omega (arith, lets)) fine)
        (sound_append ops size es (packets_code 0 es (output_number ds x)) _ (packets_sound [] es 0 (output_number ds x) refl refl) (tt, tt))
    statement_sound E (Emits e) p names fine lets short =
        sound_append ops size es (expression_code ds (length es) names e) _ (expression_sound names e (omega (arith, lets)) fine.0) (tt, tt)
    statement_sound E (Chooses e a b) p names fine lets short =
        let ce = expression_code ds (length es) names e in
        let pa = p + length ce + 1 in
        let ca = block_code ds es pa names a in
        let pb = pa + length ca + 1 in
        let cb = block_code ds es pb names b in
        let many = length-append (block_lets a) (block_lets b) in
        let long = length-append ce (ir.JumpZero pb ∷ (ca ++ (ir.Jump (pb + length cb) ∷ cb))) in
        let long2 = length-append ca (ir.Jump (pb + length cb) ∷ cb) in
        let zero_fits : pb < ops = omega (arith, short, long, long2) in
        let end_fits : pb + length cb < ops = omega (arith, short, long, long2) in
        let sa = block_sound E a pa names fine.1 (omega (arith, lets, many)) (omega (arith, end_fits)) in
        let sb = block_sound E b pb names fine.2 (omega (arith, lets, many)) end_fits in
        sound_append ops size es ce _ (expression_sound names e (omega (arith, lets)) fine.0)
        (zero_fits, sound_append ops size es ca _ sa (end_fits, sb))
    statement_sound E (Repeats n a) p names fine lets short =
        let ca = block_code ds es (p + 5) names a in
        let long = length-append ca (ir.Push 1 ∷ ir.Op op.Sub ∷ ir.Jump (p + 1) ∷ ir.Drop ∷ []) in
        let turns : IsWordOffset size event_at = (refl, omega arith, omega (arith, fits), inl (omega arith), inl (omega arith)) in
        let end_fits : p + 5 + length ca + 3 < ops = omega (arith, short, long) in
        let back_fits : p + 1 < ops = omega (arith, end_fits) in
        let sa = block_sound E a (p + 5) names fine.1 lets (omega (arith, end_fits)) in
        (tt, (turns, (turns, (turns, (end_fits, sound_append ops size es ca _ sa (tt, (tt, (back_fits, (tt, tt)))))))))

    pub block_sound : (E : Type 0) (b : Block) (p : ℕ) (names : List (List ℕ)) → FineBlock ds E names b → length names + length (block_lets b) ≤ 16 → p + length (block_code ds es p names b) < ops
        → Sound (block_code ds es p names b)
    block_sound E Done p names fine lets short = tt
    block_sound E (Then t b) p names fine lets short =
        let first = statement_code ds es p names t in
        let rest = block_code ds es (p + length first) (names ++ defined t) b in
        let some = length-append (statement_lets t) (block_lets b) in
        let own = lets_defined t in
        let long = length-append first rest in
        sound_append ops size es first rest (statement_sound E t p names fine.0 (omega (arith, lets, some)) (omega (arith, short, long)))
        (block_sound E b (p + length first) (names ++ defined t) fine.1 (omega (arith, lets, some, own, length-append names (defined t))) (omega (arith, short, long)))

  pub handler_sound : (E : Type 0) (h : HandlerTree) (p : ℕ) → FineBlock ds E (h.param ∷ []) h.body → 1 + length (block_lets h.body) ≤ 16 → p + length (handler_code ds es p h) ≤ ops
      → Sound (handler_code ds es p h)
  handler_sound E h p fine lets short =
      let body = block_code ds es (p + 2) (h.param ∷ []) h.body in
      let long = length-append body (ir.Stop ∷ []) in
      let event : IsWordOffset size event_at = (refl, omega arith, omega (arith, fits), inl (omega arith), inl (omega arith)) in
      (event, (local_place 0 (omega arith), sound_append ops size es body _ (block_sound E h.body (p + 2) (h.param ∷ []) fine (omega (arith, lets)) (omega (arith, short, long))) (tt, tt)))
