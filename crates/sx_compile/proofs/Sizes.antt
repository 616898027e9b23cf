-- The bytes of a module's whole code.
use Rattle.std.proofs.Common.{◌≡◌, ℕ, zero, suc, ◌+◌, ◌*◌, ◌≤◌, inl, inr, Bool, true, false, List, [], ◌∷◌, length, Option, Some, None, refl, sym, ap, ◌∙◌, subst, arith}
use Rattle.std.specs.Prelude.{if◌then◌else◌}
use Rattle.std.specs.List.{list_all}
use Rattle.std.proofs.lemmas.Bool.{and_parts, false≢true, eqb-true, or_cases}
use Rattle.std.proofs.lemmas.List.Folds.{list_any-append}
use Rattle.sx_lang.specs.Sizes.{module_weight}
use Rattle.sx_lang.specs.Tree.{ModuleTree}
use Rattle.sx_lang.specs.declared.sides.Side.{Side}
use Rattle.sx_mean.specs.declared.events.End.{End}
use Rattle.sx_ir.specs.declared.ir.Ir.{Ir}
use Rattle.sx_ir.specs.declared.ir.Ir.TheVariants as ir
use Rattle.sx_ir.specs.declared.ir.IrOp.{IrOp}
use Rattle.sx_ir.specs.declared.ir.IrOp.TheVariants as op
use Rattle.sx_ir.specs.Sizes.{bytes, has_routine, is_packet, op_bytes, operator_bytes, ops_bytes, routines}
use Rattle.sx_ir.proofs.Appended.{ops_bytes-append}
use Rattle.sx_lower.specs.Lowered.{handlers_code}
use Rattle.sx_lower.specs.Lowering.{AreHandlerOps, IsHandlerOp, IsLowerable, IsSender}
use Rattle.sx_lower.proofs.Reacts.{lowered_fits}
use Rattle.sx_stub.specs.Sound.{is_plain}
use Rattle.sx_stub.specs.Stub.{is_receiving, is_to, stub_ops}
use Rattle.sx_stub.proofs.StubFits.{stub_fits}
use Rattle.sx_stub.specs.Weight.{routine_bytes}
use Rattle.sx_compile.specs.Compiled.{compiled_ops}

-- the sending ends among the first k
abbrev sending_before : List End → ℕ → ℕ
sending_before [] k = 0
sending_before (e ∷ es) zero = 0
sending_before (e ∷ es) (suc k) = (if is_receiving e then 0 else 1) + sending_before es k

pub before_bytes : (ends : List End) (k : ℕ) → 140 * sending_before ends k ≤ routine_bytes ends
before_bytes [] k = omega arith
before_bytes (e ∷ es) zero = omega arith
before_bytes (e ∷ es) (suc k) = go (is_receiving e) (before_bytes es k)
  where
    go : (b : Bool) → 140 * sending_before es k ≤ routine_bytes es → 140 * ((if b then 0 else 1) + sending_before es k) ≤ (if b then 0 else 140) + routine_bytes es
    go true le = omega (arith, le)
    go false le = omega (arith, le)

before_more : (ends : List End) (k : ℕ) → sending_before ends k ≤ sending_before ends (suc k)
before_more [] k = omega arith
before_more (e ∷ es) zero = omega arith
before_more (e ∷ es) (suc k) = let le = before_more es k in omega (arith, le)

-- a sending end is one more
before_sender : (ends : List End) (k : ℕ) → IsSender ends k → sending_before ends k + 1 ≤ sending_before ends (suc k)
before_sender [] k s = absurd (none_some s.1)
  where
    none_some : ◌≡◌ {A = Option End} None (Some s.0) → ⊥
    none_some e = cc
before_sender (e ∷ es) zero s = let b = sends (some_same s.1) in omega (arith, b)
  where
    some_same : ◌≡◌ {A = Option End} (Some e) (Some s.0) → e ≡ s.0
    some_same e = cc

    sends : e ≡ s.0 → ◌≡◌ {A = ℕ} (if is_receiving e then 0 else 1) 1
    sends same = ap {B = ℕ} (λ (side : Side). if is_to side then 0 else 1) (ap (λ (e : End). e.side) same ∙ s.2)
before_sender (e ∷ es) (suc k) s = let le = before_sender es k s in omega (arith, le)

-- an operation that makes a packet is named by it
packet_named : (k : ℕ) (i : Ir) → is_packet k i ≡ true → i ≡ ir.Packet k
packet_named k (ir.Packet j) e = ap (λ (n : ℕ). ir.Packet n) (eqb-true j k e)
packet_named k (ir.Push x) e = absurd (false≢true e)
packet_named k (ir.Load o) e = absurd (false≢true e)
packet_named k (ir.Store o) e = absurd (false≢true e)
packet_named k (ir.LoadAt o x) e = absurd (false≢true e)
packet_named k (ir.StoreAt o x) e = absurd (false≢true e)
packet_named k (ir.Op f) e = absurd (false≢true e)
packet_named k (ir.Jump q) e = absurd (false≢true e)
packet_named k (ir.JumpZero q) e = absurd (false≢true e)
packet_named k (ir.JumpEqual o x q) e = absurd (false≢true e)
packet_named k ir.Drop e = absurd (false≢true e)
packet_named k ir.Emit e = absurd (false≢true e)
packet_named k ir.Stop e = absurd (false≢true e)
packet_named k (ir.Saved r) e = absurd (false≢true e)
packet_named k ir.Inside e = absurd (false≢true e)
packet_named k (ir.Meets r x) e = absurd (false≢true e)
packet_named k (ir.CopyIn x o) e = absurd (false≢true e)
packet_named k (ir.CopyOut x o) e = absurd (false≢true e)
packet_named k (ir.Seal x y z u v) e = absurd (false≢true e)
packet_named k (ir.Open x y z u v) e = absurd (false≢true e)
packet_named k (ir.SetEnd x) e = absurd (false≢true e)
packet_named k ir.Sense e = absurd (false≢true e)
packet_named k (ir.Handler x) e = absurd (false≢true e)
packet_named k ir.Leave e = absurd (false≢true e)

-- plain operations make none
none_plain : (ops : List Ir) (k : ℕ) → list_all is_plain ops ≡ true → has_routine ops k ≡ true → ⊥
none_plain [] k h e = false≢true e
none_plain (i ∷ ops) k h e =
    let p = and_parts (is_plain i) (list_all is_plain ops) h in
    elim (or_cases (is_packet k i) (has_routine ops k) e) [ inl x ↦ false≢true (ap is_plain (sym (packet_named k i x)) ∙ p.0) | inr x ↦ none_plain ops k p.1 x ]

-- handlers' operations make packets of sending ends
pub of_senders : (ends : List End) (ops : List Ir) (k : ℕ) → AreHandlerOps ends ops → has_routine ops k ≡ true → IsSender ends k
of_senders ends [] k h e = absurd (false≢true e)
of_senders ends (i ∷ ops) k h e =
    elim (or_cases (is_packet k i) (has_routine ops k) e) [ inl x ↦ subst (IsHandlerOp ends) (packet_named k i x) h.0 | inr x ↦ of_senders ends ops k h.1 x ]

pub few_routines : (ends : List End) (ops : List Ir) → ((k : ℕ) → has_routine ops k ≡ true → IsSender ends k) → (n : ℕ) → routines ops n ≤ sending_before ends n
unfolding routines
few_routines ends ops senders zero = omega arith
few_routines ends ops senders (suc n) = go (has_routine ops n) refl (few_routines ends ops senders n)
  where
    go : (b : Bool) → has_routine ops n ≡ b → routines ops n ≤ sending_before ends n → routines ops n + (if b then 1 else 0) ≤ sending_before ends (suc n)
    go true e le = let more = before_sender ends n (senders n e) in omega (arith, le, more)
    go false e le = let more = before_more ends n in omega (arith, le, more)

-- an operation takes at least two bytes
operator_two : (f : IrOp) → 2 ≤ operator_bytes f
operator_two op.Add = omega arith
operator_two op.Sub = omega arith
operator_two op.Mul = omega arith
operator_two op.And = omega arith
operator_two op.Or = omega arith
operator_two op.Xor = omega arith
operator_two op.Eq = omega arith
operator_two op.Lt = omega arith
operator_two op.Neg = omega arith
operator_two op.Inv = omega arith
operator_two op.Not = omega arith

op_two : (i : Ir) → 2 ≤ op_bytes i
op_two (ir.Push x) = omega arith
op_two (ir.Load o) = omega arith
op_two (ir.Store o) = omega arith
op_two (ir.LoadAt o x) = omega arith
op_two (ir.StoreAt o x) = omega arith
op_two (ir.Op f) = operator_two f
op_two (ir.Jump q) = omega arith
op_two (ir.JumpZero q) = omega arith
op_two (ir.JumpEqual o x q) = omega arith
op_two (ir.Packet k) = omega arith
op_two ir.Drop = omega arith
op_two ir.Emit = omega arith
op_two ir.Stop = omega arith
op_two (ir.Saved r) = omega arith
op_two ir.Inside = omega arith
op_two (ir.Meets r x) = omega arith
op_two (ir.CopyIn x o) = omega arith
op_two (ir.CopyOut x o) = omega arith
op_two (ir.Seal x y z u v) = omega arith
op_two (ir.Open x y z u v) = omega arith
op_two (ir.SetEnd x) = omega arith
op_two ir.Sense = omega arith
op_two (ir.Handler x) = omega arith
op_two ir.Leave = omega arith

pub ops_two : (ops : List Ir) → 2 * length ops ≤ ops_bytes ops
ops_two [] = omega arith
ops_two (i ∷ ops) = let a = op_two i in let b = ops_two ops in omega (arith, a, b)

-- a packet of the module's code is of a sending end
pub packets_of_senders : (tree : ModuleTree) (ends : List End) → list_all is_plain (stub_ops tree ends) ≡ true → IsLowerable tree ends → (k : ℕ) → has_routine (compiled_ops tree ends) k ≡ true
    → IsSender ends k
unfolding compiled_ops
packets_of_senders tree ends plain able k e =
    let stub = stub_ops tree ends in
    let bodies = handlers_code tree.decls ends (length stub) tree.handlers in
    let fits = lowered_fits tree ends (length stub) (length stub + length bodies) 0 able (omega arith) in
    elim (or_cases (has_routine stub k) (has_routine bodies k) (sym (list_any-append (is_packet k) stub bodies)
    ∙ e)) [ inl x ↦ absurd (none_plain stub k plain x) | inr x ↦ of_senders ends bodies k fits.plain x ]

-- the code's text has no more bytes than the module's weight
pub within_weight : (tree : ModuleTree) (ends : List End) → list_all is_plain (stub_ops tree ends) ≡ true → IsLowerable tree ends → bytes (compiled_ops tree ends) ≤ module_weight tree (length ends)
unfolding compiled_ops
within_weight tree ends plain able =
    let stub = stub_ops tree ends in
    let bodies = handlers_code tree.decls ends (length stub) tree.handlers in
    let fits = lowered_fits tree ends (length stub) (length stub + length bodies) 0 able (omega arith) in
    let light = fits.light in
    let first = stub_fits tree ends able.few_ends in
    let both = ops_bytes-append stub bodies in
    let few = few_routines ends (compiled_ops tree ends) (packets_of_senders tree ends plain able) 256 in
    let least = before_bytes ends 256 in
    omega (arith, light, first, both, few, least)
