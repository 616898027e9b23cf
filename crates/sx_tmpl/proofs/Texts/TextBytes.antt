-- The bytes of words, and how many a text has.
use Rattle.std.proofs.Common.{◌≡◌, ℕ, zero, suc, ◌+◌, ◌*◌, ◌%◌, ◌/◌, ◌==◌, Bool, true, false, List, [], ◌∷◌, ◌++◌, length, length-append, refl, ap, arith}
use Rattle.std.specs.Prelude.{if◌then◌else◌}
use Rattle.sx_isa.specs.Standing as standing
use Rattle.sx_rules.specs.declared.section.Layout.{Layout}
use Rattle.sx_ir.specs.declared.ir.Code.{Code}
use Rattle.sx_ir.specs.declared.ir.IrOp.{IrOp}
use Rattle.sx_ir.specs.declared.ir.IrOp.TheVariants as op
use Rattle.sx_ir.specs.declared.ir.Ir.{Ir}
use Rattle.sx_ir.specs.declared.ir.Ir.TheVariants as ir
use Rattle.sx_ir.specs.Sizes.{bytes, has_routine, operator_bytes, op_bytes, ops_bytes, routines}
use Rattle.sx_tmpl.specs.Template.{Addresses, template, entry_words, leave_words, slot_words, routine_words, turns}
use Rattle.sx_tmpl.specs.Text.{addresses, bytes_of, packet_words, text_words, words_of}

pub bytes_append : (xs ys : List ℕ) → bytes_of (xs ++ ys) ≡ bytes_of xs ++ bytes_of ys
bytes_append [] ys = refl
bytes_append (x ∷ xs) ys = ap (λ (l : List ℕ). x % 256 ∷ x / 256 ∷ l) (bytes_append xs ys)

pub length-bytes : (ws : List ℕ) → length (bytes_of ws) ≡ 2 * length ws
length-bytes [] = refl
length-bytes (w ∷ ws) = let e = length-bytes ws in omega (arith, e)

operator_size : (l : Layout) (a : Addresses) (p : ℕ) (f : IrOp) → 2 * length (template l a p (ir.Op f)) ≡ operator_bytes f
operator_size l a p op.Add = refl
operator_size l a p op.Sub = refl
operator_size l a p op.Mul = refl
operator_size l a p op.And = refl
operator_size l a p op.Or = refl
operator_size l a p op.Xor = refl
operator_size l a p op.Eq = refl
operator_size l a p op.Lt = refl
operator_size l a p op.Neg = refl
operator_size l a p op.Inv = refl
operator_size l a p op.Not = refl

-- the words of a copy's turns
turns_length : (b : Bool) → length (standing.words_of (turns (if b then 8 else 1))) ≡ 3 + 2 * (if b then 8 else 1)
turns_length true = refl
turns_length false = refl

-- each template has the bytes of its operation
pub op_size : (l : Layout) (a : Addresses) (p : ℕ) (i : Ir) → 2 * length (template l a p i) ≡ op_bytes i
op_size l a p (ir.Push n) = refl
op_size l a p (ir.Load o) = refl
op_size l a p (ir.Store o) = refl
op_size l a p (ir.LoadAt o n) = refl
op_size l a p (ir.StoreAt o n) = refl
op_size l a p (ir.Op f) = operator_size l a p f
op_size l a p (ir.Jump q) = refl
op_size l a p (ir.JumpZero q) = refl
op_size l a p (ir.JumpEqual o n q) = refl
op_size l a p (ir.Packet k) = refl
op_size l a p ir.Drop = refl
op_size l a p ir.Emit = refl
op_size l a p ir.Stop = refl
op_size l a p (ir.Saved r) = refl
op_size l a p ir.Inside = refl
op_size l a p (ir.Meets r n) = refl
op_size l a p (ir.CopyIn n o) = let e = turns_length (n % 8 == 0) in omega (arith, e)
op_size l a p (ir.CopyOut n o) = let e = turns_length (n % 8 == 0) in omega (arith, e)
op_size l a p (ir.Seal k h hn b bn) = refl
op_size l a p (ir.Open k h hn b bn) = refl
op_size l a p (ir.SetEnd k) = refl
op_size l a p ir.Sense = refl
op_size l a p (ir.Handler h) = refl
op_size l a p ir.Leave = refl

-- the words of code are half its bytes
pub code_size : (l : Layout) (a : Addresses) (p : ℕ) (code : List Ir) → 2 * length (words_of l a p code) ≡ ops_bytes code
code_size l a p [] = refl
code_size l a p (i ∷ code) =
    let x = op_size l a p i in
    let y = code_size l a (p + 1) code in
    let z = length-append (template l a p i) (words_of l a (p + 1) code) in
    omega (arith, x, y, z)

-- Each packet routine has 140 bytes.

packets_step : (base n x : ℕ) (b : Bool) (ws : List ℕ) → 2 * length ws ≡ 140 * x → 2 * length (ws ++ (if b then routine_words base n else [])) ≡ 140 * (x + (if b then 1 else 0))
packets_step base n x true ws e = let y = length-append ws (routine_words base n) in omega (arith, e, y)
packets_step base n x false ws e = let y = length-append ws [] in omega (arith, e, y)

pub packets_size : (base : ℕ) (ops : List Ir) (n : ℕ) → 2 * length (packet_words base ops n) ≡ 140 * routines ops n
unfolding packet_words routines
packets_size base ops zero = refl
packets_size base ops (suc n) = packets_step base n (routines ops n) (has_routine ops n) (packet_words base ops n) (packets_size base ops n)

pub words_size : (l : Layout) (code : Code) → 2 * length (text_words l code) ≡ bytes code.ops.items
unfolding text_words
words_size l code =
    let ops = code.ops.items in
    let ws = words_of l (addresses l code) 0 ops in
    let b = l.priv_from in
    let ps = packet_words b ops 256 in
    let r = packets_size b ops 256 in
    let c = code_size l (addresses l code) 0 ops in
    let x0 = length-append ps (0 ∷ []) in
    let x1 = length-append (slot_words b) (ps ++ 0 ∷ []) in
    let x2 = length-append (leave_words b) (slot_words b ++ (ps ++ 0 ∷ [])) in
    let x3 = length-append ws (leave_words b ++ (slot_words b ++ (ps ++ 0 ∷ []))) in
    let x4 = length-append (entry_words b) (ws ++ (leave_words b ++ (slot_words b ++ (ps ++ 0 ∷ [])))) in
    omega (arith, r, c, x0, x1, x2, x3, x4)

-- the text has exactly this many bytes
pub text_size : (l : Layout) (code : Code) → length (bytes_of (text_words l code)) ≡ bytes code.ops.items
text_size l code = let x = length-bytes (text_words l code) in let y = words_size l code in omega (arith, x, y)
