-- The bytes of a module's text. Nobody has to believe this file for what an image realizes. A text
-- begins with the entry; after it are the operations' templates in order, the exit, the routine
-- that opens a slot, a routine for each end that some operation makes a packet of, and a word of
-- zeros.
use Rattle.std.specs.Prelude.{ℕ, zero, suc, ◌+◌, ◌*◌, ◌%◌, ◌==◌, Bool, false, if◌then◌else◌, List}
use Rattle.std.specs.Prelude.{[], ◌∷◌, take}
use Rattle.std.specs.List.{list_any}
use Rattle.sx_ir.specs.declared.ir.IrOp.{IrOp}
use Rattle.sx_ir.specs.declared.ir.IrOp.TheVariants as op
use Rattle.sx_ir.specs.declared.ir.Ir.{Ir}
use Rattle.sx_ir.specs.declared.ir.Ir.TheVariants as ir

-- the bytes of the template of an operation on words
abbrev pub operator_bytes : IrOp → ℕ
operator_bytes op.Add = 4
operator_bytes op.Sub = 4
operator_bytes op.Mul = 24
operator_bytes op.And = 4
operator_bytes op.Or = 4
operator_bytes op.Xor = 4
operator_bytes op.Eq = 14
operator_bytes op.Lt = 14
operator_bytes op.Neg = 8
operator_bytes op.Inv = 8
operator_bytes op.Not = 14

-- the bytes that one turn of a copy moves, for a copy of so many
abbrev pub turn_size : ℕ → ℕ
turn_size n = if n % 8 == 0 then 8 else 1

-- the bytes of an operation's template
abbrev pub op_bytes : Ir → ℕ
op_bytes (ir.Push n) = 4
op_bytes (ir.Load o) = 4
op_bytes (ir.Store o) = 4
op_bytes (ir.LoadAt o n) = 18
op_bytes (ir.StoreAt o n) = 16
op_bytes (ir.Op f) = operator_bytes f
op_bytes (ir.Jump p) = 4
op_bytes (ir.JumpZero p) = 10
op_bytes (ir.JumpEqual o n p) = 12
op_bytes (ir.Packet k) = 4
op_bytes ir.Drop = 2
op_bytes ir.Emit = 4
op_bytes ir.Stop = 4
op_bytes (ir.Saved r) = 4
op_bytes ir.Inside = 18
op_bytes (ir.Meets r n) = 28
op_bytes (ir.CopyIn n o) = 18 + 4 * turn_size n
op_bytes (ir.CopyOut n o) = 20 + 4 * turn_size n
op_bytes (ir.Seal k h hn b bn) = 32
op_bytes (ir.Open k h hn b bn) = 32
op_bytes (ir.SetEnd k) = 8
op_bytes ir.Sense = 4
op_bytes (ir.Handler h) = 14
op_bytes ir.Leave = 4

-- the bytes of all operations' templates
abbrev pub ops_bytes : List Ir → ℕ
ops_bytes [] = 0
ops_bytes (i ∷ ops) = op_bytes i + ops_bytes ops

-- the entry: SP and the caller's registers are kept, and the stack begins
abbrev pub entry_bytes : ℕ
entry_bytes = 24

-- the exit: the results, all other registers 0, and the return
abbrev pub exit_bytes : ℕ
exit_bytes = 34

-- the routine that opens a slot
abbrev pub slot_bytes : ℕ
slot_bytes = 64

-- the routine that makes the packets of one end
abbrev pub packet_bytes : ℕ
packet_bytes = 140

-- the word of zeros at the text's end
abbrev pub last_bytes : ℕ
last_bytes = 2

-- the operation makes a packet of the k-th end
abbrev pub is_packet : ℕ → Ir → Bool
is_packet k (ir.Packet j) = j == k
is_packet k i = false

-- a packet routine stands for the k-th end
abbrev pub has_routine : List Ir → ℕ → Bool
has_routine ops k = list_any (is_packet k) ops

-- the packet routines of the first n ends
unfoldable pub routines : List Ir → ℕ → ℕ
routines ops zero = 0
routines ops (suc n) = routines ops n + (if has_routine ops n then 1 else 0)

-- an operation names an end by a byte
abbrev pub all_routines : List Ir → ℕ
all_routines ops = routines ops 256

-- the bytes of the text
abbrev pub bytes : List Ir → ℕ
bytes ops = entry_bytes + ops_bytes ops + exit_bytes + slot_bytes + packet_bytes * all_routines ops
    + last_bytes

-- the offset in the text at which the template of the operation at a place begins
abbrev pub offset : List Ir → ℕ → ℕ
offset ops place = entry_bytes + ops_bytes (take place ops)
