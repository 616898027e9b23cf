-- The templates' counts: each operation's template takes at most this many instructions.
use Rattle.std.specs.Prelude.{ℕ, ◌+◌, ◌*◌}
use Rattle.sx_ir.specs.declared.ir.IrOp.{IrOp}
use Rattle.sx_ir.specs.declared.ir.IrOp.TheVariants as op
use Rattle.sx_ir.specs.declared.ir.Ir.{Ir}
use Rattle.sx_ir.specs.declared.ir.Ir.TheVariants as ir

-- of an operation on words
abbrev pub operator_count : IrOp → ℕ
operator_count op.Add = 8
operator_count op.Sub = 8
operator_count op.Mul = 160
operator_count op.And = 8
operator_count op.Or = 8
operator_count op.Xor = 8
operator_count op.Eq = 8
operator_count op.Lt = 8
operator_count op.Neg = 8
operator_count op.Inv = 8
operator_count op.Not = 8

-- of an operation
abbrev pub count_of : Ir → ℕ
count_of (ir.Push n) = 8
count_of (ir.Load o) = 8
count_of (ir.Store o) = 8
count_of (ir.LoadAt o n) = 8
count_of (ir.StoreAt o n) = 8
count_of (ir.Op f) = operator_count f
count_of (ir.Jump p) = 8
count_of (ir.JumpZero p) = 8
count_of (ir.JumpEqual o n p) = 8
count_of (ir.Packet k) = 200
count_of ir.Drop = 8
count_of ir.Emit = 8
count_of ir.Stop = 8
count_of (ir.Saved r) = 8
count_of ir.Inside = 16
count_of (ir.Meets r n) = 24
count_of (ir.CopyIn n o) = 16 + 8 * n
count_of (ir.CopyOut n o) = 16 + 8 * n
count_of (ir.Seal k h hn b bn) = 16
count_of (ir.Open k h hn b bn) = 24
count_of (ir.SetEnd k) = 32
count_of ir.Sense = 8
count_of (ir.Handler h) = 8
count_of ir.Leave = 32
