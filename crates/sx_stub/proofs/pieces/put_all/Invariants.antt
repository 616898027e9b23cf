use Rattle.std.proofs.Common.{◌≡◌, ◌++◌, drop}
use Rattle.sx_stub.proofs.pieces.put_all.Given as goal

abbrev pub invariant-loop-op : goal.invariant-loop-op
invariant-loop-op l = l.code.items ++ drop l.op-index l.ops ≡ l.fn.code.items ++ l.fn.ops
