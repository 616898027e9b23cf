use Rattle.std.proofs.Common.{◌≡◌, ◌+◌, ◌*◌, ◌≤◌, drop}
use Rattle.sx_ir.specs.Sizes.{ops_bytes}
use Rattle.sx_ir.proofs.sizes.ops_bytes.Given as goal

abbrev pub invariant-loop-op : goal.invariant-loop-op
invariant-loop-op l = (l.total + ops_bytes (drop l.op-index l.ops) ≡ ops_bytes l.ops) × (l.total ≤ 52 * l.op-index)
