use Rattle.std.proofs.Common.{arith}
use Rattle.sx_ir.specs.Joined.{moved}
use Rattle.sx_ir.proofs.Changed.{changed}
use Rattle.sx_ir.proofs.joining.move_places.Goals as goal

pub loop-op-preserved : goal.loop-op-preserved
loop-op-preserved c = changed (moved c.args.by) c.loop-op.ops c.args.ops.now c.loop-op.op-index _ _ (omega arith) c.move_place.ensures c.loop-op.invariant
