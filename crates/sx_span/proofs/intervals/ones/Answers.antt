use Rattle.std.proofs.Common.{arith}
use Rattle.sx_span.proofs.Arithmetic.{ones_on}
use Rattle.sx_span.proofs.intervals.ones.Goals as goal

pub loop-k-preserved : goal.loop-k-preserved
loop-k-preserved c = ones_on c.loop-k._k c.loop-k.mask c.args.n _ (omega arith) (omega arith) c.loop-k.invariant
