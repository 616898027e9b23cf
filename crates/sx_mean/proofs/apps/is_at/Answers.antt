use Rattle.sx_mean.proofs.Turns.{at_further}
use Rattle.sx_mean.proofs.apps.is_at.Goals as goal

pub loop-d-preserved : goal.loop-d-preserved
loop-d-preserved c = at_further c.args.devices.now c.loop-d.d-index c.loop-d.left c.args.node c.args.kind _ c.loop-d-test.true c.if-left-eq0.false c.loop-d.invariant
