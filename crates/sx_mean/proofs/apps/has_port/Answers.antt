use Rattle.sx_mean.specs.Validity.{is_port}
use Rattle.sx_mean.proofs.Turns.{port_here}
use Rattle.sx_mean.proofs.apps.has_port.Goals as goal

pub returns-then-left-eq0 : goal.returns-then-left-eq0
returns-then-left-eq0 c = port_here (is_port c.args.output) c.args.parts.now c.loop-q.q-index c.loop-q.left c.args.port c.q-item.result _ _ c.loop-q-test.true
    c.q-item.is c.if-left-eq0.true c.is_port_of.ensures c.loop-q.invariant
