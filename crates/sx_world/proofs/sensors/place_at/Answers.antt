use Rattle.std.proofs.Common.{arith}
use Rattle.sx_world.proofs.doing.Placing.{counted_all}
use Rattle.sx_world.proofs.sensors.place_at.Goals as goal

pub returns : goal.returns
returns c =
    counted_all c.args.devices.now c.args.n c.args.d c.loop-i.i c.loop-i.place c.requires.device c.requires.within
    (omega (arith, c.loop-i-test.false, c.loop-i.auto.i-end)) c.loop-i.invariant.place
