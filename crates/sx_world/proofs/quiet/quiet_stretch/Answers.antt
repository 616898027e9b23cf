use Rattle.std.proofs.Common.{false, refl, arith}
use Rattle.sx_world.proofs.passing.Counted.{counted_boot, counted_told}
use Rattle.sx_world.proofs.quiet.quiet_stretch.Goals as goal

pub step_idle-requires-clause-boot : goal.step_idle-requires-clause-boot
step_idle-requires-clause-boot g c = counted_boot g.T.Tag.mac false c.args.count c.steps.left c.args.node.now c.steps.node c.steps.invariant.counted c.requires.boot

pub steps-preserved : goal.steps-preserved
steps-preserved g c =
    let idle = c.step_idle.ensures.idle c.if-step_idle.false in
    record {
      counted = counted_told g.T.Tag.mac false c.args.count c.steps.left c.args.node.now c.steps.node c.step_idle.new.self c.step_idle.new.seen c.step_idle.result
          c.steps.invariant.counted (omega (arith, c.steps-test.true)) c.step_idle.ensures.state c.step_idle.ensures.shown c.if-step_idle.false refl;
      idle = idle;
    }
