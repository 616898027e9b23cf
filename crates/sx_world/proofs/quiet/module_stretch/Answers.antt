use Rattle.std.proofs.Common.{true, arith}
use Rattle.sx_world.proofs.passing.Counted.{counted_boot, counted_told, not_none}
use Rattle.sx_world.proofs.quiet.module_stretch.Goals as goal

pub step_at_home-requires-clause-boot : goal.step_at_home-requires-clause-boot
step_at_home-requires-clause-boot g c = counted_boot g.T.Tag.mac true c.args.count c.steps.left c.args.node.now c.steps.node c.steps.invariant.counted c.requires.boot

pub steps-preserved : goal.steps-preserved
steps-preserved g c =
    let home = c.step_at_home.ensures.home c.if-step_at_home.false in
    record {
      counted = counted_told g.T.Tag.mac true c.args.count c.steps.left c.args.node.now c.steps.node c.step_at_home.new.self c.step_at_home.new.seen c.step_at_home.result
          c.steps.invariant.counted (omega (arith, c.steps-test.true)) c.step_at_home.ensures.state c.step_at_home.ensures.shown c.if-step_at_home.false (not_none c.step_at_home.new.self home.home.runs);
      home = home;
    }
