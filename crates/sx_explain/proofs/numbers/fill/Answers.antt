use Rattle.sx_explain.proofs.Filled.{fill_turn}
use Rattle.sx_explain.proofs.numbers.fill.Goals as goal

pub loop-at-preserved : goal.loop-at-preserved
loop-at-preserved c =
    fill_turn c.args.number c.args.count c.loop-at._at c.loop-at.numbers.items c.args.numbers.now.items c.push.new.self.items c.loop-at.invariant c.loop-at-test.true c.in_ok-push.ensures.items
