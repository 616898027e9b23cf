use Rattle.std.proofs.Common.{refl}
use Rattle.sx_explain.proofs.Filled.{links_more}
use Rattle.sx_explain.proofs.numbers.fill_all.Goals as goal

pub loop-c-preserved : goal.loop-c-preserved
loop-c-preserved c =
    links_more _ _ _ _ _ _ _ _ _ _ _ _ c.loop-c.invariant c.loop-c-test.true refl c.fill_end.ensures.fills c.in_ok-fill_end.ensures.all c.count_ends-end.ensures.count
