use Rattle.std.proofs.Common.{true}
use Rattle.sx_node.specs.Telling.{IsDeepAtHome}
use Rattle.sx_world.proofs.passing.Counted.{Counted}
use Rattle.sx_world.proofs.quiet.module_stretch.Given as goal

abbrev pub invariant-steps : goal.invariant-steps
invariant-steps g l = record {
  counted : Counted g.T.Tag.mac true l.fn.count l.left l.fn.node l.node;
  home : IsDeepAtHome l.node;
}

abbrev pub decreases-steps : goal.decreases-steps
decreases-steps g l = l.left
