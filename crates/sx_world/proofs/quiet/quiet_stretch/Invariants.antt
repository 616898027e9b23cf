use Rattle.std.proofs.Common.{false}
use Rattle.sx_node.specs.Telling.{IsIdle}
use Rattle.sx_world.proofs.passing.Counted.{Counted}
use Rattle.sx_world.proofs.quiet.quiet_stretch.Given as goal

abbrev pub invariant-steps : goal.invariant-steps
invariant-steps g l = record {
  counted : Counted g.T.Tag.mac false l.fn.count l.left l.fn.node l.node;
  idle : IsIdle l.node;
}

abbrev pub decreases-steps : goal.decreases-steps
decreases-steps g l = l.left
