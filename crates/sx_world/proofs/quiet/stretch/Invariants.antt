use Rattle.sx_world.proofs.passing.Counted.{Counted}
use Rattle.sx_world.proofs.quiet.stretch.Given as goal

abbrev pub invariant-parts : goal.invariant-parts
invariant-parts g l = record { counted : Counted g.T.Tag.mac l.idle l.fn.count l.left l.fn.node l.node }

abbrev pub decreases-parts : goal.decreases-parts
decreases-parts g l = l.left
