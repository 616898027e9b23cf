use Rattle.std.proofs.Common.{◌≡◌, drop}
use Rattle.sx_span.specs.Ranges.{look_up_range}
use Rattle.sx_span.proofs.ranges.look_up_range.Given as goal

abbrev pub invariant-loop-l : goal.invariant-loop-l
invariant-loop-l l = look_up_range (drop l.l-index l.locals) l.x ≡ look_up_range l.locals l.x
