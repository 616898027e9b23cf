use Rattle.std.proofs.Common.{◌≡◌}
use Rattle.sx_span.specs.Paths.{widened}
use Rattle.sx_span.proofs.paths.widen_all.Given as goal

abbrev pub invariant-loop-k : goal.invariant-loop-k
invariant-loop-k l = l.cells ≡ widened l.fn.cells l.at l.k l.range
