use Rattle.std.proofs.Common.{◌≡◌, ◌+◌, ◌≤◌, drop}
use Rattle.sx_span.specs.Paths.{range_place}
use Rattle.sx_span.proofs.paths.range_place.Given as goal

abbrev pub invariant-loop-l : goal.invariant-loop-l
invariant-loop-l l = (l.before ≤ l.l-index) × (l.before + range_place (drop l.l-index l.locals) l.x ≡ range_place l.locals l.x)
