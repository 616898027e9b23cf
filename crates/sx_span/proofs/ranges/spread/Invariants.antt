use Rattle.std.proofs.Common.{◌≡◌, ◌+◌, ◌-◌}
use Rattle.sx_span.specs.Ranges.{spread}
use Rattle.sx_span.proofs.ranges.spread.Given as goal

abbrev pub invariant-loop-k : goal.invariant-loop-k
invariant-loop-k l = l.all ≡ spread l.cells (l.from + (l.more - l.k)) l.k
