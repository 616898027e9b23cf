use Rattle.std.proofs.Common.{◌≡◌, ◌-◌}
use Rattle.sx_span.specs.Intervals.{ones}
use Rattle.sx_span.proofs.intervals.ones.Given as goal

abbrev pub invariant-loop-k : goal.invariant-loop-k
invariant-loop-k l = ones (16 - l._k) l.mask l.n ≡ ones 16 65535 l.n
