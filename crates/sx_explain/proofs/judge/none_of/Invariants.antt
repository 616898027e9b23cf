use Rattle.std.proofs.Common.{◌≡◌, replicate, None}
use Rattle.sx_explain.proofs.judge.none_of.Given as goal

abbrev pub invariant-loop-at : goal.invariant-loop-at
invariant-loop-at l = l.latest.items ≡ replicate l._at None
