use Rattle.std.proofs.Common.{◌≡◌, [], replicate}
use Rattle.sx_explain.proofs.judge.no_causes.Given as goal

abbrev pub invariant-loop-field : goal.invariant-loop-field
invariant-loop-field l = l.causes.items ≡ replicate l._field []
