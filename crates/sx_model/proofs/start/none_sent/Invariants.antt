use Rattle.std.proofs.Common.{◌≡◌, [], replicate}
use Rattle.sx_model.proofs.start.none_sent.Given as goal

abbrev pub invariant-loop-field : goal.invariant-loop-field
invariant-loop-field l = l.sent.items ≡ replicate l._field []
