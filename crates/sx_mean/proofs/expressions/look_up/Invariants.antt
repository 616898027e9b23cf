use Rattle.std.proofs.Common.{◌≡◌, drop}
use Rattle.sx_mean.specs.Meaning.{look_up}
use Rattle.sx_mean.proofs.expressions.look_up.Given as goal

abbrev pub invariant-loop-l : goal.invariant-loop-l
invariant-loop-l l = look_up (drop l.l-index l.locals) l.x ≡ look_up l.locals l.x
