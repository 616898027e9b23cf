use Rattle.std.proofs.Common.{◌≡◌, ◌+◌, ◌≤◌, drop}
use Rattle.sx_mean.specs.Meaning.{local_place}
use Rattle.sx_mean.proofs.statements.local_place.Given as goal

abbrev pub invariant-loop-l : goal.invariant-loop-l
invariant-loop-l l = (l.before ≤ l.l-index) × (l.before + local_place (drop l.l-index l.locals) l.x ≡ local_place l.locals l.x)
