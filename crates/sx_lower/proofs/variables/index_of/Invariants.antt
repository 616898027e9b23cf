use Rattle.std.proofs.Common.{◌≡◌, ◌+◌, ◌≤◌, drop}
use Rattle.sx_mean.specs.Scope.{index_of}
use Rattle.sx_lower.proofs.variables.index_of.Given as goal

abbrev pub invariant-loop-y : goal.invariant-loop-y
invariant-loop-y l = (l.before ≤ l.y-index) × (l.before + index_of (drop l.y-index l.scope) l.x ≡ index_of l.scope l.x)
