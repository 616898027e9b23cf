use Rattle.std.proofs.Common.{◌≡◌, ◌+◌, ◌≤◌, drop, count_by}
use Rattle.sx_check.specs.Names.{declares}
use Rattle.sx_check.proofs.declared.times_named.Given as goal

abbrev pub invariant-loop-d : goal.invariant-loop-d
invariant-loop-d l = (l.times ≤ l.d-index) × (l.times + count_by (declares l.x) (drop l.d-index l.decls) ≡ count_by (declares l.x) l.decls)
