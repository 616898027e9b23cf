use Rattle.std.proofs.Common.{◌≡◌, ◌+◌, ◌≤◌, drop, count_by}
use Rattle.sx_check.specs.Bounds.{is_output}
use Rattle.sx_check.proofs.declared.outputs.Given as goal

abbrev pub invariant-loop-d : goal.invariant-loop-d
invariant-loop-d l = (l.times ≤ l.d-index) × (l.times + count_by is_output (drop l.d-index l.decls) ≡ count_by is_output l.decls)
