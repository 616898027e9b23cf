use Rattle.std.proofs.Common.{◌≡◌, ◌+◌, ◌≤◌, drop, count_by}
use Rattle.sx_check.specs.Bounds.{is_input}
use Rattle.sx_check.proofs.declared.inputs.Given as goal

abbrev pub invariant-loop-d : goal.invariant-loop-d
invariant-loop-d l = (l.times ≤ l.d-index) × (l.times + count_by is_input (drop l.d-index l.decls) ≡ count_by is_input l.decls)
