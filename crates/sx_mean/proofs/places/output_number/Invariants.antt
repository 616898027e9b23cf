use Rattle.std.proofs.Common.{◌≡◌, ◌+◌, ◌≤◌, drop, count_by}
use Rattle.sx_mean.specs.Places.{output_number}
use Rattle.sx_check.specs.Bounds.{is_output}
use Rattle.sx_mean.proofs.places.output_number.Given as goal

abbrev pub invariant-loop-d : goal.invariant-loop-d
invariant-loop-d l = (l.before + output_number (drop l.d-index l.decls) l.x ≡ output_number l.decls l.x) × (l.before + count_by is_output (drop l.d-index l.decls) ≤ 255)
