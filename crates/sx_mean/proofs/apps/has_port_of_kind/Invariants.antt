use Rattle.std.proofs.Common.{◌≡◌, ◌+◌, ◌≤◌, drop, count_by}
use Rattle.sx_mean.specs.Validity.{is_port}
use Rattle.sx_mean.proofs.apps.has_port_of_kind.Given as goal

abbrev pub invariant-loop-d : goal.invariant-loop-d
invariant-loop-d l = (l.times ≤ l.d-index) × (l.times + count_by (is_port l.output) (drop l.d-index l.decls) ≡ count_by (is_port l.output) l.decls)
