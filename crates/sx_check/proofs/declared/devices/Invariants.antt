use Rattle.std.proofs.Common.{◌≡◌, ◌+◌, ◌≤◌, drop, count_by}
use Rattle.sx_check.specs.Names.{is_device}
use Rattle.sx_check.proofs.declared.devices.Given as goal

abbrev pub invariant-loop-d : goal.invariant-loop-d
invariant-loop-d l = (l.times ≤ l.d-index) × (l.times + count_by is_device (drop l.d-index l.decls) ≡ count_by is_device l.decls)
