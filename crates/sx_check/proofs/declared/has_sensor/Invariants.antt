use Rattle.std.proofs.Common.{◌≡◌, drop}
use Rattle.std.specs.List.{list_any}
use Rattle.sx_check.specs.Names.{is_sensor}
use Rattle.sx_check.proofs.declared.has_sensor.Given as goal

abbrev pub invariant-loop-d : goal.invariant-loop-d
invariant-loop-d l = list_any is_sensor (drop l.d-index l.decls) ≡ list_any is_sensor l.decls
