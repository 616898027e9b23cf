use Rattle.std.proofs.Common.{◌≡◌, drop}
use Rattle.std.specs.List.{list_any}
use Rattle.sx_check.specs.Names.{is_actuator}
use Rattle.sx_check.proofs.declared.has_actuator.Given as goal

abbrev pub invariant-loop-d : goal.invariant-loop-d
invariant-loop-d l = list_any is_actuator (drop l.d-index l.decls) ≡ list_any is_actuator l.decls
