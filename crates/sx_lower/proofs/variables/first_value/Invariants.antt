use Rattle.std.proofs.Common.{◌≡◌, drop}
use Rattle.sx_mean.specs.Variables.{first_value}
use Rattle.sx_lower.proofs.variables.first_value.Given as goal

abbrev pub invariant-loop-d : goal.invariant-loop-d
invariant-loop-d l = first_value (drop l.d-index l.decls) l.x ≡ first_value l.decls l.x
