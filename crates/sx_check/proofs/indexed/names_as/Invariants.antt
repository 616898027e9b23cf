use Rattle.std.proofs.Common.{◌≡◌, ◌++◌, drop}
use Rattle.sx_check.specs.Listed.{names_as}
use Rattle.sx_check.proofs.indexed.names_as.Given as goal

abbrev pub invariant-loop-d : goal.invariant-loop-d
invariant-loop-d l = l.names.items ++ names_as l.role (drop l.d-index l.decls) ≡ names_as l.role l.decls
