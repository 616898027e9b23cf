use Rattle.std.proofs.Common.{◌≡◌, drop}
use Rattle.std.specs.List.{list_any}
use Rattle.sx_check.specs.Uses.{declares_as}
use Rattle.sx_check.proofs.declared.lists_role.Given as goal

abbrev pub invariant-loop-d : goal.invariant-loop-d
invariant-loop-d l = list_any (declares_as l.role l.x) (drop l.d-index l.decls) ≡ list_any (declares_as l.role l.x) l.decls
