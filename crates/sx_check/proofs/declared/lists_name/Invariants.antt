use Rattle.std.proofs.Common.{◌≡◌, drop}
use Rattle.std.specs.List.{list_any}
use Rattle.sx_check.specs.Names.{declares}
use Rattle.sx_check.proofs.declared.lists_name.Given as goal

abbrev pub invariant-loop-d : goal.invariant-loop-d
invariant-loop-d l = list_any (declares l.x) (drop l.d-index l.decls) ≡ list_any (declares l.x) l.decls
