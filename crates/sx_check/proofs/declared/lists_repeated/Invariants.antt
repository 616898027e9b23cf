use Rattle.std.proofs.Common.{◌≡◌, drop}
use Rattle.std.specs.List.{list_any}
use Rattle.sx_check.specs.Names.{is_repeated}
use Rattle.sx_check.proofs.declared.lists_repeated.Given as goal

abbrev pub invariant-loop-d : goal.invariant-loop-d
invariant-loop-d l = list_any (is_repeated l.decls) (drop l.d-index l.decls) ≡ list_any (is_repeated l.decls) l.decls
