use Rattle.std.proofs.Common.{◌≡◌, drop}
use Rattle.std.specs.List.{list_any}
use Rattle.sx_check.specs.Names.{is_declared}
use Rattle.sx_check.proofs.locals.are_declared.Given as goal

abbrev pub invariant-loop-x : goal.invariant-loop-x
invariant-loop-x l = list_any (is_declared l.decls) (drop l.x-index l.names) ≡ list_any (is_declared l.decls) l.names
