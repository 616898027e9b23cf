use Rattle.std.proofs.Common.{◌≡◌, drop}
use Rattle.sx_print.specs.Printable.{declarations_plain}
use Rattle.sx_print.proofs.conditions.names_in_declarations.Given as goal

abbrev pub invariant-loop-d : goal.invariant-loop-d
invariant-loop-d l = declarations_plain (drop l.d-index l.decls) ≡ declarations_plain l.decls
