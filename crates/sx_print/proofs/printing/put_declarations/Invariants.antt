use Rattle.std.proofs.Common.{drop}
use Rattle.sx_print.specs.Pieces.{declarations_pieces}
use Rattle.sx_print.specs.Written.{Goes}
use Rattle.sx_print.proofs.printing.put_declarations.Given as goal

abbrev pub invariant-loop-d : goal.invariant-loop-d
invariant-loop-d l = Goes l.initial.out.items (declarations_pieces l.decls) l.out.items (declarations_pieces (drop l.d-index l.decls))
