use Rattle.std.proofs.Common.{drop, map}
use Rattle.sx_lang.specs.View.{handler_of}
use Rattle.sx_print.specs.Pieces.{handlers_pieces}
use Rattle.sx_print.specs.Written.{Goes}
use Rattle.sx_print.proofs.printing.put_handlers.Given as goal

abbrev pub invariant-loop-h : goal.invariant-loop-h
invariant-loop-h l = Goes l.initial.out.items (handlers_pieces (map handler_of l.handlers)) l.out.items (handlers_pieces (map handler_of (drop l.h-index l.handlers)))
