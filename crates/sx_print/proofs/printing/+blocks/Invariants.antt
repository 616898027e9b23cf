use Rattle.std.proofs.Common.{drop}
use Rattle.sx_lang.specs.View.{block_of}
use Rattle.sx_print.specs.Pieces.{statements_pieces}
use Rattle.sx_print.specs.Written.{Goes}
use Rattle.sx_print.proofs.printing.+blocks.Given as goal

abbrev pub invariant-put_statements-loop-s : goal.invariant-put_statements-loop-s
invariant-put_statements-loop-s l = Goes l.initial.out.items (statements_pieces l.depth (block_of l.s-items)) l.out.items (statements_pieces l.depth (block_of (drop l.s-index l.s-items)))
