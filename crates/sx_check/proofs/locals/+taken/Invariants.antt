use Rattle.std.proofs.Common.{◌≡◌, drop}
use Rattle.std.specs.List.{list_any}
use Rattle.sx_check.specs.Names.{is_taken, block_lets}
use Rattle.sx_lang.specs.View.{block_of, handler_of}
use Rattle.sx_check.proofs.locals.+taken.Given as goal

abbrev pub invariant-taken_in_block-loop-s : goal.invariant-taken_in_block-loop-s
invariant-taken_in_block-loop-s l = list_any (is_taken l.decls (handler_of l.h)) (block_lets (block_of (drop l.s-index l.s-items)))
    ≡ list_any (is_taken l.decls (handler_of l.h)) (block_lets (block_of l.s-items))
