use Rattle.std.proofs.Common.{drop}
use Rattle.sx_lang.specs.View.{block_of}
use Rattle.sx_lang.specs.Words.{BlockHasWords}
use Rattle.sx_lang.proofs.words.+words.Given as goal

abbrev pub invariant-of_block-loop-s : goal.invariant-of_block-loop-s
invariant-of_block-loop-s l = BlockHasWords (block_of (drop l.s-index l.s-items)) → BlockHasWords (block_of l.s-items)
