use Rattle.std.proofs.Common.{◌≡◌, drop}
use Rattle.sx_check.specs.Bounds.{block_emits}
use Rattle.sx_lang.specs.View.{block_of}
use Rattle.sx_check.proofs.bounds.+emits.Given as goal

abbrev pub invariant-emits_in_block-loop-s : goal.invariant-emits_in_block-loop-s
invariant-emits_in_block-loop-s l = block_emits (block_of (drop l.s-index l.s-items)) ≡ block_emits (block_of l.s-items)
