use Rattle.std.proofs.Common.{◌≡◌, drop}
use Rattle.std.specs.List.{list_any}
use Rattle.sx_check.specs.Bounds.{block_counts, is_miscounted}
use Rattle.sx_lang.specs.View.{block_of}
use Rattle.sx_check.proofs.bounds.+counts.Given as goal

abbrev pub invariant-miscounts_in_block-loop-s : goal.invariant-miscounts_in_block-loop-s
invariant-miscounts_in_block-loop-s l = list_any is_miscounted (block_counts (block_of (drop l.s-index l.s-items))) ≡ list_any is_miscounted (block_counts (block_of l.s-items))
