use Rattle.std.proofs.Common.{◌≡◌, ◌+◌, ◌≤◌, drop, min, length}
use Rattle.sx_check.specs.Names.{block_lets}
use Rattle.sx_lang.specs.View.{block_of}
use Rattle.sx_check.proofs.bounds.+lets.Given as goal

abbrev pub invariant-lets_in_block-loop-s : goal.invariant-lets_in_block-loop-s
invariant-lets_in_block-loop-s l = (l.total ≤ 65536) × (min (l.total + length (block_lets (block_of (drop l.s-index l.s-items)))) 65536 ≡ min (length (block_lets (block_of l.s-items))) 65536)
