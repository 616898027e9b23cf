use Rattle.std.proofs.Common.{◌≡◌, ◌≤◌, drop, min, max}
use Rattle.sx_check.specs.Bounds.{block_height}
use Rattle.sx_lang.specs.View.{block_of}
use Rattle.sx_check.proofs.bounds.+height.Given as goal

abbrev pub invariant-height_in_block-loop-s : goal.invariant-height_in_block-loop-s
invariant-height_in_block-loop-s l = (l.highest ≤ 65536) × (min (max l.highest (block_height (block_of (drop l.s-index l.s-items)))) 65536 ≡ min (block_height (block_of l.s-items)) 65536)
