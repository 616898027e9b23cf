use Rattle.std.proofs.Common.{◌≡◌, ◌+◌, ◌≤◌, drop, min}
use Rattle.sx_check.specs.Bounds.{block_sends}
use Rattle.sx_lang.specs.View.{block_of}
use Rattle.sx_check.proofs.bounds.+sends.Given as goal

abbrev pub invariant-sends_in_block-loop-s : goal.invariant-sends_in_block-loop-s
invariant-sends_in_block-loop-s l = (l.total ≤ 65536) × (min (l.total + block_sends (block_of (drop l.s-index l.s-items))) 65536 ≡ min (block_sends (block_of l.s-items)) 65536)
