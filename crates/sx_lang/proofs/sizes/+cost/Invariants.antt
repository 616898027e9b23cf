use Rattle.std.proofs.Common.{◌≡◌, ◌+◌, ◌≤◌, min, drop}
use Rattle.sx_lang.specs.Sizes.{block_cost}
use Rattle.sx_lang.specs.View.{block_of}
use Rattle.sx_lang.proofs.sizes.+cost.Given as goal

abbrev pub invariant-cost_of_block-loop-s : goal.invariant-cost_of_block-loop-s
invariant-cost_of_block-loop-s l =
    (l.total ≤ 262145) × (min (l.total + block_cost (block_of (drop l.s-index l.s-items))) 262145 ≡ min (block_cost (block_of l.s-items)) 262145)
