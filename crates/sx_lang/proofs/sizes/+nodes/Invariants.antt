use Rattle.std.proofs.Common.{◌≡◌, ◌+◌, ◌≤◌, min, drop}
use Rattle.sx_lang.specs.Sizes.{block_nodes}
use Rattle.sx_lang.specs.View.{block_of}
use Rattle.sx_lang.proofs.sizes.+nodes.Given as goal

abbrev pub invariant-nodes_of_block-loop-s : goal.invariant-nodes_of_block-loop-s
invariant-nodes_of_block-loop-s l =
    (l.total ≤ 4294967295) × (min (l.total + block_nodes (block_of (drop l.s-index l.s-items))) 4294967295 ≡ min (block_nodes (block_of l.s-items)) 4294967295)
