use Rattle.std.proofs.Common.{◌≡◌, ◌≤◌, drop, min, max}
use Rattle.sx_check.specs.Bounds.{inner_depth}
use Rattle.sx_lang.specs.View.{block_of}
use Rattle.sx_check.proofs.bounds.+depth.Given as goal

abbrev pub invariant-depth_in_block-loop-s : goal.invariant-depth_in_block-loop-s
invariant-depth_in_block-loop-s l = (l.deepest ≤ 65536) × (min (max l.deepest (inner_depth (block_of (drop l.s-index l.s-items)))) 65536 ≡ min (inner_depth (block_of l.s-items)) 65536)
