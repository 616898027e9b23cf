use Rattle.std.proofs.Common.{◌≡◌, ◌+◌, ◌≤◌, drop, min, count_by}
use Rattle.sx_check.specs.Names.{same, block_lets}
use Rattle.sx_lang.specs.View.{block_of}
use Rattle.sx_check.proofs.locals.+count.Given as goal

abbrev pub invariant-lets_in_block-loop-s : goal.invariant-lets_in_block-loop-s
invariant-lets_in_block-loop-s l = (l.times ≤ 65536) × (min (l.times + count_by (same l.x) (block_lets (block_of (drop l.s-index l.s-items)))) 65536
    ≡ min (count_by (same l.x) (block_lets (block_of l.s-items))) 65536)
