use Rattle.std.proofs.Common.{◌≡◌, drop, nat_le}
use Rattle.sx_lang.specs.View.{block_of}
use Rattle.sx_print.specs.Printable.{block_open}
use Rattle.sx_print.proofs.conditions.+opens.Given as goal

abbrev pub invariant-opens_in_block-loop-s : goal.invariant-opens_in_block-loop-s
invariant-opens_in_block-loop-s l = nat_le (block_open (block_of (drop l.s-index l.s-items))) l.room ≡ nat_le (block_open (block_of l.s-items)) l.room
