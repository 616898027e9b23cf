use Rattle.std.proofs.Common.{◌≡◌, drop}
use Rattle.sx_lang.specs.View.{block_of}
use Rattle.sx_print.specs.Printable.{block_plain}
use Rattle.sx_print.proofs.conditions.+names.Given as goal

abbrev pub invariant-names_in_block-loop-s : goal.invariant-names_in_block-loop-s
invariant-names_in_block-loop-s l = block_plain (block_of (drop l.s-index l.s-items)) ≡ block_plain (block_of l.s-items)
