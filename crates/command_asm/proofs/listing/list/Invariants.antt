use Rattle.std.specs.Prelude.{◌≡◌, ◌%◌, length}
use Rattle.command_asm.specs.Listing.{listing}
use Rattle.command_asm.proofs.LeftLines.{LeftLines, and_end}
use Rattle.command_asm.proofs.listing.list.Given as goal

-- whole instructions are left, and all but their lines was written
abbrev pub invariant-lines : goal.invariant-lines
invariant-lines g l = record {
  even : length l.rest % 2 ≡ 0;
  lines : LeftLines g.K.Sink.tells (g.K.Sink.at l.fn.output) (g.K.Sink.at l.output) (and_end (listing l.fn.at l.fn.code))
      l.address l.rest;
}

abbrev pub decreases-lines : goal.decreases-lines
decreases-lines g l = length l.rest
