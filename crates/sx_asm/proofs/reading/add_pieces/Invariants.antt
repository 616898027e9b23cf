use Rattle.std.proofs.Common.{◌≡◌, length}
use Rattle.sx_asm.specs.Adding.{grown}
use Rattle.sx_asm.specs.Grammar.{is_semicolon}
use Rattle.sx_asm.specs.Reading.{parts, items_in}
use Rattle.sx_asm.proofs.reading.add_pieces.Given as goal

abbrev pub invariant-loop-more : goal.invariant-loop-more
invariant-loop-more l =
    grown l.fn.entries.items l.line (items_in (parts is_semicolon l.tokens))
    ≡ grown l.entries.items l.line (items_in (parts is_semicolon l.rest))

abbrev pub decreases-loop-more : goal.decreases-loop-more
decreases-loop-more l = length l.rest
