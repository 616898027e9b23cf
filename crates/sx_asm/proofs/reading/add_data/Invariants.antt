use Rattle.std.proofs.Common.{◌≡◌, length}
use Rattle.sx_asm.specs.Adding.{grown}
use Rattle.sx_asm.specs.Grammar.{data_of}
use Rattle.sx_asm.proofs.reading.add_data.Given as goal

abbrev pub invariant-loop-first : goal.invariant-loop-first
invariant-loop-first l =
    grown l.fn.entries.items l.line (data_of l.tokens) ≡ grown l.entries.items l.line (data_of l.rest)

abbrev pub decreases-loop-first : goal.decreases-loop-first
decreases-loop-first l = length l.rest
