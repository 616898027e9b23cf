use Rattle.std.proofs.Common.{length}
use Rattle.sx_lex.specs.Progress.{LexedSoFar}
use Rattle.sx_lex.proofs.reading.tokens_of.Given as goal

abbrev pub invariant-loop-first : goal.invariant-loop-first
invariant-loop-first l = LexedSoFar l.fn.text l.list.items l.place l.rest

abbrev pub decreases-loop-first : goal.decreases-loop-first
decreases-loop-first l = length l.rest
