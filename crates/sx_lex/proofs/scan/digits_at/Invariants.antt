use Rattle.std.proofs.Common.{length}
use Rattle.sx_lex.specs.Progress.{Counted}
use Rattle.sx_lex.proofs.scan.digits_at.Given as goal

abbrev pub invariant-loop-first : goal.invariant-loop-first
invariant-loop-first l = Counted l.fn.text l.fn.base l.count l.number l.rest

abbrev pub decreases-loop-first : goal.decreases-loop-first
decreases-loop-first l = length l.rest
