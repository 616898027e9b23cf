use Rattle.std.proofs.Common.{◌≡◌, ◌++◌, length}
use Rattle.sx_asm.specs.Tokens.{runs, tokens_in}
use Rattle.sx_asm.proofs.lexing.tokens_of.Given as goal

abbrev pub invariant-loop-run : goal.invariant-loop-run
invariant-loop-run l = tokens_in (runs l.line) ≡ l.tokens.items ++ tokens_in (runs l.rest)

abbrev pub decreases-loop-run : goal.decreases-loop-run
decreases-loop-run l = length l.rest
