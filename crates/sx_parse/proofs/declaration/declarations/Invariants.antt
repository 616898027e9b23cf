use Rattle.std.proofs.Common.{length}
use Rattle.spec_grammar.specs.Machine.{Declarations}
use Rattle.sx_parse.specs.Declaring.{Declared}
use Rattle.sx_parse.proofs.declaration.declarations.Given as goal

abbrev pub invariant-loop-found : goal.invariant-loop-found
invariant-loop-found l = Declared l.fn.tokens l.all.items Declarations l.rest

abbrev pub decreases-loop-found : goal.decreases-loop-found
decreases-loop-found l = length l.rest
