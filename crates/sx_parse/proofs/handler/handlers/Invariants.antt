use Rattle.std.proofs.Common.{[], length}
use Rattle.std.specs.Prelude.{map}
use Rattle.sx_lang.specs.View.{handler_of}
use Rattle.sx_parse.specs.Reading.{done}
use Rattle.sx_parse.specs.Declaring.{Handles}
use Rattle.sx_parse.proofs.handler.handlers.Given as goal

abbrev pub invariant-loop-all : goal.invariant-loop-all
invariant-loop-all l = Handles done [] l.fn.tokens (map handler_of l.all.items) l.rest

abbrev pub decreases-loop-all : goal.decreases-loop-all
decreases-loop-all l = length l.rest
