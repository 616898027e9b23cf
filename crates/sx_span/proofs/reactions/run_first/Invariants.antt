use Rattle.std.proofs.Common.{◌≡◌, drop, map}
use Rattle.sx_mean.specs.React.{handler_of_input}
use Rattle.sx_lang.specs.View.{handler_of}
use Rattle.sx_span.proofs.reactions.run_first.Given as goal

abbrev pub invariant-loop-h : goal.invariant-loop-h
invariant-loop-h l = handler_of_input l.input (map handler_of (drop l.h-index l.h-items)) ≡ handler_of_input l.input (map handler_of l.h-items)
