use Rattle.std.proofs.Common.{◌≡◌, length}
use Rattle.sx_trace.specs.ValidNames.{no_repeat}
use Rattle.sx_trace.proofs.names.no_repeat.Given as goal

abbrev pub invariant-loop-first : goal.invariant-loop-first
invariant-loop-first l = no_repeat l.rest ≡ no_repeat l.names

abbrev pub decreases-loop-first : goal.decreases-loop-first
decreases-loop-first l = length l.rest
