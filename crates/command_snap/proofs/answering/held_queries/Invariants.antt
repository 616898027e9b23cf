use Rattle.std.specs.List.{All}
use Rattle.command_snap.specs.Asked.{IsAsked}
use Rattle.command_snap.proofs.answering.held_queries.Given as goal

abbrev pub invariant-loop-before : goal.invariant-loop-before
invariant-loop-before l = All (IsAsked l.names l.last) l.queries.items
