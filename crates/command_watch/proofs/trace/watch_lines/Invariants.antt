use Rattle.std.specs.Prelude.{◌≡◌, ◌-◌}
use Rattle.command_promise.specs.Told.{command_at}
use Rattle.command_watch.proofs.Between.{Between}
use Rattle.command_watch.proofs.trace.watch_lines.Given as goal

-- Whatever came before, what is left is what is said from the next line on, after the items through
-- which the property was followed; and nothing was written.
abbrev pub invariant-lines : goal.invariant-lines
invariant-lines g l = record {
  between : Between g.S.Source.tells g.K.Sink.tells (command_at (g.S.Source.at l.fn.input) (g.K.Sink.at l.fn.output)) (command_at (g.S.Source.at l.input) (g.K.Sink.at l.output)) l.fn.lines l.lines
      l.names l.fn.following l.following l.number;
  still : g.K.Sink.at l.output ≡ g.K.Sink.at l.fn.output;
}

abbrev pub decreases-lines : goal.decreases-lines
decreases-lines g l = 4000001 - l.number
