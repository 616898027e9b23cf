use Rattle.std.specs.Prelude.{◌-◌}
use Rattle.command_promise.specs.Told.{command_at}
use Rattle.sx_mean.specs.View.{app_as}
use Rattle.command_explain.proofs.Between.{Between}
use Rattle.command_explain.proofs.trace.explain_lines.Given as goal

-- Whatever came before, what is left is what is said from the next line on, after the items that the
-- judge follows.
abbrev pub invariant-lines : goal.invariant-lines
invariant-lines g l = record {
  between : Between g.S.Source.tells g.K.Sink.tells (command_at (g.S.Source.at l.fn.input) (g.K.Sink.at l.fn.output)) (command_at (g.S.Source.at l.input) (g.K.Sink.at l.output)) l.fn.lines l.lines
      (app_as l.deployment.app) l.deployment.names l.judge l.number l.kept.items;
}

abbrev pub decreases-lines : goal.decreases-lines
decreases-lines g l = 4000001 - l.number
