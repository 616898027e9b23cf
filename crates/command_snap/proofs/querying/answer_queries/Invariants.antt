use Rattle.std.specs.Prelude.{◌≤◌, ◌-◌}
use Rattle.command_promise.specs.Told.{command_at}
use Rattle.sx_deploy.specs.SeenDeployment.{deployed_as}
use Rattle.spec_run.specs.Accepted.{setting}
use Rattle.command_snap.specs.Foreseen.{AreAnswers}
use Rattle.command_snap.specs.Output.{answers_from}
use Rattle.command_deploy.proofs.Given.{Gave}
use Rattle.command_snap.proofs.Between.{GoesOn}
use Rattle.command_snap.proofs.querying.answer_queries.Given as goal

-- what is left is what is written from the next query on; and what was made before answers its queries
abbrev pub invariant-queries : goal.invariant-queries
invariant-queries g l =
    let d = deployed_as l.deployment in
    let ask = answers_from d.names (setting g.T.Tag.mac d l.timeline.sites) l.timeline.lines in record {
      few : l.number ≤ 65;
      answers : AreAnswers d.names (setting g.T.Tag.mac d l.timeline.sites) l.timeline.lines l.foreseen.answers.items;
      begun : GoesOn g.S.Source.tells g.K.Sink.tells (command_at (g.S.Source.at l.fn.input) (g.K.Sink.at l.fn.output)) (command_at (g.S.Source.at l.input) (g.K.Sink.at l.output))
          l.fn.lines l.lines (ask 1) (ask l.number);
      gave : Gave g.S.Source.tells (g.S.Source.at l.fn.input) (g.S.Source.at l.input) l.fn.lines l.lines l.number;
    }

abbrev pub decreases-queries : goal.decreases-queries
decreases-queries g l = 65 - l.number
