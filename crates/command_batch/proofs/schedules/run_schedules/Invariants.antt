use Rattle.std.specs.Prelude.{◌≤◌, ◌-◌}
use Rattle.command_promise.specs.Told.{command_at}
use Rattle.sx_deploy.specs.SeenDeployment.{deployed_as}
use Rattle.spec_run.specs.Accepted.{setting}
use Rattle.command_batch.proofs.Between.{Answered}
use Rattle.command_batch.proofs.schedules.run_schedules.Given as goal

-- Whatever came before, what is left is what is defined from the next schedule on.
abbrev pub invariant-schedules : goal.invariant-schedules
invariant-schedules g l =
    let d = deployed_as l.deployment in
    let set = setting g.T.Tag.mac d l.start.sites in record {
      few : l.count ≤ 65536;
      answered : Answered g.S.Source.tells g.K.Sink.tells (command_at (g.S.Source.at l.fn.input) (g.K.Sink.at l.fn.output)) (command_at (g.S.Source.at l.input) (g.K.Sink.at l.output))
          l.fn.lines l.lines d set l.start l.first l.count;
    }

abbrev pub decreases-schedules : goal.decreases-schedules
decreases-schedules g l = 65536 - l.count
