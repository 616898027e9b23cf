use Rattle.std.specs.Prelude.{◌≡◌, ◌≤◌, ◌-◌, ◌+◌}
use Rattle.command_promise.specs.Told.{command_at}
use Rattle.sx_deploy.specs.SeenDeployment.{deployed_as}
use Rattle.spec_run.specs.Accepted.{setting}
use Rattle.spec_run.specs.State.{World}
use Rattle.sx_world.specs.Standing.{Stands}
use Rattle.command_batch.specs.Parts.{Since}
use Rattle.command_batch.proofs.Between.{BetweenOwn}
use Rattle.command_batch.proofs.schedules.run_schedule.Given as goal

-- Whatever came before, what is left is what is defined from the next line of the schedule on, in the world that the lines before led to.
abbrev pub invariant-lines : goal.invariant-lines
invariant-lines g l =
    let d = deployed_as l.deployment in
    let set = setting g.T.Tag.mac d l.fn.world.sites in
    let m1 = command_at (g.S.Source.at l.fn.input) (g.K.Sink.at l.fn.output) in
    let m2 = command_at (g.S.Source.at l.input) (g.K.Sink.at l.output) in record {
      few : l.number ≤ 65537;
      counted : l.world.performed + 1 ≡ l.number;
      sites : l.world.sites ≡ l.fn.world.sites;
      between : (start : World) → Stands set l.fn.world start → BetweenOwn g.S.Source.tells g.K.Sink.tells m1 m2 l.fn.lines l.lines d.names set l.fn.first l.world l.number start;
      since : Since g.S.Source.tells m1.source m2.source l.fn.lines l.lines;
    }

abbrev pub decreases-lines : goal.decreases-lines
decreases-lines g l = 65537 - l.number
