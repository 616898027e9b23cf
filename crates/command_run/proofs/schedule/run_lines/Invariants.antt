use Rattle.std.specs.Prelude.{◌≡◌, ◌≤◌, ◌-◌, ◌+◌}
use Rattle.command_promise.specs.Told.{command_at}
use Rattle.sx_deploy.specs.SeenDeployment.{deployed_as}
use Rattle.spec_run.specs.Accepted.{setting}
use Rattle.command_run.proofs.Between.{Between}
use Rattle.command_run.proofs.schedule.run_lines.Given as goal

-- Whatever came before, what is left is what is defined from the next line on, in the world that there is now.
abbrev pub invariant-lines : goal.invariant-lines
invariant-lines g l =
    let d = deployed_as l.deployment in
    let set = setting g.T.Tag.mac d l.fn.world.sites in record {
      few : l.number ≤ 65537;
      counted : l.world.performed + 1 ≡ l.number;
      sites : l.world.sites ≡ l.fn.world.sites;
      between : Between l.fn.shown g.S.Source.tells g.K.Sink.tells (command_at (g.S.Source.at l.fn.input) (g.K.Sink.at l.fn.output)) (command_at (g.S.Source.at l.input) (g.K.Sink.at l.output))
          l.fn.lines l.lines d.names set l.world l.number l.kept.items;
    }

abbrev pub decreases-lines : goal.decreases-lines
decreases-lines g l = 65537 - l.number
