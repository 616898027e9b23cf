use Rattle.std.specs.Prelude.{◌≡◌}
use Rattle.sx_deploy.specs.SeenDeployment.{deployed_as}
use Rattle.spec_run.specs.Accepted.{setting}
use Rattle.command_gen.proofs.Tallies.{Tallied}
use Rattle.command_gen.proofs.counting.run_workload.Given as goal

-- As many lines were acted, and their items are counted.
abbrev pub invariant-loop-i : goal.invariant-loop-i
invariant-loop-i g l =
    let d = deployed_as l.deployment in
    let set = setting g.T.Tag.mac d l.fn.world.sites in record {
      counted : l.world.performed ≡ l.i;
      sites : l.world.sites ≡ l.fn.world.sites;
      tallied : Tallied l.samples d.names set l.world l.i l.counts;
    }
