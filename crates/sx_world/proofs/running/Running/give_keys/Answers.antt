use Rattle.std.proofs.Common.{arith, drop, ◌+◌}
use Rattle.std.proofs.Math.ListN.{drop_of_length-le}
use Rattle.sx_deploy.specs.SeenDeployment.{deployed_as}
use Rattle.spec_run.specs.Acts.{keys_given}
use Rattle.spec_run.specs.Accepted.{setting}
use Rattle.sx_world.proofs.granting.Given.{giving_on, giving_all, giving_front, next_grant, does_err}
use Rattle.sx_world.proofs.running.Running.give_keys.Goals as goal

pub returns-in_err-give_key-clause-does : goal.returns-in_err-give_key-clause-does
returns-in_err-give_key-clause-does g c = λ sites.
    let set = setting g.T.Tag.mac (deployed_as c.args.deployment.now) sites in
    let next = next_grant c.args.grants.now c.loop-g.g-index c.g-item.result (omega (arith, c.loop-g-test.true, c.loop-g.auto.g-index-end)) c.g-item.is in
    does_err set c.from_residual.result c.args.self.now c.give_key.new.self c.args.items.now.items c.give_key.new.items.items (keys_given set c.args.grants.now) c.from_residual.ensures.0
    (giving_front set c.args.grants.now (drop c.loop-g.g-index c.args.grants.now) (drop (c.loop-g.g-index + 1) c.args.grants.now) c.g-item.result c.args.self.now c.loop-g.self
    c.args.items.now.items c.loop-g.items.items c.give_key.new.items.items (c.loop-g.invariant.giving sites) next (c.in_err-give_key.ensures.does sites))

pub loop-g-preserved : goal.loop-g-preserved
loop-g-preserved g c =
    let next = next_grant c.args.grants.now c.loop-g.g-index c.g-item.result (omega (arith, c.loop-g-test.true, c.loop-g.auto.g-index-end)) c.g-item.is in
    record {
      giving = λ sites.
          giving_on (setting g.T.Tag.mac (deployed_as c.args.deployment.now) sites) c.args.grants.now (drop c.loop-g.g-index c.args.grants.now) (drop (c.loop-g.g-index + 1) c.args.grants.now)
          c.g-item.result c.args.self.now c.loop-g.self c.give_key.new.self c.args.items.now.items c.loop-g.items.items c.give_key.new.items.items
          (c.loop-g.invariant.giving sites) next (c.in_ok-give_key.ensures.does sites);
      count = omega (arith, c.loop-g.invariant.count, c.in_ok-give_key.ensures.count);
    }

pub returns-clause-does : goal.returns-clause-does
returns-clause-does g c = λ sites.
    giving_all (setting g.T.Tag.mac (deployed_as c.args.deployment.now) sites) c.args.grants.now (drop c.loop-g.g-index c.args.grants.now)
    c.args.self.now c.loop-g.self c.args.items.now.items c.loop-g.items.items (c.loop-g.invariant.giving sites)
    (drop_of_length-le c.args.grants.now (omega (arith, c.loop-g-test.false, c.loop-g.auto.g-index-end)))
