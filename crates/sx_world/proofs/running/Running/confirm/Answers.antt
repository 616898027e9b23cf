use Rattle.std.proofs.Common.{◌*◌, ◌≤◌, List, length, arith, sym, subst, ap, ◌∙◌}
use Rattle.std.proofs.lemmas.List.{length-map}
use Rattle.sx_deploy.specs.SeenDeployment.{deployed_as}
use Rattle.sx_mean.specs.View.{part_as}
use Rattle.sx_deployer.specs.Granting.{Grant}
use Rattle.sx_world.specs.Granted.{confirmed, granted}
use Rattle.sx_world.specs.Held.{Running}
use Rattle.sx_observe.specs.Observing.{Records}
use Rattle.spec_run.specs.Accepted.{setting}
use Rattle.sx_observe.proofs.Fronts.{front_all}
use Rattle.sx_world.proofs.granting.Confirming.{confirm_does, confirm_wanted, more_ok}
use Rattle.sx_world.proofs.granting.Given.{does_err}
use Rattle.sx_world.proofs.granting.SameGrants.{few_grants}
use Rattle.sx_world.proofs.running.Running.confirm.Goals as goal

pub returns-in_err-add_unless_made-clause-does : goal.returns-in_err-add_unless_made-clause-does
returns-in_err-add_unless_made-clause-does g c = λ sites.
    let set = setting g.T.Tag.mac (deployed_as c.args.deployment.now) sites in
    does_err set c.from_residual.result c.args.self.now c.args.self.now c.args.items.now.items c.add_unless_made.new.items.items
    (confirmed set c.args.m c.args.boot c.args.ask.now c.args.last) c.from_residual.ensures.0
    (confirm_wanted set c.args.self.now c.args.items.now.items c.add_unless_made.new.items.items c.args.m c.args.boot c.args.ask.now c.args.last c.is_made-made.result
    (λ list h. c.is_made-made.ensures list (subst (λ (o : Running). Records o.ledger list) (sym c.self.view_is) h)) c.in_err-add_unless_made.ensures.front)

pub returns-in_err-grants-clause-does : goal.returns-in_err-grants-clause-does
returns-in_err-grants-clause-does g c = λ sites.
    let set = setting g.T.Tag.mac (deployed_as c.args.deployment.now) sites in
    does_err set c.from_residual-in_err-grants.result c.args.self.now c.args.self.now c.args.items.now.items c.add_unless_made.new.items.items
    (confirmed set c.args.m c.args.boot c.args.ask.now c.args.last) c.from_residual-in_err-grants.ensures.0
    (confirm_wanted set c.args.self.now c.args.items.now.items c.add_unless_made.new.items.items c.args.m c.args.boot c.args.ask.now c.args.last c.is_made-made.result
    (λ list h. c.is_made-made.ensures list (subst (λ (o : Running). Records o.ledger list) (sym c.self.view_is) h))
    (front_all c.add_unless_made.new.items.items c.args.items.now.items _ c.in_ok-add_unless_made.ensures.ok))

pub give_keys-requires : goal.give_keys-requires
give_keys-requires g c =
    let P = length c.args.deployment.now.app.parts.items in
    let links = c.args.deployment.now.app.links.items in
    let few : length c.deref.result.now ≤ 3 * length links =
    subst (λ (gs : List Grant). length gs ≤ 3 * length links) (sym (c.deref.ensures.value ∙ c.in_ok-grants.ensures)) (few_grants c.self.inside.deployer P c.args.m c.args.boot links c.args.last) in
    omega (arith, few, c.requires.links, c.requires.packets)

pub returns-clause-does : goal.returns-clause-does
returns-clause-does g c = λ sites.
    let set = setting g.T.Tag.mac (deployed_as c.args.deployment.now) sites in
    let P = length c.args.deployment.now.app.parts.items in
    let links = c.args.deployment.now.app.links.items in
    confirm_does set c.give_keys.result c.args.self.now c.give_keys.new.self c.args.items.now.items c.add_unless_made.new.items.items c.give_keys.new.items.items
    c.args.m c.args.boot P c.args.ask.now c.args.last c.is_made-made.result c.deref.result.now
    (λ list h. c.is_made-made.ensures list (subst (λ (o : Running). Records o.ledger list) (sym c.self.view_is) h)) c.in_ok-add_unless_made.ensures.ok
    (sym (length-map c.args.deployment.now.app.parts.items part_as))
    (c.deref.ensures.value ∙ c.in_ok-grants.ensures ∙ ap (λ (o : Running). granted o.deployer P links c.args.m c.args.boot c.args.last) c.self.view_is)
    (c.give_keys.ensures.does sites)

pub returns-clause-count : goal.returns-clause-count
returns-clause-count g c =
    let P = length c.args.deployment.now.app.parts.items in
    let links = c.args.deployment.now.app.links.items in
    let few : length c.deref.result.now ≤ 3 * length links =
    subst (λ (gs : List Grant). length gs ≤ 3 * length links) (sym (c.deref.ensures.value ∙ c.in_ok-grants.ensures)) (few_grants c.self.inside.deployer P c.args.m c.args.boot links c.args.last) in
    more_ok c.give_keys.result (length c.give_keys.new.self.packets) (length c.args.self.now.packets) (length c.deref.result.now) (omega (arith, few, c.requires.links)) c.give_keys.ensures.count
