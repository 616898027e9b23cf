use Rattle.std.proofs.Common.{◌≡◌, map, List, refl, sym, ap, subst, ◌∙◌}
use Rattle.std.specs.Prelude.{Option, IfSome, option_map, slice_get}
use Rattle.std.proofs.lemmas.List.{length-map}
use Rattle.std.specs.Rc.{rc_slice_items}
use Rattle.sx_deploy.specs.SeenDeployment.{deployed_as}
use Rattle.spec_run.specs.Acts.{key_given}
use Rattle.sx_deployer.specs.Granting.{Grant, connection_key}
use Rattle.sx_deployer.specs.declared.keys.KeyPacket.{KeyPacket}
use Rattle.sx_world.specs.Held.{Running, DoesAct, Did}
use Rattle.spec_run.specs.Accepted.{setting}
use Rattle.spec_run.specs.Setting.{Site}
use Rattle.sx_world.proofs.granting.Given.{does_err, given_some, given_none}
use Rattle.sx_observe.proofs.Fronts.{front_same}
use Rattle.sx_world.proofs.running.Running.give_key.Goals as goal

pub returns-in_ok-record-in-Some-clause-does : goal.returns-in_ok-record-in-Some-clause-does
returns-in_ok-record-in-Some-clause-does g c =
    let packets = map rc_slice_items c.add_packet.new.packets.items in
    let new : Running = record { nodes = c.self.inside.nodes.items; packets = packets; deployer = c.self.inside.deployer; ledger = c.record.new.ledger; recognized = c.self.inside.recognized; steps = c.self.inside.steps } in
    let given : Grant = record { holder = c.g.inside.holder; boot = c.g.inside.boot; «end» = c.g.inside.«end»; epoch = c.g.inside.epoch } in
    subst (λ (x : Grant). (sites : List Site) → DoesAct (setting g.T.Tag.mac (deployed_as c.args.deployment.now) sites) c.add_packet.result c.args.self.now new
    c.args.items.now.items c.add_packet.new.items.items (λ w. key_given (setting g.T.Tag.mac (deployed_as c.args.deployment.now) sites) w x (slice_get sites x.holder))) c.g.view_is
    (subst (λ (o : Running). (sites : List Site) → DoesAct (setting g.T.Tag.mac (deployed_as c.args.deployment.now) sites) c.add_packet.result o new
    c.args.items.now.items c.add_packet.new.items.items (λ w. key_given (setting g.T.Tag.mac (deployed_as c.args.deployment.now) sites) w given (slice_get sites given.holder))) c.self.view_is
    (λ sites. given_some (setting g.T.Tag.mac (deployed_as c.args.deployment.now) sites) c.add_packet.result _ c.record.new.ledger packets c.args.items.now.items c.add_packet.new.items.items given
    _ c.in-Some.packet.bytes c.in-Some.packet.key (ap (option_map (λ (p : KeyPacket). p.bytes)) (sym c.in-Some.is) ∙ c.key_packet.ensures.bytes)
    (subst (λ (o : Option KeyPacket). IfSome o (λ p. p.key ≡ connection_key g.T.Tag.mac c.self.inside.deployer.secret c.g.inside.«end».link c.g.inside.epoch)) c.in-Some.is c.key_packet.ensures.key)
    c.in_ok-record-in-Some.ensures
    (sym (length-map c.self.inside.packets.items rc_slice_items)) c.add_packet.ensures.packet c.add_packet.ensures.ok c.add_packet.ensures.err))

pub returns-in-None-clause-does : goal.returns-in-None-clause-does
returns-in-None-clause-does g c =
    let given : Grant = record { holder = c.g.inside.holder; boot = c.g.inside.boot; «end» = c.g.inside.«end»; epoch = c.g.inside.epoch } in
    subst (λ (x : Grant). (sites : List Site) → Did (setting g.T.Tag.mac (deployed_as c.args.deployment.now) sites) c.args.self.now c.args.self.now
    c.args.items.now.items c.args.items.now.items (λ w. key_given (setting g.T.Tag.mac (deployed_as c.args.deployment.now) sites) w x (slice_get sites x.holder))) c.g.view_is
    (subst (λ (o : Running). (sites : List Site) → Did (setting g.T.Tag.mac (deployed_as c.args.deployment.now) sites) o o
    c.args.items.now.items c.args.items.now.items (λ w. key_given (setting g.T.Tag.mac (deployed_as c.args.deployment.now) sites) w given (slice_get sites given.holder))) c.self.view_is
    (λ sites. given_none (setting g.T.Tag.mac (deployed_as c.args.deployment.now) sites) _ c.args.items.now.items given (ap (option_map (λ (p : KeyPacket). p.bytes)) (sym c.in-None.is) ∙ c.key_packet.ensures.bytes)))

pub returns-in_err-record-in-Some-clause-does : goal.returns-in_err-record-in-Some-clause-does
returns-in_err-record-in-Some-clause-does g c = λ sites.
    let set = setting g.T.Tag.mac (deployed_as c.args.deployment.now) sites in
    does_err set c.from_residual.result c.args.self.now _ c.args.items.now.items c.args.items.now.items
    (λ w. key_given set w c.args.g.now (slice_get sites c.args.g.now.holder)) c.from_residual.ensures.0
    (λ w h. front_same c.args.items.now.items c.args.items.now.items _ refl)
