use Rattle.std.proofs.Common.{◌<◌, map, sym, subst}
use Rattle.std.proofs.lemmas.List.{length-map}
use Rattle.std.specs.Rc.{rc_slice_items}
use Rattle.spec_run.specs.Acts.{ask}
use Rattle.spec_run.specs.Setting.{Setting}
use Rattle.sx_world.specs.Held.{Running, DoesAct}
use Rattle.sx_world.proofs.granting.Sent.{ask_does}
use Rattle.sx_observe.proofs.Fronts.{front_same}
use Rattle.sx_world.proofs.granting.Given.{does_err}
use Rattle.sx_world.proofs.running.Running.ask.Goals as goal

pub returns-clause-does : goal.returns-clause-does
returns-clause-does g c =
    let packets = map rc_slice_items c.add_packet.new.packets.items in
    let new : Running = record { nodes = c.self.inside.nodes.items; packets = packets; deployer = c.ask-packet.new.self; ledger = c.self.inside.ledger; recognized = c.self.inside.recognized; steps = c.self.inside.steps } in
    let asks = subst (λ (o : Running). o.deployer.state.asks < 4294967295) (sym c.self.view_is) c.requires.asks in
    subst (λ (o : Running). (set : Setting) → DoesAct set c.add_packet.result o new c.args.items.now.items c.add_packet.new.items.items (λ w. ask w c.args.m)) c.self.view_is
    (λ set. ask_does set c.add_packet.result _ c.ask-packet.new.self c.args.items.now.items c.push_item.new.items.items c.add_packet.new.items.items c.args.m _ _ c.ask-packet.result
    packets asks c.ask-packet.ensures.state c.ask-packet.ensures.packet c.challenge_in.ensures c.in_ok-push_item.ensures.ok
    (sym (length-map c.self.inside.packets.items rc_slice_items)) c.add_packet.ensures.packet c.add_packet.ensures.ok c.add_packet.ensures.err)

pub returns-in_err-push_item-clause-does : goal.returns-in_err-push_item-clause-does
returns-in_err-push_item-clause-does g c = λ set.
    does_err set c.from_residual.result c.args.self.now _ c.args.items.now.items c.push_item.new.items.items (λ w. ask w c.args.m) c.from_residual.ensures.0
    (λ w h. front_same c.push_item.new.items.items c.args.items.now.items _ c.in_err-push_item.ensures.err)
