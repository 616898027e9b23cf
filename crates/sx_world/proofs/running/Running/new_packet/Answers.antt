use Rattle.std.proofs.Common.{map, sym, subst}
use Rattle.std.proofs.lemmas.List.{length-map}
use Rattle.std.specs.Rc.{rc_slice_items}
use Rattle.spec_run.specs.Acts.{new_packet}
use Rattle.spec_run.specs.Setting.{Setting}
use Rattle.sx_world.specs.Held.{Running, DoesAct}
use Rattle.sx_world.proofs.doing.KeptPackets.{packet_does}
use Rattle.sx_world.proofs.running.Running.new_packet.Goals as goal

pub returns : goal.returns
returns g c =
    let packets = map rc_slice_items c.add_packet.new.packets.items in
    let new : Running = record { nodes = c.self.inside.nodes.items; packets = packets; deployer = c.self.inside.deployer; ledger = c.self.inside.ledger; recognized = c.self.inside.recognized; steps = c.self.inside.steps } in
    subst (λ (o : Running). (set : Setting) → DoesAct set c.add_packet.result o new c.args.items.now.items c.add_packet.new.items.items (λ w. new_packet w c.args.bytes.now)) c.self.view_is
    (λ set. packet_does set c.add_packet.result _ packets c.args.items.now.items c.add_packet.new.items.items c.args.bytes.now _
    (sym (length-map c.self.inside.packets.items rc_slice_items)) c.add_packet.ensures.packet c.add_packet.ensures.ok c.add_packet.ensures.err)
