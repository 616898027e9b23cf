use Rattle.std.proofs.Common.{◌≡◌, map, take}
use Rattle.std.specs.Rc.{rc_slice_items}
use Rattle.sx_world.proofs.copying.copy_of_packets.Given as goal

abbrev pub invariant-loop-packet : goal.invariant-loop-packet
invariant-loop-packet l =
    map rc_slice_items l.copies.items ≡ map rc_slice_items (take l.packet-index l.packets)
