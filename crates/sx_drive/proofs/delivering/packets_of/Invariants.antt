use Rattle.std.proofs.Common.{◌≡◌, ◌++◌, drop}
use Rattle.sx_drive.specs.Honest.{packets_of}
use Rattle.sx_drive.proofs.delivering.packets_of.Given as goal

abbrev pub invariant-loop-item : goal.invariant-loop-item
invariant-loop-item l = l.packets.items ++ packets_of (drop l.item-index l.items) ≡ packets_of l.items
