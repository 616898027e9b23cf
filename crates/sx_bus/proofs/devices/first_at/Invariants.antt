use Rattle.std.proofs.Common.{◌≡◌, drop}
use Rattle.std.specs.List.{position_from}
use Rattle.sx_bus.specs.Devices.{on_word, device_at}
use Rattle.sx_bus.proofs.devices.first_at.Given as goal

-- none of the devices so far holds the byte
abbrev pub invariant-loop-i : goal.invariant-loop-i
invariant-loop-i l = position_from (on_word l.at) l.i (drop l.i l.windows) ≡ device_at l.windows l.at
