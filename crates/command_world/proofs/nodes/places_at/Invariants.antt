use Rattle.std.specs.Prelude.{◌≡◌, ◌≤◌, ◌-◌, ◌++◌, length, drop}
use Rattle.spec_run.specs.Setting.{windows_at}
use Rattle.command_world.proofs.nodes.places_at.Given as goal

-- the devices so far, and after them those that are left
abbrev pub invariant-devices : goal.invariant-devices
invariant-devices l = record {
  devices : l.i ≤ length l.fn.devices;
  places : l.i ≤ length l.fn.places;
  found : l.found.items ++ windows_at l.number (drop l.i l.fn.devices) (drop l.i l.fn.places) ≡ windows_at l.number l.fn.devices l.fn.places;
}

abbrev pub decreases-devices : goal.decreases-devices
decreases-devices l = length l.fn.devices - l.i
