use Rattle.std.proofs.Common.{◌≡◌, ◌≤◌, ◌==◌, drop}
use Rattle.std.specs.List.{position_from}
use Rattle.spec_run.specs.Setting.{devices_at}
use Rattle.sx_world.proofs.sensors.place_at.Given as goal

abbrev pub invariant-loop-i : goal.invariant-loop-i
invariant-loop-i l = record {
  place : position_from (λ k. k == l.d) l.place (devices_at l.n l.i (drop l.i l.devices)) ≡ position_from (λ k. k == l.d) 0 (devices_at l.n 0 l.devices);
  few : l.place ≤ l.i;
}
