use Rattle.std.proofs.Common.{◌≡◌, drop}
use Rattle.std.specs.Prelude.{slice_index}
use Rattle.spec_run.specs.Setting.{devices_at}
use Rattle.sx_observe.proofs.devices.device_number.Given as goal

abbrev pub invariant-loop-d : goal.invariant-loop-d
invariant-loop-d l = slice_index (devices_at l.n l.d (drop l.d l.devices)) l.left ≡ slice_index (devices_at l.n 0 l.devices) l.k
