use Rattle.std.proofs.Common.{◌≤◌}
use Rattle.sx_executor.proofs.home.after_devices.Given as goal

abbrev pub invariant-loop-place : goal.invariant-loop-place
invariant-loop-place l = l.from ≤ l.start
