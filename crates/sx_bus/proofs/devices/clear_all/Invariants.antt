use Rattle.std.proofs.Common.{◌≡◌, ◌++◌, take, drop}
use Rattle.sx_bus.specs.Devices.{all_stale}
use Rattle.sx_bus.proofs.devices.clear_all.Given as goal

-- the devices so far are done
abbrev pub invariant-loop-window : goal.invariant-loop-window
invariant-loop-window l = take l.window-index l.windows ++ all_stale (drop l.window-index l.windows) ≡ all_stale l.initial.windows
