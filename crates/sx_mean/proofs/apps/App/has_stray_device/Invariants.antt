use Rattle.std.proofs.Common.{◌≡◌, drop}
use Rattle.std.specs.List.{list_any}
use Rattle.sx_mean.specs.Validity.{is_stray}
use Rattle.sx_mean.specs.View.{app_as}
use Rattle.sx_mean.proofs.apps.App.has_stray_device.Given as goal

abbrev pub invariant-loop-d : goal.invariant-loop-d
invariant-loop-d l = list_any (is_stray (app_as l.self)) (drop l.d-index l.self.devices.items) ≡ list_any (is_stray (app_as l.self)) l.self.devices.items
