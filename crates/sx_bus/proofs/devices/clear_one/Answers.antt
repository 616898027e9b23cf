use Rattle.std.proofs.Common.{refl}
use Rattle.sx_bus.specs.Devices.{stale}
use Rattle.sx_bus.proofs.Changed.{set_changed}
use Rattle.sx_bus.proofs.devices.clear_one.Goals as goal

pub returns : goal.returns
returns c = set_changed stale c.args.windows.now c.args.device _ _ c.requires refl
