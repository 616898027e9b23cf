use Rattle.std.proofs.Common.{refl, true}
use Rattle.sx_bus.proofs.Changed.{set_changed}
use Rattle.sx_bus.proofs.devices.sense_one.Goals as goal

pub returns : goal.returns
returns c = set_changed (λ w. record w { value = c.args.value; fresh = true }) c.args.windows.now c.args.device _ _ c.requires refl
