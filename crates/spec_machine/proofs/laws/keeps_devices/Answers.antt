use Rattle.spec_machine.proofs.Stays.{keeps_devices}
use Rattle.spec_machine.proofs.laws.keeps_devices.Goals as goal

pub returns : goal.returns
returns c = keeps_devices
