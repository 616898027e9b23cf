use Rattle.spec_machine.proofs.Keys.{power_on_has_keys}
use Rattle.spec_machine.proofs.laws.power_on_has_keys.Goals as goal

pub returns : goal.returns
returns c = power_on_has_keys
