use Rattle.spec_machine.proofs.Keys.{keeps_keys}
use Rattle.spec_machine.proofs.laws.keeps_keys.Goals as goal

pub returns : goal.returns
returns c = keeps_keys
