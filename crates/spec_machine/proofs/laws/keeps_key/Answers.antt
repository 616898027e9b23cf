use Rattle.spec_machine.proofs.Stays.{keeps_key}
use Rattle.spec_machine.proofs.laws.keeps_key.Goals as goal

pub returns : goal.returns
returns c = keeps_key
