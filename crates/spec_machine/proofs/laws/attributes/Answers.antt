use Rattle.spec_machine.proofs.Attribution.{attributes}
use Rattle.spec_machine.proofs.laws.attributes.Goals as goal

pub returns : goal.returns
returns c = attributes
