use Rattle.spec_machine.proofs.Attribution.{attributes_interrupt}
use Rattle.spec_machine.proofs.laws.attributes_interrupt.Goals as goal

pub returns : goal.returns
returns c = attributes_interrupt
