use Rattle.spec_machine.proofs.Frame.{interrupts_framed}
use Rattle.spec_machine.proofs.laws.interrupts_framed.Goals as goal

pub returns : goal.returns
returns c = interrupts_framed
