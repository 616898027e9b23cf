use Rattle.spec_machine.proofs.Frame.{steps_framed}
use Rattle.spec_machine.proofs.laws.steps_framed.Goals as goal

pub returns : goal.returns
returns c = steps_framed
