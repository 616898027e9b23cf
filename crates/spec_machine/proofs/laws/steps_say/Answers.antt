use Rattle.spec_machine.proofs.Meanings.{steps_say}
use Rattle.spec_machine.proofs.laws.steps_say.Goals as goal

pub returns : goal.returns
returns c = steps_say
