use Rattle.spec_machine.proofs.Boots.{runs_keep}
use Rattle.spec_machine.proofs.laws.runs_keep.Goals as goal

pub returns : goal.returns
returns c = runs_keep
