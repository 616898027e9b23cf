use Rattle.spec_machine.proofs.Boots.{runs_guarded}
use Rattle.spec_machine.proofs.laws.runs_guarded.Goals as goal

pub returns : goal.returns
returns c = runs_guarded
