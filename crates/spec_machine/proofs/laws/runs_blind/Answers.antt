use Rattle.spec_machine.proofs.RunGuard.{runs_blind}
use Rattle.spec_machine.proofs.laws.runs_blind.Goals as goal

pub returns : goal.returns
returns c = runs_blind
