use Rattle.law_isolation.proofs.Guarding.{runs_blind}
use Rattle.law_isolation.proofs.laws.runs_blind.Goals as goal

pub returns : goal.returns
returns c = runs_blind
