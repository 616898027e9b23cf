use Rattle.law_isolation.proofs.Guarding.{runs_keep}
use Rattle.law_isolation.proofs.laws.runs_keep.Goals as goal

pub returns : goal.returns
returns c = runs_keep
