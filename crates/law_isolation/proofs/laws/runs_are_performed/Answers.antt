use Rattle.law_isolation.proofs.Performing.{runs_are_performed}
use Rattle.law_isolation.proofs.laws.runs_are_performed.Goals as goal

pub returns : goal.returns
returns c = runs_are_performed
