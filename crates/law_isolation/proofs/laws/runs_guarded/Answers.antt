use Rattle.law_isolation.proofs.Performing.{runs_guarded}
use Rattle.law_isolation.proofs.laws.runs_guarded.Goals as goal

pub returns : goal.returns
returns c = runs_guarded
