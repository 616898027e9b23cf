use Rattle.law_makers.proofs.Making.{distinguisher_is_run}
use Rattle.law_makers.proofs.laws.distinguisher_is_run.Goals as goal

pub returns : goal.returns
returns c = distinguisher_is_run
