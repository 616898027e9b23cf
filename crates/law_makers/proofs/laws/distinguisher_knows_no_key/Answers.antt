use Rattle.law_makers.proofs.Making.{distinguisher_knows_no_key}
use Rattle.law_makers.proofs.laws.distinguisher_knows_no_key.Goals as goal

pub returns : goal.returns
returns c = distinguisher_knows_no_key
