use Rattle.law_uses.proofs.Whole.{runs_alone}
use Rattle.law_uses.proofs.laws.runs_alone.Goals as goal

pub returns : goal.returns
returns c = runs_alone
