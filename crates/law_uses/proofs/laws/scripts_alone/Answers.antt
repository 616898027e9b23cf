use Rattle.law_uses.proofs.Whole.{scripts_alone}
use Rattle.law_uses.proofs.laws.scripts_alone.Goals as goal

pub returns : goal.returns
returns c = scripts_alone
