use Rattle.law_uses.proofs.Alone.{uses_alone}
use Rattle.law_uses.proofs.laws.uses_alone.Goals as goal

pub returns : goal.returns
returns c = uses_alone
