use Rattle.law_uses.proofs.Hit.{forged_is_hit}
use Rattle.law_uses.proofs.laws.forged_is_hit.Goals as goal

pub returns : goal.returns
returns c = forged_is_hit
