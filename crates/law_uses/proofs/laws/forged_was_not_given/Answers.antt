use Rattle.law_uses.proofs.Fresh.{forged_was_not_given}
use Rattle.law_uses.proofs.laws.forged_was_not_given.Goals as goal

pub returns : goal.returns
returns c = forged_was_not_given
