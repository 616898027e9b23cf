use Rattle.law_uses.proofs.Fresh.{unmade_was_not_given}
use Rattle.law_uses.proofs.laws.unmade_was_not_given.Goals as goal

pub returns : goal.returns
returns c = unmade_was_not_given
