use Rattle.law_uses.proofs.Whole.{keys_unseen_so}
use Rattle.law_uses.proofs.laws.keys_unseen_so.Goals as goal

pub returns : goal.returns
returns c = keys_unseen_so
