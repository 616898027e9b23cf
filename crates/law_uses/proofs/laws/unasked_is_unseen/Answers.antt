use Rattle.law_uses.proofs.Unasked.{unasked_is_unseen}
use Rattle.law_uses.proofs.laws.unasked_is_unseen.Goals as goal

pub returns : goal.returns
returns c = unasked_is_unseen
