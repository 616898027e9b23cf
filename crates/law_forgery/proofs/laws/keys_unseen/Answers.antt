use Rattle.law_forgery.proofs.Scripts.{keys_unseen}
use Rattle.law_forgery.proofs.laws.keys_unseen.Goals as goal

pub returns : goal.returns
returns c = keys_unseen
