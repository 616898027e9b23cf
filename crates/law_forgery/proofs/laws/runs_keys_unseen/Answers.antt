use Rattle.law_forgery.proofs.Scripts.{runs_keys_unseen}
use Rattle.law_forgery.proofs.laws.runs_keys_unseen.Goals as goal

pub returns : goal.returns
returns c = runs_keys_unseen
