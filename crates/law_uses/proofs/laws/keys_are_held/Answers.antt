use Rattle.law_uses.proofs.Whole.{keys_are_held}
use Rattle.law_uses.proofs.laws.keys_are_held.Goals as goal

pub returns : goal.returns
returns c = keys_are_held
