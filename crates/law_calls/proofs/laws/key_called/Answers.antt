use Rattle.law_calls.proofs.Four.{key_called}
use Rattle.law_calls.proofs.laws.key_called.Goals as goal

pub returns : goal.returns
returns c = key_called
