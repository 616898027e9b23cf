use Rattle.law_calls.proofs.Four.{input_called}
use Rattle.law_calls.proofs.laws.input_called.Goals as goal

pub returns : goal.returns
returns c = input_called
