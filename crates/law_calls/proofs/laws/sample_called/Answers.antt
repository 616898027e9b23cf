use Rattle.law_calls.proofs.Four.{sample_called}
use Rattle.law_calls.proofs.laws.sample_called.Goals as goal

pub returns : goal.returns
returns c = sample_called
