use Rattle.law_calls.proofs.Four.{attest_called}
use Rattle.law_calls.proofs.laws.attest_called.Goals as goal

pub returns : goal.returns
returns c = attest_called
