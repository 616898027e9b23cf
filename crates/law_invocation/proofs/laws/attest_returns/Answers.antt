use Rattle.law_invocation.proofs.Attest.{attest_returns}
use Rattle.law_invocation.proofs.laws.attest_returns.Goals as goal

pub returns : goal.returns
returns c = attest_returns
