use Rattle.law_invocation.proofs.Keys.{key_returns}
use Rattle.law_invocation.proofs.laws.key_returns.Goals as goal

pub returns : goal.returns
returns c = key_returns
