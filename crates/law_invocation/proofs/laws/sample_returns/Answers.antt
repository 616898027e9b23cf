use Rattle.law_invocation.proofs.Samples.{sample_returns}
use Rattle.law_invocation.proofs.laws.sample_returns.Goals as goal

pub returns : goal.returns
returns c = sample_returns
