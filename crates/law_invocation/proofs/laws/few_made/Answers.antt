use Rattle.law_invocation.proofs.Few.{few_made}
use Rattle.law_invocation.proofs.laws.few_made.Goals as goal

pub returns : goal.returns
returns c = few_made
