use Rattle.law_invocation.proofs.Inputs.{input_returns}
use Rattle.law_invocation.proofs.laws.input_returns.Goals as goal

pub returns : goal.returns
returns c = input_returns
