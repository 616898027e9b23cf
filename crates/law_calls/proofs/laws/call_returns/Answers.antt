use Rattle.law_calls.proofs.Calling.{call_returns}
use Rattle.law_calls.proofs.laws.call_returns.Goals as goal

pub returns : goal.returns
returns c = call_returns
