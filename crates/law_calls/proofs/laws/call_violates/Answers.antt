use Rattle.law_calls.proofs.Calling.{call_violates}
use Rattle.law_calls.proofs.laws.call_violates.Goals as goal

pub returns : goal.returns
returns c = call_violates
