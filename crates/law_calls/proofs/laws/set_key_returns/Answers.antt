use Rattle.law_calls.proofs.KeyGiving.{set_key_returns}
use Rattle.law_calls.proofs.laws.set_key_returns.Goals as goal

pub returns : goal.returns
returns c = set_key_returns
