use Rattle.sx_lower.proofs.Reacts.{lowered_reacts}
use Rattle.sx_lower.proofs.laws.lowered_reacts.Goals as goal

pub returns : goal.returns
returns c = lowered_reacts
