use Rattle.sx_rules.proofs.Placing.{remove_removes}
use Rattle.sx_rules.proofs.laws.remove_removes.Goals as goal

pub returns : goal.returns
returns c = remove_removes
