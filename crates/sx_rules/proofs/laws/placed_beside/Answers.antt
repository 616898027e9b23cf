use Rattle.sx_rules.proofs.Placing.{placed_beside}
use Rattle.sx_rules.proofs.laws.placed_beside.Goals as goal

pub returns : goal.returns
returns c = placed_beside
