use Rattle.sx_rules.proofs.Placing.{placed_found}
use Rattle.sx_rules.proofs.laws.placed_found.Goals as goal

pub returns : goal.returns
returns c = placed_found
