use Rattle.sx_rules.proofs.Placing.{starts_placed}
use Rattle.sx_rules.proofs.laws.starts_placed.Goals as goal

pub returns : goal.returns
returns c = starts_placed
