use Rattle.sx_rules.proofs.Placing.{placed_holds}
use Rattle.sx_rules.proofs.laws.placed_holds.Goals as goal

pub returns : goal.returns
returns c = placed_holds
