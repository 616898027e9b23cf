use Rattle.sx_rules.proofs.Placing.{remove_keeps_placed}
use Rattle.sx_rules.proofs.laws.remove_keeps_placed.Goals as goal

pub returns : goal.returns
returns c = remove_keeps_placed
