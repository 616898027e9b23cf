use Rattle.sx_rules.proofs.Placing.{admit_keeps_placed}
use Rattle.sx_rules.proofs.laws.admit_keeps_placed.Goals as goal

pub returns : goal.returns
returns c = admit_keeps_placed
