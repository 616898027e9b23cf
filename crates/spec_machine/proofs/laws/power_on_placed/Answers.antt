use Rattle.sx_rules.proofs.Placing.{starts_placed}
use Rattle.spec_machine.proofs.laws.power_on_placed.Goals as goal

pub returns : goal.returns
returns c = λ key devices. starts_placed
