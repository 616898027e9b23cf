use Rattle.spec_machine.proofs.Stays.{power_on_is_node}
use Rattle.spec_machine.proofs.laws.power_on_is_node.Goals as goal

pub returns : goal.returns
returns c = power_on_is_node
