use Rattle.spec_machine.proofs.Stays.{stays_node}
use Rattle.spec_machine.proofs.laws.stays_node.Goals as goal

pub returns : goal.returns
returns c = stays_node
