use Rattle.spec_machine.proofs.Boots.{boots_count}
use Rattle.spec_machine.proofs.laws.boots_count.Goals as goal

pub returns : goal.returns
returns c = boots_count
