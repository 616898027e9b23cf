use Rattle.spec_machine.proofs.Sections.{stays_placed}
use Rattle.spec_machine.proofs.laws.stays_placed.Goals as goal

pub returns : goal.returns
returns c = stays_placed
