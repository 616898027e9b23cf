use Rattle.spec_machine.proofs.Sparse.{shows_interrupt}
use Rattle.spec_machine.proofs.laws.shows_interrupt.Goals as goal

pub returns : goal.returns
returns c = shows_interrupt
