use Rattle.spec_machine.proofs.Sparse.{shows_touches}
use Rattle.spec_machine.proofs.laws.shows_touches.Goals as goal

pub returns : goal.returns
returns c = shows_touches
