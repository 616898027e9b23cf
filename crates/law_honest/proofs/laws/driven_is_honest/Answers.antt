use Rattle.law_honest.proofs.Driven.{driven_is_honest}
use Rattle.law_honest.proofs.laws.driven_is_honest.Goals as goal

pub returns : goal.returns
returns c = driven_is_honest
