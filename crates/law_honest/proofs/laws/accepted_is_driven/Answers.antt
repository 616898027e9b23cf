use Rattle.law_honest.proofs.Accepted.{accepted_is_driven}
use Rattle.law_honest.proofs.laws.accepted_is_driven.Goals as goal

pub returns : goal.returns
returns c = accepted_is_driven
