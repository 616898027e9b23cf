use Rattle.law_honest.proofs.Driven.{honest_is_driven}
use Rattle.law_honest.proofs.laws.honest_is_driven.Goals as goal

pub returns : goal.returns
returns c = honest_is_driven
