use Rattle.spec_honest.proofs.Honest.{honest_delivers}
use Rattle.spec_honest.proofs.laws.honest_delivers.Goals as goal

pub returns : goal.returns
returns c = honest_delivers
