use Rattle.spec_honest.proofs.Computed.{lighting_predicted}
use Rattle.spec_honest.proofs.laws.lighting_predicted.Goals as goal

pub returns : goal.returns
returns c = lighting_predicted
