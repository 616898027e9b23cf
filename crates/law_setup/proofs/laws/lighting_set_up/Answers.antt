use Rattle.law_setup.proofs.Computed.{lighting_set_up}
use Rattle.law_setup.proofs.laws.lighting_set_up.Goals as goal

pub returns : goal.returns
returns c = lighting_set_up
