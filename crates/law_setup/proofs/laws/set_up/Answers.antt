use Rattle.law_setup.proofs.SetUp.{set_up}
use Rattle.law_setup.proofs.laws.set_up.Goals as goal

pub returns : goal.returns
returns c = set_up
