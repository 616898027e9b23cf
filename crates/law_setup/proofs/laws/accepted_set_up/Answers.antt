use Rattle.law_setup.proofs.Accepting.{accepted_set_up}
use Rattle.law_setup.proofs.laws.accepted_set_up.Goals as goal

pub returns : goal.returns
returns c = accepted_set_up
