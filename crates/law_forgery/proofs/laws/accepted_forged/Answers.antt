use Rattle.law_forgery.proofs.Unmade.{accepted_forged}
use Rattle.law_forgery.proofs.laws.accepted_forged.Goals as goal

pub returns : goal.returns
returns c = accepted_forged
