use Rattle.law_delivery.proofs.Accepted.{accepted_run_delivers}
use Rattle.law_delivery.proofs.laws.accepted_run_delivers.Goals as goal

pub returns : goal.returns
returns c = accepted_run_delivers
