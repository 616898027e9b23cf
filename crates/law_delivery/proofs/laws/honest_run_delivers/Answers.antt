use Rattle.law_delivery.proofs.Joined.{honest_run_delivers}
use Rattle.law_delivery.proofs.laws.honest_run_delivers.Goals as goal

pub returns : goal.returns
returns c = honest_run_delivers
