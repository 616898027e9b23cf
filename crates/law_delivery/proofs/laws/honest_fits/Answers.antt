use Rattle.law_delivery.proofs.Fitting.{honest_fits}
use Rattle.law_delivery.proofs.laws.honest_fits.Goals as goal

pub returns : goal.returns
returns c = honest_fits
