use Rattle.sx_lower.proofs.Reacts.{lowered_fits}
use Rattle.sx_lower.proofs.laws.lowered_fits.Goals as goal

pub returns : goal.returns
returns c = lowered_fits
