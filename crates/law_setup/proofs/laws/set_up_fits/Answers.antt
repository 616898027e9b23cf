use Rattle.law_setup.proofs.Counting.{set_up_fits}
use Rattle.law_setup.proofs.laws.set_up_fits.Goals as goal

pub returns : goal.returns
returns c = set_up_fits
