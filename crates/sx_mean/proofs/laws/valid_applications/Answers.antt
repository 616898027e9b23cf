use Rattle.sx_mean.proofs.ValidApplications as proved
use Rattle.sx_mean.proofs.laws.valid_applications.Goals as goal

pub returns : goal.returns
returns c = proved.valid_applications
