use Rattle.sx_mean.proofs.Ends as proved
use Rattle.sx_mean.proofs.laws.ends_counted.Goals as goal

pub returns : goal.returns
returns c = proved.ends_counted
