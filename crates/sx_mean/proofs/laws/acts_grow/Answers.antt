use Rattle.sx_mean.proofs.ActsGrow as proved
use Rattle.sx_mean.proofs.laws.acts_grow.Goals as goal

pub returns : goal.returns
returns c = proved.acts_grow
