use Rattle.sx_mean.proofs.Handlers as proved
use Rattle.sx_mean.proofs.laws.handlers_numbered.Goals as goal

pub returns : goal.returns
returns c = proved.handlers_numbered
