use Rattle.sx_mean.proofs.Scope as proved
use Rattle.sx_mean.proofs.laws.locals_indexed.Goals as goal

pub returns : goal.returns
returns c = proved.locals_indexed
