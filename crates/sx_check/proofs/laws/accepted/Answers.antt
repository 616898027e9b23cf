use Rattle.sx_check.proofs.Accepted as proved
use Rattle.sx_check.proofs.laws.accepted.Goals as goal

pub returns : goal.returns
returns c = proved.accepted
