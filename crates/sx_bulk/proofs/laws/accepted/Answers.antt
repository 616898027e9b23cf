use Rattle.sx_bulk.proofs.Accepts as accepts
use Rattle.sx_bulk.proofs.laws.accepted.Goals as goal

pub returns : goal.returns
returns c = accepts.accepted
