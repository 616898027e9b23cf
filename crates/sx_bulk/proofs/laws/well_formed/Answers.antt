use Rattle.sx_bulk.proofs.WellFormed as good
use Rattle.sx_bulk.proofs.laws.well_formed.Goals as goal

pub returns : goal.returns
returns c = good.well_formed
