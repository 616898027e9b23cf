use Rattle.sx_mean.proofs.Words as proved
use Rattle.sx_mean.proofs.laws.cells_begin.Goals as goal

pub returns : goal.returns
returns c = proved.cells_begin
