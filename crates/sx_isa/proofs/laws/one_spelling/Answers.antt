use Rattle.sx_isa.proofs.Spelled.{one_spelling}
use Rattle.sx_isa.proofs.laws.one_spelling.Goals as goal

pub returns : goal.returns
returns c = one_spelling
