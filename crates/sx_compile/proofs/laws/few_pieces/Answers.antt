use Rattle.sx_compile.proofs.FewPieces.{few_pieces}
use Rattle.sx_compile.proofs.laws.few_pieces.Goals as goal

pub returns : goal.returns
returns c = few_pieces
