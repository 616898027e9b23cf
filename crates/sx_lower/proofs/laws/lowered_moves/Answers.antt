use Rattle.sx_lower.proofs.LoweredMoves.{lowered_moves}
use Rattle.sx_lower.proofs.laws.lowered_moves.Goals as goal

pub returns : goal.returns
returns c = lowered_moves
