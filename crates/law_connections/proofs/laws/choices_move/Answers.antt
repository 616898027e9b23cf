use Rattle.law_connections.proofs.Choosing.{choices_move}
use Rattle.law_connections.proofs.laws.choices_move.Goals as goal

pub returns : goal.returns
returns c = choices_move
