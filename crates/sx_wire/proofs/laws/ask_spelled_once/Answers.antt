use Rattle.sx_wire.proofs.Spelled.{ask_spelled_once}
use Rattle.sx_wire.proofs.laws.ask_spelled_once.Goals as goal

pub returns : goal.returns
returns c = ask_spelled_once
