use Rattle.sx_wire.proofs.Spelled.{set_key_spelled_once}
use Rattle.sx_wire.proofs.laws.set_key_spelled_once.Goals as goal

pub returns : goal.returns
returns c = set_key_spelled_once
