use Rattle.sx_wire.proofs.Spelled.{event_spelled_once}
use Rattle.sx_wire.proofs.laws.event_spelled_once.Goals as goal

pub returns : goal.returns
returns c = event_spelled_once
