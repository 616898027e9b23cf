use Rattle.law_connections.proofs.Final.{accepted_unseen}
use Rattle.law_connections.proofs.laws.accepted_unseen.Goals as goal

pub returns : goal.returns
returns c = accepted_unseen
