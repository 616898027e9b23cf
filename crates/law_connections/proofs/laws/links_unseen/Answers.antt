use Rattle.law_connections.proofs.Final.{links_unseen}
use Rattle.law_connections.proofs.laws.links_unseen.Goals as goal

pub returns : goal.returns
returns c = links_unseen
