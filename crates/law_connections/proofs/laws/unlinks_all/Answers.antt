use Rattle.law_connections.proofs.Finding.{unlinks_all}
use Rattle.law_connections.proofs.laws.unlinks_all.Goals as goal

pub returns : goal.returns
returns c = unlinks_all
