use Rattle.law_connections.proofs.Guessing.{keys_found}
use Rattle.law_connections.proofs.laws.keys_found.Goals as goal

pub returns : goal.returns
returns c = keys_found
