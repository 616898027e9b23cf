use Rattle.law_connections.proofs.Compiling.{compiled_always}
use Rattle.law_connections.proofs.laws.compiled_always.Goals as goal

pub returns : goal.returns
returns c = compiled_always
