use Rattle.law_connections.proofs.Worked.{lighting_meets}
use Rattle.law_connections.proofs.laws.lighting_meets.Goals as goal

pub returns : goal.returns
returns c = lighting_meets
