use Rattle.spec_invocation.proofs.UnwrapsOnce.{unwraps_once}
use Rattle.spec_invocation.proofs.laws.unwraps_once.Goals as goal

pub returns : goal.returns
returns c = unwraps_once
