use Rattle.sx_tag.proofs.UnwrapsWrapped.{unwraps_wrapped}
use Rattle.sx_tag.proofs.laws.unwraps_wrapped.Goals as goal

pub returns : goal.returns
returns c = unwraps_wrapped
