use Rattle.law_uses.proofs.Whole.{sizes_are_alike}
use Rattle.law_uses.proofs.laws.sizes_are_alike.Goals as goal

pub returns : goal.returns
returns c = sizes_are_alike
