use Rattle.sx_model.proofs.Rise.{opens_rise}
use Rattle.sx_model.proofs.laws.opens_rise.Goals as goal

pub returns : goal.returns
returns c = opens_rise
