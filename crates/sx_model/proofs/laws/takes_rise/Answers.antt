use Rattle.sx_model.proofs.Rise.{takes_rise}
use Rattle.sx_model.proofs.laws.takes_rise.Goals as goal

pub returns : goal.returns
returns c = takes_rise
