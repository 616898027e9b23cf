use Rattle.sx_model.proofs.OutsAreCaused.{outs_are_caused}
use Rattle.sx_model.proofs.laws.outs_are_caused.Goals as goal

pub returns : goal.returns
returns c = outs_are_caused
