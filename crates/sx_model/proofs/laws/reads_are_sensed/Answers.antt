use Rattle.sx_model.proofs.ReadsAreSensed.{reads_are_sensed}
use Rattle.sx_model.proofs.laws.reads_are_sensed.Goals as goal

pub returns : goal.returns
returns c = reads_are_sensed
