use Rattle.sx_isa.proofs.WithWords.{reads_extended}
use Rattle.sx_isa.proofs.laws.extending.Goals as goal

pub returns : goal.returns
returns c = reads_extended
