use Rattle.sx_asm.proofs.Reassembles.{reassembles}
use Rattle.sx_asm.proofs.laws.reassembles.Goals as goal

pub returns : goal.returns
returns c = reassembles
