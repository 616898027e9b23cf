use Rattle.sx_compile.proofs.ZerosInitial.{zeros_initial}
use Rattle.sx_compile.proofs.laws.zeros_initial.Goals as goal

pub returns : goal.returns
returns c = zeros_initial
