use Rattle.sx_asm.proofs.Forms.{source_true, source_test, destination_true, destination_test}
use Rattle.sx_asm.proofs.laws.operands.Goals as goal

pub returns : goal.returns
returns c o w = ((source_true o w, source_test o), (destination_true o w, destination_test o))
