use Rattle.command_asm.proofs.AsmPromised.{asm_promise}
use Rattle.command_asm.proofs.assembling.asm_over.Goals as goal

pub returns : goal.returns
returns g c = asm_promise c.args.at c.asm_told.ensures
