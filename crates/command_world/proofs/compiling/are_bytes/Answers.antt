use Rattle.std.proofs.Common.{arith}
use Rattle.command_world.proofs.Bytes.{all_fit}
use Rattle.command_world.proofs.compiling.are_bytes.Goals as goal

pub returns : goal.returns
returns c = all_fit c.args.text.now (λ k. let fits = c.type_inv.text k in omega arith)
