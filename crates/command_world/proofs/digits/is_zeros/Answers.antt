use Rattle.std.proofs.Common.{sym, ◌∙◌}
use Rattle.command_world.proofs.Blocks.{zeros}
use Rattle.command_world.proofs.digits.is_zeros.Goals as goal

pub returns : goal.returns
returns c = λ h. zeros c.args.block.now c.requires (sym c.eq.ensures ∙ h)
