use Rattle.std.proofs.Common.{refl}
use Rattle.sx_isa.specs.Reading.{instruction_at}
use Rattle.sx_executor.proofs.shortcut.Shortcut.idle.Goals as goal

pub invariant_of-result : goal.invariant_of-result
unfolding instruction_at
invariant_of-result c = record { read = refl; fit = refl; plain = refl }
