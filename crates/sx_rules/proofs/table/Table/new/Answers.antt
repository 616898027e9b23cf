use Rattle.std.proofs.Common.{arith}
use Rattle.sx_rules.specs.Unused.{unused}
use Rattle.sx_rules.proofs.Away.{all_alike}
use Rattle.sx_rules.proofs.table.Table.new.Goals as goal

pub invariant_of-result : goal.invariant_of-result
invariant_of-result c = (omega arith, omega arith, λ i h. all_alike 8 i unused, λ page h. all_alike 256 page 0)
