use Rattle.std.proofs.Common.{sym, arith}
use Rattle.sx_table.proofs.Lengths.{other_values}
use Rattle.sx_table.proofs.boxes.box_has.Goals as goal

pub returns-then-is-values : goal.returns-then-is-values
returns-then-is-values c = sym (other_values c.args.is.now c.args.values.now (λ e. absurd (omega (arith, c.if-is-values.true, e))))
