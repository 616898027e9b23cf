use Rattle.std.proofs.Common.{sym, arith}
use Rattle.sx_table.proofs.Lengths.{other_box}
use Rattle.sx_table.proofs.boxes.box_within.Goals as goal

pub returns-then-is-js : goal.returns-then-is-js
returns-then-is-js c = sym (other_box c.args.is.now c.args.js.now (λ e. absurd (omega (arith, c.if-is-js.true, e))))
