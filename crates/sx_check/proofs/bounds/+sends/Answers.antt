use Rattle.std.proofs.Common.{arith, ap}
use Rattle.std.proofs.lemmas.Grind.{common_steps}
use Rattle.sx_check.specs.Bounds.{statement_sends_by}
use Rattle.sx_check.proofs.Turns.{sends_cut}
use Rattle.sx_check.proofs.bounds.+sends.Goals as goal
use Rattle.sx_lang.proofs.Rows.{if_seen, repeat_seen}

pub sends_in_statement-returns-in-If : goal.sends_in_statement-returns-in-If
sends_in_statement-returns-in-If t c = grind (arith, common_steps, ap (statement_sends_by (λ x. 1)) (if_seen _ c.in-If.field-0 c.in-If.then c.in-If.otherwise c.in-If.is))

pub sends_in_statement-returns-in-Repeat : goal.sends_in_statement-returns-in-Repeat
sends_in_statement-returns-in-Repeat t c = grind (arith, common_steps, sends_cut, ap (statement_sends_by (λ x. 1)) (repeat_seen _ c.in-Repeat.n c.in-Repeat.body c.in-Repeat.is))
