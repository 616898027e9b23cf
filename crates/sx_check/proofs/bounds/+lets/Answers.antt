use Rattle.std.proofs.Common.{arith, ap, length}
use Rattle.std.proofs.lemmas.Grind.{common_steps}
use Rattle.sx_check.specs.Names.{statement_lets}
use Rattle.std.proofs.lemmas.List.{length-append}
use Rattle.sx_check.proofs.bounds.+lets.Goals as goal
use Rattle.sx_lang.proofs.Rows.{if_seen, repeat_seen}

pub lets_in_statement-returns-in-If : goal.lets_in_statement-returns-in-If
lets_in_statement-returns-in-If t c = grind (arith, common_steps, length-append, ap (λ s. length (statement_lets s)) (if_seen _ c.in-If.field-0 c.in-If.then c.in-If.otherwise c.in-If.is))

pub lets_in_statement-returns-in-Repeat : goal.lets_in_statement-returns-in-Repeat
lets_in_statement-returns-in-Repeat t c = grind (arith, common_steps, ap (λ s. length (statement_lets s)) (repeat_seen _ c.in-Repeat.field-0 c.in-Repeat.body c.in-Repeat.is))
