use Rattle.std.proofs.Common.{arith, ap}
use Rattle.std.proofs.lemmas.Grind.{common_steps}
use Rattle.sx_check.specs.Bounds.{statement_emits}
use Rattle.sx_check.proofs.bounds.+emits.Goals as goal
use Rattle.sx_lang.proofs.Rows.{if_seen, repeat_seen}

pub emits_in_statement-returns-then-emits_in_block : goal.emits_in_statement-returns-then-emits_in_block
emits_in_statement-returns-then-emits_in_block t c = grind (arith, common_steps, ap statement_emits (if_seen _ c.in-If.field-0 c.in-If.then c.in-If.otherwise c.in-If.is))

pub emits_in_statement-returns-else-emits_in_block : goal.emits_in_statement-returns-else-emits_in_block
emits_in_statement-returns-else-emits_in_block t c = grind (arith, common_steps, ap statement_emits (if_seen _ c.in-If.field-0 c.in-If.then c.in-If.otherwise c.in-If.is))

pub emits_in_statement-returns-in-Repeat : goal.emits_in_statement-returns-in-Repeat
emits_in_statement-returns-in-Repeat t c = grind (arith, common_steps, ap statement_emits (repeat_seen _ c.in-Repeat.field-0 c.in-Repeat.body c.in-Repeat.is))
