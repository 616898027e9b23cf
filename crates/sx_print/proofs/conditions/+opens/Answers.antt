use Rattle.std.proofs.Common.{arith, ap}
use Rattle.std.proofs.lemmas.Grind.{common_steps}
use Rattle.sx_print.specs.Printable.{statement_open}
use Rattle.sx_print.proofs.conditions.+opens.Goals as goal
use Rattle.sx_lang.proofs.Rows.{if_seen, repeat_seen}

pub opens_in_statement-returns-then-opens_in_block : goal.opens_in_statement-returns-then-opens_in_block
opens_in_statement-returns-then-opens_in_block t c = grind (arith, common_steps, ap statement_open (if_seen _ c.in-If.e c.in-If.then c.in-If.otherwise c.in-If.is))

pub opens_in_statement-returns-else-opens_in_block : goal.opens_in_statement-returns-else-opens_in_block
opens_in_statement-returns-else-opens_in_block t c = grind (arith, common_steps, ap statement_open (if_seen _ c.in-If.e c.in-If.then c.in-If.otherwise c.in-If.is))

pub opens_in_statement-returns-then-room-gt0-3 : goal.opens_in_statement-returns-then-room-gt0-3
opens_in_statement-returns-then-room-gt0-3 t c = grind (arith, common_steps, ap statement_open (repeat_seen _ c.in-Repeat.field-0 c.in-Repeat.body c.in-Repeat.is))
