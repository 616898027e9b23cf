use Rattle.std.proofs.Common.{arith, ap}
use Rattle.std.proofs.lemmas.Grind.{common_steps}
use Rattle.sx_print.specs.Printable.{statement_plain}
use Rattle.sx_print.proofs.conditions.+names.Goals as goal
use Rattle.sx_lang.proofs.Rows.{if_seen, repeat_seen}

pub names_in_statement-returns-then-names_in_block : goal.names_in_statement-returns-then-names_in_block
names_in_statement-returns-then-names_in_block t c = grind (arith, common_steps, ap statement_plain (if_seen _ c.in-If.e c.in-If.then c.in-If.otherwise c.in-If.is))

pub names_in_statement-returns-else-names_in_block : goal.names_in_statement-returns-else-names_in_block
names_in_statement-returns-else-names_in_block t c = grind (arith, common_steps, ap statement_plain (if_seen _ c.in-If.e c.in-If.then c.in-If.otherwise c.in-If.is))

pub names_in_statement-returns-in-Repeat : goal.names_in_statement-returns-in-Repeat
names_in_statement-returns-in-Repeat t c = grind (arith, common_steps, ap statement_plain (repeat_seen _ c.in-Repeat.field-0 c.in-Repeat.body c.in-Repeat.is))
