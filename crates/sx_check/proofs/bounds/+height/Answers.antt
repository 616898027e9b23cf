use Rattle.std.proofs.Common.{arith, ap}
use Rattle.std.proofs.lemmas.Grind.{common_steps}
use Rattle.sx_check.specs.Bounds.{statement_height}
use Rattle.sx_check.proofs.bounds.+height.Goals as goal
use Rattle.sx_lang.proofs.Rows.{if_seen, repeat_seen}

pub height_in_statement-returns-in-If : goal.height_in_statement-returns-in-If
height_in_statement-returns-in-If t c = grind (arith, common_steps, ap statement_height (if_seen _ c.in-If.e c.in-If.then c.in-If.otherwise c.in-If.is))

pub height_in_statement-returns-in-Repeat : goal.height_in_statement-returns-in-Repeat
height_in_statement-returns-in-Repeat t c = grind (arith, common_steps, ap statement_height (repeat_seen _ c.in-Repeat.field-0 c.in-Repeat.body c.in-Repeat.is))
