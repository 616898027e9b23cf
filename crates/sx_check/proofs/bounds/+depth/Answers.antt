use Rattle.std.proofs.Common.{arith, ap}
use Rattle.std.proofs.lemmas.Grind.{common_steps}
use Rattle.sx_check.specs.Bounds.{statement_depth}
use Rattle.sx_check.proofs.bounds.+depth.Goals as goal
use Rattle.sx_lang.proofs.Rows.{if_seen, repeat_seen}

pub depth_in_statement-returns-in-If : goal.depth_in_statement-returns-in-If
depth_in_statement-returns-in-If t c = grind (arith, common_steps, ap statement_depth (if_seen _ c.in-If.field-0 c.in-If.then c.in-If.otherwise c.in-If.is))

pub depth_in_statement-returns-in-Repeat : goal.depth_in_statement-returns-in-Repeat
depth_in_statement-returns-in-Repeat t c = grind (arith, common_steps, ap statement_depth (repeat_seen _ c.in-Repeat.field-0 c.in-Repeat.body c.in-Repeat.is))
