use Rattle.std.proofs.Common.{arith}
use Rattle.sx_lang.proofs.Nodes.{if_nodes, repeat_nodes}
use Rattle.sx_lang.proofs.sizes.+nodes.Goals as goal

pub nodes_of_statement-returns-in-If : goal.nodes_of_statement-returns-in-If
nodes_of_statement-returns-in-If t c = grind (arith, if_nodes _ c.in-If.e c.in-If.then c.in-If.otherwise c.in-If.is)

pub nodes_of_statement-returns-in-Repeat : goal.nodes_of_statement-returns-in-Repeat
nodes_of_statement-returns-in-Repeat t c = grind (arith, repeat_nodes _ c.in-Repeat.field-0 c.in-Repeat.body c.in-Repeat.is)
