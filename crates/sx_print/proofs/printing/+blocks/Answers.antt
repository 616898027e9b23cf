use Rattle.std.proofs.Common.{arith}
use Rattle.std.proofs.lemmas.Grind.{common_steps}
use Rattle.sx_lang.specs.Tree.{Sends, Stores}
use Rattle.sx_lang.specs.View.{expression_of}
use Rattle.sx_print.proofs.Forms.{defined_written, assigned_written, chosen_written, repeated_written, seen_written, else_written}
use Rattle.sx_print.proofs.printing.+blocks.Goals as goal
use Rattle.sx_lang.proofs.Rows.{if_seen, repeat_seen}

pub put_else-returns : goal.put_else-returns
put_else-returns t c = else_written _ c.args.depth _ _ (grind (arith, common_steps)) c.in_ok-put.ensures c.in_ok-put-2.ensures c.in_ok-put_block.ensures c.put-4.ensures

pub put_statement-returns-in_ok-put_name-in-Let : goal.put_statement-returns-in_ok-put_name-in-Let
put_statement-returns-in_ok-put_name-in-Let t c = defined_written _ c.args.depth _ _ (grind (arith, common_steps)) c.in_ok-put-in-Let.ensures c.in_ok-put_name-in-Let.ensures c.put_value.ensures

pub put_statement-returns-in_ok-put_name-in-Assign : goal.put_statement-returns-in_ok-put_name-in-Assign
put_statement-returns-in_ok-put_name-in-Assign t c = assigned_written _ c.args.depth _ _ (grind (arith, common_steps)) c.in_ok-put_name-in-Assign.ensures c.put_value-in-Assign.ensures

pub put_statement-returns-in-Element : goal.put_statement-returns-in-Element
put_statement-returns-in-Element t c =
    seen_written _ (Stores c.in-Element.x (expression_of c.in-Element.index) (expression_of c.in-Element.e)) _ c.args.depth _ _ (grind (arith, common_steps)) (c.put_element.ensures c.args.depth)

pub put_statement-returns-in_ok-put_block-in-If : goal.put_statement-returns-in_ok-put_block-in-If
put_statement-returns-in_ok-put_block-in-If t c = chosen_written _ c.args.depth _ _ (if_seen _ c.in-If.e c.in-If.then c.in-If.otherwise c.in-If.is)
    c.in_ok-put-in-If.ensures c.in_ok-put_expression-in-If.ensures c.in_ok-put_block-in-If.ensures c.put_else.ensures

pub put_statement-returns-in_ok-put_block-in-Repeat : goal.put_statement-returns-in_ok-put_block-in-Repeat
put_statement-returns-in_ok-put_block-in-Repeat t c = repeated_written c.args.depth _ _ (repeat_seen _ c.in-Repeat.n c.in-Repeat.body c.in-Repeat.is)
    c.in_ok-put-in-Repeat.ensures c.in_ok-put_number-in-Repeat.ensures c.in_ok-put_block-in-Repeat.ensures c.put-in-Repeat-2.ensures

pub put_statement-returns-in-Send : goal.put_statement-returns-in-Send
put_statement-returns-in-Send t c =
    seen_written _ (Sends c.in-Send.x (expression_of c.in-Send.e)) _ c.args.depth _ _ (grind (arith, common_steps)) (c.put_send.ensures c.args.depth)
