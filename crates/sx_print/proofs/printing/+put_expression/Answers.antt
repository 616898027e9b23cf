use Rattle.std.proofs.Common.{arith}
use Rattle.std.proofs.lemmas.Grind.{common_steps}
use Rattle.sx_print.proofs.Forms.{indexed_written, combined_written}
use Rattle.sx_print.proofs.printing.+put_expression.Goals as goal

pub returns-in_ok-put_expression-in-At : goal.returns-in_ok-put_expression-in-At
returns-in_ok-put_expression-in-At t c = indexed_written _ _ _
    (grind (arith, common_steps)) c.in_ok-put_name-in-At.ensures c.in_ok-put-in-At.ensures c.in_ok-put_expression-in-At.ensures c.put-in-At.ensures

pub returns-in_ok-put_expression-in-Binary-2 : goal.returns-in_ok-put_expression-in-Binary-2
returns-in_ok-put_expression-in-Binary-2 t c =
    combined_written {op = c.in-Binary.op} _ _ _ (grind (arith, common_steps)) c.binary_sign.ensures c.in_ok-put-in-Binary.ensures
    c.in_ok-put_expression-in-Binary.ensures c.in_ok-put-in-Binary-2.ensures c.in_ok-put_expression-in-Binary-2.ensures c.put-in-Binary-3.ensures
