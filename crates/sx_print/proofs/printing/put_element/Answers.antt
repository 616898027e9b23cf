use Rattle.std.proofs.Common.{refl}
use Rattle.sx_print.proofs.Forms.{stored_written}
use Rattle.sx_print.proofs.printing.put_element.Goals as goal

pub returns : goal.returns
returns c = λ depth. stored_written _ depth _ _ refl c.in_ok-put_name.ensures c.in_ok-put.ensures c.in_ok-put_expression.ensures c.in_ok-put-2.ensures c.put_value.ensures
