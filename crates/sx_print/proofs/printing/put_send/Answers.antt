use Rattle.std.proofs.Common.{refl}
use Rattle.sx_print.proofs.Forms.{sent_written}
use Rattle.sx_print.proofs.printing.put_send.Goals as goal

pub returns : goal.returns
returns c = λ depth. sent_written depth _ _ refl c.in_ok-put.ensures c.in_ok-put_name.ensures c.in_ok-put-2.ensures c.in_ok-put_expression.ensures c.in_ok-put-3.ensures c.put-4.ensures
