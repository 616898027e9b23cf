use Rattle.sx_lang.specs.View.{handler_of}
use Rattle.sx_print.proofs.Forms.{handler_written}
use Rattle.sx_print.proofs.printing.put_handler.Goals as goal

pub returns : goal.returns
returns c = handler_written (handler_of c.args.h.now) _ _ c.in_ok-put_event.ensures c.in_ok-put.ensures c.in_ok-put_name.ensures c.in_ok-put-2.ensures c.in_ok-put_block.ensures c.put-3.ensures
