use Rattle.sx_print.proofs.Forms.{event_written}
use Rattle.sx_print.proofs.printing.put_event.Goals as goal

pub returns-in_ok-put-in-Some : goal.returns-in_ok-put-in-Some
returns-in_ok-put-in-Some c = event_written _ _ c.in-Some.is c.in_ok-put-in-Some.ensures c.put_name.ensures
