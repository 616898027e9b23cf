use Rattle.sx_sched.proofs.Form.{said_in_form}
use Rattle.sx_sched.proofs.laws.said_in_form.Goals as goal

pub returns : goal.returns
returns c = said_in_form
