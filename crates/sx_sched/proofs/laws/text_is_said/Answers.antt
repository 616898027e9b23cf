use Rattle.sx_sched.proofs.SaidTexts.{text_is_said}
use Rattle.sx_sched.proofs.laws.text_is_said.Goals as goal

pub returns : goal.returns
returns c = text_is_said
