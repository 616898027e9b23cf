use Rattle.law_honest.proofs.Driven.{schedule_is_said}
use Rattle.law_honest.proofs.laws.schedule_is_said.Goals as goal

pub returns : goal.returns
returns c = schedule_is_said
