use Rattle.law_counting.proofs.Meeting.{few_meet}
use Rattle.law_counting.proofs.laws.few_meet.Goals as goal

pub returns : goal.returns
returns c = few_meet
