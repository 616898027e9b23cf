use Rattle.law_calls.proofs.GoingOn.{marks_go_on}
use Rattle.law_calls.proofs.laws.marks_go_on.Goals as goal

pub returns : goal.returns
returns c = marks_go_on
