use Rattle.law_uses.proofs.Whole.{agreeing_answer_alike}
use Rattle.law_uses.proofs.laws.agreeing_answer_alike.Goals as goal

pub returns : goal.returns
returns c = agreeing_answer_alike
