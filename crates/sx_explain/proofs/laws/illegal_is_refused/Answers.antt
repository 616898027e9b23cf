use Rattle.sx_explain.proofs.JudgesLegal.{illegal_is_refused}
use Rattle.sx_explain.proofs.laws.illegal_is_refused.Goals as goal

pub returns : goal.returns
returns c = illegal_is_refused
