use Rattle.sx_explain.proofs.JudgesLegal.{judges_legal}
use Rattle.sx_explain.proofs.laws.judges_legal.Goals as goal

pub returns : goal.returns
returns c = judges_legal
