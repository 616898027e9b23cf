use Rattle.spec_run.proofs.RunsLegal.{runs_legal}
use Rattle.spec_run.proofs.laws.runs_legal.Goals as goal

pub returns : goal.returns
returns c = runs_legal
