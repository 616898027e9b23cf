use Rattle.spec_run.proofs.RunsFinish.{runs_finish}
use Rattle.spec_run.proofs.laws.runs_finish.Goals as goal

pub returns : goal.returns
returns c = runs_finish
