use Rattle.spec_run.proofs.RunsTakeBehind.{runs_take_behind}
use Rattle.spec_run.proofs.laws.runs_take_behind.Goals as goal

pub returns : goal.returns
returns c = runs_take_behind
