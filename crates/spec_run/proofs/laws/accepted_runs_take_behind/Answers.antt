use Rattle.sx_explain.specs.Sending.{TakenBehind}
use Rattle.spec_run.proofs.RunsTakeBehind.{runs_take_behind}
use Rattle.spec_run.proofs.AcceptedRuns.{of_accepted}
use Rattle.spec_run.proofs.laws.accepted_runs_take_behind.Goals as goal

pub returns : goal.returns
returns c = of_accepted TakenBehind runs_take_behind
