use Rattle.sx_explain.specs.Finished.{EventsAreFinished}
use Rattle.spec_run.proofs.RunsFinish.{runs_finish}
use Rattle.spec_run.proofs.AcceptedRuns.{of_accepted}
use Rattle.spec_run.proofs.laws.accepted_runs_finish.Goals as goal

pub returns : goal.returns
returns c = of_accepted EventsAreFinished runs_finish
