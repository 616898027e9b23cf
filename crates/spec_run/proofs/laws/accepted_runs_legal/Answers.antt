use Rattle.sx_model.specs.Legal.{Legal}
use Rattle.spec_run.proofs.RunsLegal.{runs_legal}
use Rattle.spec_run.proofs.AcceptedRuns.{of_accepted}
use Rattle.spec_run.proofs.laws.accepted_runs_legal.Goals as goal

pub returns : goal.returns
returns c = of_accepted Legal runs_legal
