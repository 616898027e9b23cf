use Rattle.std.specs.Prelude.{All}
use Rattle.sx_model.specs.order.Given.{IsGiven}
use Rattle.spec_run.proofs.turns.RunsAreGiven.{runs_are_given}
use Rattle.spec_run.proofs.AcceptedRuns.{of_accepted}
use Rattle.spec_run.proofs.laws.accepted_runs_are_given.Goals as goal

pub returns : goal.returns
returns c = of_accepted (λ app items. All IsGiven items) runs_are_given
