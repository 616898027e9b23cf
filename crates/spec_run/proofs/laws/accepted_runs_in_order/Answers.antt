use Rattle.sx_model.specs.order.Legal.{LegalInOrder}
use Rattle.spec_run.proofs.RunsInOrder.{runs_in_order}
use Rattle.spec_run.proofs.AcceptedRuns.{of_accepted}
use Rattle.spec_run.proofs.laws.accepted_runs_in_order.Goals as goal

pub returns : goal.returns
returns c = of_accepted LegalInOrder runs_in_order
