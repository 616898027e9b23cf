use Rattle.spec_run.proofs.RunsInOrder.{runs_in_order}
use Rattle.spec_run.proofs.laws.runs_in_order.Goals as goal

pub returns : goal.returns
returns c = runs_in_order
