use Rattle.law_calls.proofs.Budgets.{callable_in_runs}
use Rattle.law_calls.proofs.laws.callable_in_runs.Goals as goal

pub returns : goal.returns
returns c = callable_in_runs
