use Rattle.law_calls.proofs.Budgets.{never_budget}
use Rattle.law_calls.proofs.laws.never_budget.Goals as goal

pub returns : goal.returns
returns c = never_budget
