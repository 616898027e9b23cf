use Rattle.spec_run.proofs.turns.RunsAreGiven.{runs_are_given}
use Rattle.spec_run.proofs.laws.runs_are_given.Goals as goal

pub returns : goal.returns
returns c = runs_are_given
