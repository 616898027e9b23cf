use Rattle.spec_run.proofs.turns.RunsTakeTurns.{runs_take_turns}
use Rattle.spec_run.proofs.laws.runs_take_turns.Goals as goal

pub returns : goal.returns
returns c = runs_take_turns
