use Rattle.sx_model.specs.order.Turns.{OneAtATime}
use Rattle.spec_run.proofs.turns.RunsTakeTurns.{runs_take_turns}
use Rattle.spec_run.proofs.AcceptedRuns.{of_accepted}
use Rattle.spec_run.proofs.laws.accepted_runs_take_turns.Goals as goal

pub returns : goal.returns
returns c = of_accepted OneAtATime runs_take_turns
