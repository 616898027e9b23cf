use Rattle.command_batch.proofs.Answered.{answers_are_runs}
use Rattle.command_batch.proofs.laws.answers_are_runs.Goals as goal

pub returns : goal.returns
returns c = answers_are_runs
