use Rattle.sx_model.proofs.Rows.{events_are_taken}
use Rattle.sx_model.proofs.laws.events_are_taken.Goals as goal

pub returns : goal.returns
returns c = events_are_taken
