use Rattle.sx_model.proofs.Rows.{done_needs_emits}
use Rattle.sx_model.proofs.laws.done_needs_emits.Goals as goal

pub returns : goal.returns
returns c = done_needs_emits
