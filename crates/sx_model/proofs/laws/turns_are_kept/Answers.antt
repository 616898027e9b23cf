use Rattle.sx_model.proofs.order.TurnsAreKept.{turns_are_kept}
use Rattle.sx_model.proofs.laws.turns_are_kept.Goals as goal

pub returns : goal.returns
returns c = turns_are_kept
