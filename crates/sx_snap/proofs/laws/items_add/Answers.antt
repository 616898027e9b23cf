use Rattle.sx_snap.proofs.Adding.{items_add}
use Rattle.sx_snap.proofs.laws.items_add.Goals as goal

pub returns : goal.returns
returns c = items_add
