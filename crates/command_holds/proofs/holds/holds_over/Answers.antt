use Rattle.command_holds.proofs.Promised.{promised}
use Rattle.command_holds.proofs.holds.holds_over.Goals as goal

pub returns : goal.returns
returns g c = promised c.holds_told.ensures
