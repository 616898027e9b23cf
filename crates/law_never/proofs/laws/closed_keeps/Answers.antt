use Rattle.law_never.proofs.ClosedKeeps.{closed_keeps}
use Rattle.law_never.proofs.laws.closed_keeps.Goals as goal

pub returns : goal.returns
returns c = closed_keeps
