use Rattle.law_uses.proofs.Logged.{held_are_logged}
use Rattle.law_uses.proofs.laws.held_are_logged.Goals as goal

pub returns : goal.returns
returns c = held_are_logged
