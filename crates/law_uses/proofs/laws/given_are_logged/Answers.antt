use Rattle.law_uses.proofs.Logged.{given_are_logged}
use Rattle.law_uses.proofs.laws.given_are_logged.Goals as goal

pub returns : goal.returns
returns c = given_are_logged
