use Rattle.law_forgery.proofs.Unmade.{ledger_tells}
use Rattle.law_forgery.proofs.laws.ledger_tells.Goals as goal

pub returns : goal.returns
returns c = ledger_tells
