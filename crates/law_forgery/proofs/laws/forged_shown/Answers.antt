use Rattle.law_forgery.proofs.Unmade.{forged_shown}
use Rattle.law_forgery.proofs.laws.forged_shown.Goals as goal

pub returns : goal.returns
returns c = forged_shown
