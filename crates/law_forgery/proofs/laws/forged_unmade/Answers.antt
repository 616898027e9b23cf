use Rattle.law_forgery.proofs.Unmade.{forged_unmade}
use Rattle.law_forgery.proofs.laws.forged_unmade.Goals as goal

pub returns : goal.returns
returns c = forged_unmade
