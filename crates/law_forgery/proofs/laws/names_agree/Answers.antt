use Rattle.law_forgery.proofs.Naming.{names_agree}
use Rattle.law_forgery.proofs.laws.names_agree.Goals as goal

pub returns : goal.returns
returns c = names_agree
