use Rattle.law_makers.proofs.Impostors.{names_are_unlawful}
use Rattle.law_makers.proofs.laws.names_are_unlawful.Goals as goal

pub returns : goal.returns
returns c = names_are_unlawful
