use Rattle.law_rarity.proofs.Erring.{forgers_are_told}
use Rattle.law_rarity.proofs.laws.forgers_are_told.Goals as goal

pub returns : goal.returns
returns c = forgers_are_told
