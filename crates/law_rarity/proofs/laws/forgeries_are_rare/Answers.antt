use Rattle.law_rarity.proofs.Rare.{forgeries_are_rare}
use Rattle.law_rarity.proofs.laws.forgeries_are_rare.Goals as goal

pub returns : goal.returns
returns c = forgeries_are_rare
