use Rattle.law_rarity.proofs.Placing.{places_unseen}
use Rattle.law_rarity.proofs.laws.places_unseen.Goals as goal

pub returns : goal.returns
returns c = places_unseen
