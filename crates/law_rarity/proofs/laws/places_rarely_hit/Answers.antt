use Rattle.law_rarity.proofs.Using.{places_rarely_hit}
use Rattle.law_rarity.proofs.laws.places_rarely_hit.Goals as goal

pub returns : goal.returns
returns c = places_rarely_hit
