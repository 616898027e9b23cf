use Rattle.law_rarity.proofs.Covering.{all_have_boots}
use Rattle.law_rarity.proofs.laws.all_have_boots.Goals as goal

pub returns : goal.returns
returns c = all_have_boots
