use Rattle.law_rarity.proofs.Once.{pads_once}
use Rattle.law_rarity.proofs.laws.pads_once.Goals as goal

pub returns : goal.returns
returns c = pads_once
