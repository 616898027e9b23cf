use Rattle.law_rarity.proofs.Names.{named_has_names}
use Rattle.law_rarity.proofs.laws.named_has_names.Goals as goal

pub returns : goal.returns
returns c = named_has_names
