use Rattle.law_rarity.proofs.Erring.{distinguisher_seldom_errs}
use Rattle.law_rarity.proofs.laws.distinguisher_seldom_errs.Goals as goal

pub returns : goal.returns
returns c = distinguisher_seldom_errs
