use Rattle.law_rarity.proofs.Erring.{accepted_seldom_errs}
use Rattle.law_rarity.proofs.laws.accepted_seldom_errs.Goals as goal

pub returns : goal.returns
returns c = accepted_seldom_errs
