use Rattle.law_makers.proofs.Looking.{link_makers_see_the_same}
use Rattle.law_makers.proofs.laws.link_makers_see_the_same.Goals as goal

pub returns : goal.returns
returns c = link_makers_see_the_same
