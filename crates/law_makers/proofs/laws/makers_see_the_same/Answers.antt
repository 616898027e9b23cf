use Rattle.law_makers.proofs.Making.{makers_see_the_same}
use Rattle.law_makers.proofs.laws.makers_see_the_same.Goals as goal

pub returns : goal.returns
returns c = makers_see_the_same
