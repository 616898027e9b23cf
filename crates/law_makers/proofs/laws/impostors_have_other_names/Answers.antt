use Rattle.law_makers.proofs.Impostors.{impostors_have_other_names}
use Rattle.law_makers.proofs.laws.impostors_have_other_names.Goals as goal

pub returns : goal.returns
returns c = impostors_have_other_names
