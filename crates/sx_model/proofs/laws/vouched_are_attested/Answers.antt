use Rattle.sx_model.proofs.Rows.{vouched_are_attested}
use Rattle.sx_model.proofs.laws.vouched_are_attested.Goals as goal

pub returns : goal.returns
returns c = vouched_are_attested
