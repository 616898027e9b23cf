use Rattle.sx_model.proofs.Rows.{renewal_is_legal}
use Rattle.sx_model.proofs.laws.renewal_is_legal.Goals as goal

pub returns : goal.returns
returns c = renewal_is_legal
