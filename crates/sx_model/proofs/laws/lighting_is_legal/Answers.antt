use Rattle.sx_model.proofs.Rows.{lighting_is_legal}
use Rattle.sx_model.proofs.laws.lighting_is_legal.Goals as goal

pub returns : goal.returns
returns c = lighting_is_legal
