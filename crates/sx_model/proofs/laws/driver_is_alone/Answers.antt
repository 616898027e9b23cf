use Rattle.sx_model.proofs.Rows.{driver_is_alone}
use Rattle.sx_model.proofs.laws.driver_is_alone.Goals as goal

pub returns : goal.returns
returns c = driver_is_alone
