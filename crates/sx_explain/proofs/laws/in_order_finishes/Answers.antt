use Rattle.sx_explain.proofs.Finishes.{in_order_finishes}
use Rattle.sx_explain.proofs.laws.in_order_finishes.Goals as goal

pub returns : goal.returns
returns c = in_order_finishes
