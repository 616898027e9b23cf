use Rattle.sx_model.proofs.order.Sides.{in_order_is_legal}
use Rattle.sx_model.proofs.laws.in_order_is_legal.Goals as goal

pub returns : goal.returns
returns c = in_order_is_legal
