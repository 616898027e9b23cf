use Rattle.sx_model.proofs.order.OrderIsKept.{order_is_kept}
use Rattle.sx_model.proofs.laws.order_is_kept.Goals as goal

pub returns : goal.returns
returns c = order_is_kept
