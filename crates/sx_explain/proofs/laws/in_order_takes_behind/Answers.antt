use Rattle.sx_explain.proofs.TakesBehind.{in_order_takes_behind}
use Rattle.sx_explain.proofs.laws.in_order_takes_behind.Goals as goal

pub returns : goal.returns
returns c = in_order_takes_behind
