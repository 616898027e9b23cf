-- In every run what handlers emit before they send was put out before the word is taken.
use Rattle.std.proofs.Common.{arith}
use Rattle.sx_model.specs.Legal.{before}
use Rattle.spec_run.specs.State.{switched_on}
use Rattle.spec_run.specs.Run.{run}
use Rattle.spec_run.specs.OrderLaw.{RunsTakeBehind}
use Rattle.spec_run.proofs.RunsInOrder.{runs_in_order}
use Rattle.sx_explain.proofs.TakesBehind.{in_order_takes_behind}

pub runs_take_behind : RunsTakeBehind
runs_take_behind set sound lines few form =
    in_order_takes_behind set.app (before (run set (switched_on set) lines).items) (omega (arith, sound.links)) (runs_in_order set sound lines few form)
