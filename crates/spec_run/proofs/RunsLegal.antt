-- Every run is legal.
use Rattle.std.proofs.Common.{arith}
use Rattle.sx_model.specs.Legal.{before}
use Rattle.sx_model.proofs.order.Sides.{in_order_is_legal}
use Rattle.spec_run.specs.State.{switched_on}
use Rattle.spec_run.specs.Run.{run}
use Rattle.spec_run.specs.Law.{RunsLegal}
use Rattle.spec_run.proofs.RunsInOrder.{runs_in_order}

pub runs_legal : RunsLegal
runs_legal set sound lines few form =
    in_order_is_legal set.app (before (run set (switched_on set) lines).items) (omega (arith, sound.links)) (runs_in_order set sound lines few form)
