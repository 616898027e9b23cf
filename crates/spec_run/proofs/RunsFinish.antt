-- In every run each event is finished before its node shows anything else.
use Rattle.sx_model.specs.Legal.{before}
use Rattle.spec_run.specs.State.{switched_on}
use Rattle.spec_run.specs.Run.{run}
use Rattle.spec_run.specs.OrderLaw.{RunsFinish}
use Rattle.spec_run.proofs.RunsInOrder.{runs_in_order}
use Rattle.spec_run.proofs.turns.RunsTakeTurns.{runs_take_turns}
use Rattle.sx_explain.proofs.Finishes.{in_order_finishes}

pub runs_finish : RunsFinish
runs_finish set sound lines few form =
    in_order_finishes set.app (before (run set (switched_on set) lines).items) (runs_in_order set sound lines few form) (runs_take_turns set sound lines few form)
