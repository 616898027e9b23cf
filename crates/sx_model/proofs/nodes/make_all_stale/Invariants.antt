use Rattle.std.proofs.Common.{◌≡◌, ◌++◌, take, drop}
use Rattle.sx_model.specs.Step.{stale_at}
use Rattle.sx_model.proofs.nodes.make_all_stale.Given as goal

-- the readings so far are done
abbrev pub invariant-loop-at : goal.invariant-loop-at
invariant-loop-at l =
    take l.at l.readings ++ stale_at l.node (drop l.at l.devices) (drop l.at l.readings) ≡ stale_at l.node l.devices l.initial.readings
