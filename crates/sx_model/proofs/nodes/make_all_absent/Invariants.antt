use Rattle.std.proofs.Common.{◌≡◌, ◌++◌, take, drop, map}
use Rattle.sx_mean.specs.View.{part_as}
use Rattle.sx_model.specs.Step.{absent_at}
use Rattle.sx_model.proofs.nodes.make_all_absent.Given as goal

-- the modules so far are done
abbrev pub invariant-loop-at : goal.invariant-loop-at
invariant-loop-at l =
    take l.at l.modules ++ absent_at l.node (map part_as (drop l.at l.parts)) (drop l.at l.modules) ≡ absent_at l.node (map part_as l.parts) l.initial.modules
