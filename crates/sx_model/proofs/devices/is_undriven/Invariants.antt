use Rattle.std.proofs.Common.{◌≡◌, drop, map}
use Rattle.sx_mean.specs.View.{part_as}
use Rattle.sx_model.specs.Step.{is_undriven}
use Rattle.sx_model.proofs.devices.is_undriven.Given as goal

-- the modules so far drive no device
abbrev pub invariant-loop-m : goal.invariant-loop-m
invariant-loop-m l =
    is_undriven (map part_as (drop l.m l.parts)) (drop l.m l.modules) l.device ≡ is_undriven (map part_as l.parts) l.modules l.device
