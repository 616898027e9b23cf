use Rattle.std.proofs.Common.{◌≡◌, drop, map, Some}
use Rattle.std.specs.List.{position_from}
use Rattle.sx_mean.specs.Application.{PartTree}
use Rattle.sx_mean.specs.Validity.{same_device}
use Rattle.sx_mean.specs.View.{part_as}
use Rattle.command_describe.proofs.devices.driver_at.Given as goal

abbrev pub invariant-loop-m : goal.invariant-loop-m
invariant-loop-m l = position_from (λ (q : PartTree). same_device (Some l.device) q.device) l.m (map part_as (drop l.m l.parts))
    ≡ position_from (λ (q : PartTree). same_device (Some l.device) q.device) 0 (map part_as l.parts)
