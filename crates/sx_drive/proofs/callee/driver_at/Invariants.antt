use Rattle.std.proofs.Common.{◌≡◌, drop, map, Some}
use Rattle.std.specs.List.{position_from}
use Rattle.sx_mean.specs.Application.{PartTree}
use Rattle.sx_mean.specs.Validity.{same_device}
use Rattle.sx_mean.specs.View.{part_as}
use Rattle.sx_drive.specs.Driving.{driver_at}
use Rattle.sx_drive.proofs.callee.driver_at.Given as goal

abbrev pub invariant-loop-m : goal.invariant-loop-m
invariant-loop-m l = position_from (λ (q : PartTree). same_device (Some l.device) q.device) l.m (map part_as (drop l.m l.parts)) ≡ driver_at (map part_as l.parts) l.device
