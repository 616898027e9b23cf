use Rattle.std.proofs.Common.{◌≡◌, drop, map}
use Rattle.sx_mean.specs.View.{part_as}
use Rattle.sx_table.specs.Shut.{absent_from}
use Rattle.sx_table.proofs.shut.absent_from.Given as goal

abbrev pub invariant-loop-m : goal.invariant-loop-m
invariant-loop-m l = absent_from l.bits l.m (map part_as (drop l.m l.parts)) ≡ absent_from l.bits 0 (map part_as l.parts)
