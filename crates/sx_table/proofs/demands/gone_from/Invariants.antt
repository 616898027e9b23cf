use Rattle.std.proofs.Common.{◌≡◌, drop, map}
use Rattle.sx_mean.specs.View.{part_as}
use Rattle.sx_table.specs.Demands.{gone_from}
use Rattle.sx_table.proofs.demands.gone_from.Given as goal

abbrev pub invariant-loop-m : goal.invariant-loop-m
invariant-loop-m l = gone_from l.n l.m (map part_as (drop l.m l.parts)) l.new ≡ gone_from l.n 0 (map part_as l.parts) l.new
