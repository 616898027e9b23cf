use Rattle.std.proofs.Common.{◌≡◌, drop, map}
use Rattle.sx_mean.specs.View.{part_as}
use Rattle.sx_table.specs.Rows.{row_as}
use Rattle.sx_watch.specs.Watching.{property_as}
use Rattle.sx_table.specs.Shut.{resets_on}
use Rattle.sx_table.proofs.shut.resets_on.Given as goal

abbrev pub invariant-loop-m : goal.invariant-loop-m
invariant-loop-m l = resets_on (property_as l.property) (row_as l.row) l.m (map part_as (drop l.m l.parts)) ≡ resets_on (property_as l.property) (row_as l.row) 0 (map part_as l.parts)
