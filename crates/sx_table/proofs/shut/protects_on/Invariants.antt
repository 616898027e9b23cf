use Rattle.std.proofs.Common.{◌≡◌, drop, map}
use Rattle.sx_mean.specs.View.{app_as, part_as}
use Rattle.sx_table.specs.Rows.{row_as, table_as}
use Rattle.sx_watch.specs.Watching.{property_as}
use Rattle.sx_table.specs.Shut.{protects_on}
use Rattle.sx_table.proofs.shut.protects_on.Given as goal

abbrev pub invariant-loop-m : goal.invariant-loop-m
invariant-loop-m l = protects_on (app_as l.app) (property_as l.property) (table_as l.table) (row_as l.row) l.m (map part_as (drop l.m l.parts))
    ≡ protects_on (app_as l.app) (property_as l.property) (table_as l.table) (row_as l.row) 0 (map part_as l.parts)
