use Rattle.std.proofs.Common.{◌≡◌, drop, map}
use Rattle.sx_mean.specs.View.{app_as}
use Rattle.sx_table.specs.Rows.{row_as, table_as}
use Rattle.sx_watch.specs.Watching.{property_as}
use Rattle.sx_table.specs.Shut.{each_shut}
use Rattle.sx_table.proofs.shut.each_shut.Given as goal

abbrev pub invariant-loop-row : goal.invariant-loop-row
invariant-loop-row l = each_shut (app_as l.app) (property_as l.property) (table_as l.table) (map row_as (drop l.row-index l.rows))
    ≡ each_shut (app_as l.app) (property_as l.property) (table_as l.table) (map row_as l.rows)
