use Rattle.std.proofs.Common.{◌≡◌, drop}
use Rattle.sx_mean.specs.View.{app_as}
use Rattle.sx_table.specs.Rows.{row_as, table_as, place_lists}
use Rattle.sx_watch.specs.Watching.{property_as}
use Rattle.sx_table.specs.Shut.{writes_on}
use Rattle.sx_table.proofs.shut.writes_on.Given as goal

abbrev pub invariant-loop-m : goal.invariant-loop-m
invariant-loop-m l = writes_on (app_as l.app) (property_as l.property) (table_as l.table) (row_as l.row) l.m (place_lists (drop l.m l.lists))
    ≡ writes_on (app_as l.app) (property_as l.property) (table_as l.table) (row_as l.row) 0 (place_lists l.lists)
