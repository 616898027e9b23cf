use Rattle.std.proofs.Common.{◌≡◌, drop}
use Rattle.sx_mean.specs.View.{app_as}
use Rattle.sx_table.specs.Rows.{row_as, table_as}
use Rattle.sx_watch.specs.Watching.{property_as}
use Rattle.sx_table.specs.Shut.{takes_on}
use Rattle.sx_table.proofs.shut.takes_on.Given as goal

abbrev pub invariant-loop-c : goal.invariant-loop-c
invariant-loop-c l = takes_on (app_as l.app) (property_as l.property) (table_as l.table) (row_as l.row) l.c (drop l.c l.links)
    ≡ takes_on (app_as l.app) (property_as l.property) (table_as l.table) (row_as l.row) 0 l.links
