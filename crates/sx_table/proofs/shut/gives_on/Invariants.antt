use Rattle.std.proofs.Common.{◌≡◌, drop}
use Rattle.sx_mean.specs.View.{app_as}
use Rattle.sx_table.specs.Rows.{row_as, table_as}
use Rattle.sx_watch.specs.Watching.{property_as}
use Rattle.sx_table.specs.Stays.{item_lists}
use Rattle.sx_table.specs.Shut.{gives_on}
use Rattle.sx_table.proofs.shut.gives_on.Given as goal

abbrev pub invariant-loop-d : goal.invariant-loop-d
invariant-loop-d l = gives_on (app_as l.app) (property_as l.property) (table_as l.table) (row_as l.row) l.kind l.d (item_lists (drop l.d l.lists))
    ≡ gives_on (app_as l.app) (property_as l.property) (table_as l.table) (row_as l.row) l.kind 0 (item_lists l.lists)
