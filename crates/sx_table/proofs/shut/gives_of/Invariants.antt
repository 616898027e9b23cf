use Rattle.std.proofs.Common.{◌≡◌, drop}
use Rattle.sx_mean.specs.View.{app_as}
use Rattle.sx_table.specs.Rows.{row_as, table_as}
use Rattle.sx_watch.specs.Watching.{property_as}
use Rattle.sx_table.specs.Shut.{gives_of}
use Rattle.sx_table.proofs.shut.gives_of.Given as goal

abbrev pub invariant-loop-i : goal.invariant-loop-i
invariant-loop-i l = gives_of (app_as l.app) (property_as l.property) (table_as l.table) (row_as l.row) l.kind l.d (drop l.i-index l.list)
    ≡ gives_of (app_as l.app) (property_as l.property) (table_as l.table) (row_as l.row) l.kind l.d l.list
