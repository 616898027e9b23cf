use Rattle.std.proofs.Common.{◌≡◌, drop}
use Rattle.sx_mean.specs.View.{app_as}
use Rattle.sx_table.specs.Rows.{row_as, table_as}
use Rattle.sx_watch.specs.Watching.{property_as}
use Rattle.sx_check.specs.Source.{source_tree}
use Rattle.sx_table.specs.Shut.{takes_of}
use Rattle.sx_table.proofs.shut.takes_of.Given as goal

abbrev pub invariant-loop-i : goal.invariant-loop-i
invariant-loop-i l = takes_of (app_as l.app) (property_as l.property) (table_as l.table) (row_as l.row) l.c l.l (source_tree l.code) (drop l.i-index l.list)
    ≡ takes_of (app_as l.app) (property_as l.property) (table_as l.table) (row_as l.row) l.c l.l (source_tree l.code) l.list
