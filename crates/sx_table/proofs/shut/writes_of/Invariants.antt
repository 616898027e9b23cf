use Rattle.std.proofs.Common.{◌≡◌, drop, map}
use Rattle.sx_mean.specs.View.{app_as}
use Rattle.sx_table.specs.Rows.{row_as, table_as}
use Rattle.sx_watch.specs.Watching.{property_as}
use Rattle.sx_table.specs.Places.{place_as}
use Rattle.sx_table.specs.Shut.{writes_of}
use Rattle.sx_table.proofs.shut.writes_of.Given as goal

abbrev pub invariant-loop-p : goal.invariant-loop-p
invariant-loop-p l = writes_of (app_as l.app) (property_as l.property) (table_as l.table) (row_as l.row) l.m (map place_as (drop l.p-index l.places))
    ≡ writes_of (app_as l.app) (property_as l.property) (table_as l.table) (row_as l.row) l.m (map place_as l.places)
