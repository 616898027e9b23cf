use Rattle.std.proofs.Common.{◌≡◌, drop}
use Rattle.sx_mean.specs.View.{app_as}
use Rattle.sx_table.specs.Rows.{row_as, table_as}
use Rattle.sx_watch.specs.Watching.{property_as}
use Rattle.sx_table.specs.Shut.{topics_on}
use Rattle.sx_table.proofs.shut.topics_on.Given as goal

abbrev pub invariant-loop-u : goal.invariant-loop-u
invariant-loop-u l = topics_on (app_as l.app) (property_as l.property) (table_as l.table) (row_as l.row) (drop l.u-index l.topics)
    ≡ topics_on (app_as l.app) (property_as l.property) (table_as l.table) (row_as l.row) l.topics
