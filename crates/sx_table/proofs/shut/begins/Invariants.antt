use Rattle.std.proofs.Common.{◌≡◌, drop, map}
use Rattle.sx_mean.specs.View.{app_as}
use Rattle.sx_table.specs.Rows.{row_as}
use Rattle.sx_table.specs.Shut.{begins}
use Rattle.sx_table.proofs.shut.begins.Given as goal

abbrev pub invariant-loop-row : goal.invariant-loop-row
invariant-loop-row l = begins (app_as l.app) l.cells (map row_as (drop l.row-index l.rows)) ≡ begins (app_as l.app) l.cells (map row_as l.rows)
