use Rattle.std.proofs.Common.{◌≡◌, drop, map}
use Rattle.sx_mean.specs.View.{app_as}
use Rattle.sx_table.specs.Rows.{row_as}
use Rattle.sx_table.specs.Demands.{demand_as}
use Rattle.sx_table.specs.Leads.{finds}
use Rattle.sx_table.proofs.leads.finds.Given as goal

abbrev pub invariant-loop-new : goal.invariant-loop-new
invariant-loop-new l = finds (app_as l.app) (map row_as (drop l.new-index l.rows)) (row_as l.row) (demand_as l.d) l.cells
    ≡ finds (app_as l.app) (map row_as l.rows) (row_as l.row) (demand_as l.d) l.cells
