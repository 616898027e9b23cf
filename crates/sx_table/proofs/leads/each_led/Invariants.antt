use Rattle.std.proofs.Common.{◌≡◌, drop, map}
use Rattle.sx_mean.specs.View.{app_as}
use Rattle.sx_table.specs.Rows.{row_as}
use Rattle.sx_table.specs.Demands.{demand_as}
use Rattle.sx_table.specs.Leads.{each_led}
use Rattle.sx_span.specs.View.{paths_in}
use Rattle.sx_table.proofs.leads.each_led.Given as goal

abbrev pub invariant-loop-p : goal.invariant-loop-p
invariant-loop-p l = each_led (app_as l.app) (map row_as l.rows) (row_as l.row) (demand_as l.d) (paths_in (drop l.p-index l.trails))
    ≡ each_led (app_as l.app) (map row_as l.rows) (row_as l.row) (demand_as l.d) (paths_in l.trails)
