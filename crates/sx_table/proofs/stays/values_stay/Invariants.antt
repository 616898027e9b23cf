use Rattle.std.proofs.Common.{◌≡◌, drop}
use Rattle.sx_mean.specs.View.{app_as}
use Rattle.sx_table.specs.Stays.{item_lists, values_stay}
use Rattle.sx_table.proofs.stays.values_stay.Given as goal

abbrev pub invariant-loop-k : goal.invariant-loop-k
invariant-loop-k l = values_stay (app_as l.app) l.freed l.k (item_lists (drop l.k l.old)) (item_lists l.new) ≡ values_stay (app_as l.app) l.freed 0 (item_lists l.old) (item_lists l.new)
