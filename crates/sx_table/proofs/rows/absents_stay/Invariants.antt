use Rattle.std.proofs.Common.{◌≡◌, drop}
use Rattle.sx_mean.specs.View.{app_as}
use Rattle.sx_table.specs.Rows.{absents_stay}
use Rattle.sx_table.proofs.rows.absents_stay.Given as goal

abbrev pub invariant-loop-m : goal.invariant-loop-m
invariant-loop-m l = absents_stay (app_as l.app) l.freed l.m (drop l.m l.old) l.new ≡ absents_stay (app_as l.app) l.freed 0 l.old l.new
