use Rattle.std.proofs.Common.{◌≡◌, drop}
use Rattle.sx_mean.specs.View.{app_as}
use Rattle.sx_table.specs.Rows.{place_lists, places_stay}
use Rattle.sx_table.proofs.rows.places_stay.Given as goal

abbrev pub invariant-loop-m : goal.invariant-loop-m
invariant-loop-m l = places_stay (app_as l.app) l.freed l.m (place_lists (drop l.m l.old)) (place_lists l.new) ≡ places_stay (app_as l.app) l.freed 0 (place_lists l.old) (place_lists l.new)
