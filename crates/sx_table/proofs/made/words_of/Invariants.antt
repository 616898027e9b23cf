use Rattle.std.proofs.Common.{◌≡◌, ◌++◌, drop}
use Rattle.sx_mean.specs.View.{app_as}
use Rattle.sx_span.specs.View.{paths_in}
use Rattle.sx_table.specs.Made.{words_of}
use Rattle.sx_table.proofs.made.words_of.Given as goal

abbrev pub invariant-loop-p : goal.invariant-loop-p
invariant-loop-p l = l.found.items ++ words_of (app_as l.app) l.m (paths_in (drop l.p-index l.trails)) ≡ l.fn.found.items ++ words_of (app_as l.app) l.m (paths_in l.trails)
