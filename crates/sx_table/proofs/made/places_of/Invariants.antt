use Rattle.std.proofs.Common.{◌≡◌, ◌++◌, drop, map}
use Rattle.sx_span.specs.View.{paths_in}
use Rattle.sx_table.specs.Demands.{needed_as}
use Rattle.sx_table.specs.Made.{places_of}
use Rattle.sx_table.proofs.made.places_of.Given as goal

abbrev pub invariant-loop-p : goal.invariant-loop-p
invariant-loop-p l = map needed_as l.found.items ++ places_of l.m (paths_in (drop l.p-index l.trails)) ≡ map needed_as l.fn.found.items ++ places_of l.m (paths_in l.trails)
