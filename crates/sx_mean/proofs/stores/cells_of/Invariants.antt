use Rattle.std.proofs.Common.{◌≡◌, ◌++◌, drop}
use Rattle.sx_mean.specs.Places.{initial_cells}
use Rattle.sx_mean.proofs.stores.cells_of.Given as goal

abbrev pub invariant-loop-d : goal.invariant-loop-d
invariant-loop-d l = l.cells.items ++ initial_cells (drop l.d-index l.decls) ≡ initial_cells l.decls
