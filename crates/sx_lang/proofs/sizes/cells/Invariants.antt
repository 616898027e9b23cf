use Rattle.std.proofs.Common.{◌≡◌, ◌+◌, ◌≤◌, min, drop}
use Rattle.sx_lang.specs.Sizes.{declared_cells}
use Rattle.sx_lang.proofs.sizes.cells.Given as goal

abbrev pub invariant-loop-d : goal.invariant-loop-d
invariant-loop-d l =
    (l.total ≤ 4294967295) × (min (l.total + declared_cells (drop l.d-index l.d-items)) 4294967295 ≡ min (declared_cells l.d-items) 4294967295)
