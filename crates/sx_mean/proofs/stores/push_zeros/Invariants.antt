use Rattle.std.proofs.Common.{◌≡◌, ◌++◌}
use Rattle.std.proofs.Math.ListN.{replicate}
use Rattle.sx_mean.proofs.stores.push_zeros.Given as goal

abbrev pub invariant-loop-cell : goal.invariant-loop-cell
invariant-loop-cell l = l.cells.items ≡ l.fn.cells.items ++ replicate l._cell 0
