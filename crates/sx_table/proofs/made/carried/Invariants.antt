use Rattle.std.proofs.Common.{◌≡◌, ◌++◌, drop}
use Rattle.sx_table.specs.Made.{carried}
use Rattle.sx_table.proofs.made.carried.Given as goal

abbrev pub invariant-loop-a : goal.invariant-loop-a
invariant-loop-a l = l.found.items ++ carried l.c l.output (drop l.a-index l.acts) ≡ l.fn.found.items ++ carried l.c l.output l.acts
