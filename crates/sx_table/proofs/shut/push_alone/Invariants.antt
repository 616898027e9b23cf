use Rattle.std.proofs.Common.{◌≡◌, ◌++◌, drop}
use Rattle.sx_table.specs.Shut.{alone}
use Rattle.sx_table.proofs.shut.push_alone.Given as goal

abbrev pub invariant-loop-v : goal.invariant-loop-v
invariant-loop-v l = l.found.items ++ alone (drop l.v-index l.values) ≡ l.fn.found.items ++ alone l.values
