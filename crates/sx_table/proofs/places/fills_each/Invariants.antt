use Rattle.std.proofs.Common.{◌≡◌, drop}
use Rattle.sx_table.specs.Places.{fills_each}
use Rattle.sx_table.proofs.places.fills_each.Given as goal

abbrev pub invariant-loop-i : goal.invariant-loop-i
invariant-loop-i l = fills_each l.js (drop l.i-index l.is) ≡ fills_each l.js l.is
