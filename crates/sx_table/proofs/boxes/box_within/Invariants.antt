use Rattle.std.proofs.Common.{◌≡◌, drop}
use Rattle.sx_table.specs.Boxes.{box_within}
use Rattle.sx_table.proofs.boxes.box_within.Given as goal

abbrev pub invariant-loop-k : goal.invariant-loop-k
invariant-loop-k l = box_within (drop l.k l.is) (drop l.k l.js) ≡ box_within l.is l.js
