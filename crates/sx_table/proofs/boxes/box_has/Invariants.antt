use Rattle.std.proofs.Common.{◌≡◌, drop}
use Rattle.sx_table.specs.Boxes.{box_has}
use Rattle.sx_table.proofs.boxes.box_has.Given as goal

abbrev pub invariant-loop-k : goal.invariant-loop-k
invariant-loop-k l = box_has (drop l.k l.is) (drop l.k l.values) ≡ box_has l.is l.values
