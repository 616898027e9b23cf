use Rattle.std.proofs.Common.{◌≡◌, drop}
use Rattle.sx_table.specs.Boxes.{spans}
use Rattle.sx_table.proofs.boxes.fills.Given as goal

abbrev pub invariant-loop-j : goal.invariant-loop-j
invariant-loop-j l = spans l.low l.i.high (drop l.j-index l.list) ≡ spans l.i.low l.i.high l.list
