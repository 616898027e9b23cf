use Rattle.std.proofs.Common.{take}
use Rattle.sx_index.specs.Index.{IsNameIndex}
use Rattle.sx_index.proofs.index.NameIndex.fill.Given as goal

abbrev pub invariant-loop-place : goal.invariant-loop-place
invariant-loop-place l = IsNameIndex l.self (take l.place l.names)
