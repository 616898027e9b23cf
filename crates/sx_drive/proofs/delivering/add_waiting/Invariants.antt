use Rattle.std.proofs.Common.{◌≡◌, ◌++◌, drop}
use Rattle.sx_drive.specs.Honest.{packets_of}
use Rattle.sx_drive.proofs.delivering.add_waiting.Given as goal

abbrev pub invariant-loop-item : goal.invariant-loop-item
invariant-loop-item l = l.waiting.items ++ packets_of (drop l.item-index l.items) ≡ l.fn.waiting.items ++ packets_of l.items
