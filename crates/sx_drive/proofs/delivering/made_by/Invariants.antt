use Rattle.std.proofs.Common.{◌≡◌, drop}
use Rattle.sx_drive.specs.Honest.{made_by}
use Rattle.sx_drive.proofs.delivering.made_by.Given as goal

abbrev pub invariant-loop-item : goal.invariant-loop-item
invariant-loop-item l = made_by (drop l.item-index l.items) ≡ made_by l.items
