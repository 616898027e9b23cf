use Rattle.std.proofs.Common.{◌≡◌, drop}
use Rattle.sx_table.specs.Stays.{item_lists}
use Rattle.sx_table.specs.Shut.{opens_from}
use Rattle.sx_table.proofs.shut.opens_from.Given as goal

abbrev pub invariant-loop-d : goal.invariant-loop-d
invariant-loop-d l = opens_from (item_lists l.lists) l.d (drop l.d l.devices) ≡ opens_from (item_lists l.lists) 0 l.devices
