use Rattle.std.proofs.Common.{◌≡◌, drop}
use Rattle.sx_table.specs.Stays.{item_lists}
use Rattle.sx_table.specs.Shut.{have_raw}
use Rattle.sx_table.proofs.shut.have_raw.Given as goal

abbrev pub invariant-loop-u : goal.invariant-loop-u
invariant-loop-u l = have_raw (item_lists l.lists) (drop l.u-index l.topics) ≡ have_raw (item_lists l.lists) l.topics
