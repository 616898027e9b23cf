use Rattle.std.proofs.Common.{◌≡◌, drop}
use Rattle.sx_table.specs.Demands.{have_values}
use Rattle.sx_table.specs.Stays.{item_lists}
use Rattle.sx_table.proofs.demands.have_values.Given as goal

abbrev pub invariant-loop-k : goal.invariant-loop-k
invariant-loop-k l = have_values (item_lists l.lists) (drop l.k-index l.ks) ≡ have_values (item_lists l.lists) l.ks
