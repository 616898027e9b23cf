use Rattle.std.proofs.Common.{◌≡◌, drop, map}
use Rattle.sx_table.specs.Demands.{have_needed, needed_as}
use Rattle.sx_table.specs.Rows.{place_lists}
use Rattle.sx_table.proofs.demands.have_needed.Given as goal

abbrev pub invariant-loop-k : goal.invariant-loop-k
invariant-loop-k l = have_needed (place_lists l.lists) (map needed_as (drop l.k-index l.ks)) ≡ have_needed (place_lists l.lists) (map needed_as l.ks)
