use Rattle.std.proofs.Common.{◌≡◌, drop, []}
use Rattle.toml.specs.View.{items_view}
use Rattle.sx_entries.specs.Arrays.{made_in}
use Rattle.sx_entries.proofs.arrays.rows_in_array.Given as goal

abbrev pub invariant-loop-value : goal.invariant-loop-value
invariant-loop-value g l =
    made_in g.R.Row.reads l.sort l.rows.items (items_view (drop l.value-index l.array.items))
    ≡ made_in g.R.Row.reads l.sort [] (items_view l.array.items)
