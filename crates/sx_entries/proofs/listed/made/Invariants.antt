use Rattle.std.proofs.Common.{◌≡◌, []}
use Rattle.sx_entries.specs.Stage.{made_after}
use Rattle.std.specs.Vec.Iter.{into_iter_items}
use Rattle.sx_entries.proofs.listed.made.Given as goal

abbrev pub invariant-loop-row : goal.invariant-loop-row
invariant-loop-row g l =
    made_after (g.M.Make.makes l.maker) l.done (into_iter_items l.row-iterator)
    ≡ made_after (g.M.Make.makes l.maker) [] l.fn.rows.items
