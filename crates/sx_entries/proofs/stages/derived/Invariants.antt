use Rattle.std.proofs.Common.{◌≡◌, drop, []}
use Rattle.sx_entries.specs.Stage.{made_after}
use Rattle.sx_entries.proofs.stages.derived.Given as goal

abbrev pub invariant-loop-row : goal.invariant-loop-row
invariant-loop-row g l =
    made_after (g.D.Derive.derives l.deriver) l.done.items (drop l.row-index l.rows)
    ≡ made_after (g.D.Derive.derives l.deriver) [] l.rows
