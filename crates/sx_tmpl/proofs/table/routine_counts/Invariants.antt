use Rattle.std.proofs.Common.{◌≡◌, ◌≤◌}
use Rattle.sx_ir.specs.Sizes.{routines}
use Rattle.sx_tmpl.specs.Fits.{AreCounts}
use Rattle.sx_tmpl.proofs.table.routine_counts.Given as goal

abbrev pub invariant-loop-end : goal.invariant-loop-end
invariant-loop-end l = AreCounts l.ops l.end l.counts.items × (l.count ≡ routines l.ops l.end) × (l.count ≤ l.end)
