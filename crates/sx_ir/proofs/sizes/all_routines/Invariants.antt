use Rattle.std.proofs.Common.{◌≡◌, ◌≤◌}
use Rattle.sx_ir.specs.Sizes.{routines}
use Rattle.sx_ir.proofs.sizes.all_routines.Given as goal

abbrev pub invariant-loop-end : goal.invariant-loop-end
invariant-loop-end l = (l.count ≡ routines l.ops l.end) × (l.count ≤ l.end)
