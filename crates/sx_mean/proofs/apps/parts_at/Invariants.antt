use Rattle.std.proofs.Common.{◌≡◌, ◌+◌, ◌≤◌, drop, map}
use Rattle.sx_mean.specs.Validity.{parts_at}
use Rattle.sx_mean.specs.View.{part_as}
use Rattle.sx_mean.proofs.apps.parts_at.Given as goal

abbrev pub invariant-loop-q : goal.invariant-loop-q
invariant-loop-q l = (l.times ≤ l.q-index) × (l.times + parts_at (map part_as (drop l.q-index l.parts)) l.node ≡ parts_at (map part_as l.parts) l.node)
