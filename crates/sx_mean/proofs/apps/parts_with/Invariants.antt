use Rattle.std.proofs.Common.{◌≡◌, ◌+◌, ◌≤◌, drop, map}
use Rattle.sx_mean.specs.Validity.{parts_with}
use Rattle.sx_mean.specs.View.{part_as}
use Rattle.sx_mean.proofs.apps.parts_with.Given as goal

abbrev pub invariant-loop-q : goal.invariant-loop-q
invariant-loop-q l = (l.times ≤ l.q-index) × (l.times + parts_with (map part_as (drop l.q-index l.parts)) l.device ≡ parts_with (map part_as l.parts) l.device)
