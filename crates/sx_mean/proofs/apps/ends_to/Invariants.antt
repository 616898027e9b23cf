use Rattle.std.proofs.Common.{◌≡◌, ◌+◌, ◌≤◌, drop}
use Rattle.sx_mean.specs.Application.{ends_to}
use Rattle.sx_mean.proofs.apps.ends_to.Given as goal

abbrev pub invariant-loop-l : goal.invariant-loop-l
invariant-loop-l l = (l.times ≤ l.l-index) × (l.times + ends_to (drop l.l-index l.links) l.part ≡ ends_to l.links l.part)
