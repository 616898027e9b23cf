use Rattle.std.proofs.Common.{◌≡◌, ◌+◌, ◌≤◌, drop}
use Rattle.sx_mean.specs.Application.{links_from}
use Rattle.sx_mean.proofs.apps.links_from.Given as goal

abbrev pub invariant-loop-l : goal.invariant-loop-l
invariant-loop-l l = (l.times ≤ l.l-index) × (l.times + links_from (drop l.l-index l.links) l.part l.output ≡ links_from l.links l.part l.output)
