use Rattle.std.specs.Prelude.{◌≡◌, drop}
use Rattle.sx_mean.specs.View.{app_as}
use Rattle.sx_watch.specs.Parts.{first_unknown}
use Rattle.sx_watch.proofs.finding.first_unknown.Given as goal

abbrev pub invariant-loop-head : goal.invariant-loop-head
invariant-loop-head l = first_unknown l.names (app_as l.app) (drop l.head-index l.heads) ≡ first_unknown l.names (app_as l.app) l.heads
