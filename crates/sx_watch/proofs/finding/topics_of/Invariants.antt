use Rattle.std.specs.Prelude.{◌≡◌, ◌++◌, drop}
use Rattle.sx_mean.specs.View.{app_as}
use Rattle.sx_watch.specs.Parts.{topics_of}
use Rattle.sx_watch.proofs.finding.topics_of.Given as goal

abbrev pub invariant-loop-head : goal.invariant-loop-head
invariant-loop-head l = l.topics.items ++ topics_of l.names (app_as l.app) (drop l.head-index l.heads) ≡ topics_of l.names (app_as l.app) l.heads
