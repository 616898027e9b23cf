use Rattle.std.specs.Prelude.{◌≡◌, [], drop}
use Rattle.sx_mean.specs.View.{app_as}
use Rattle.sx_watch.specs.Text.{second_from}
use Rattle.sx_watch.proofs.finding.first_second.Given as goal

abbrev pub invariant-loop-head : goal.invariant-loop-head
invariant-loop-head l = second_from l.names (app_as l.app) l.topics.items (drop l.head-index l.heads) ≡ second_from l.names (app_as l.app) [] l.heads
