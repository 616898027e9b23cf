use Rattle.std.proofs.Common.{drop}
use Rattle.sx_mean.specs.View.{app_as}
use Rattle.spec_run.specs.Observation.{touch_items}
use Rattle.sx_observe.proofs.Fronts.{Comes}
use Rattle.sx_observe.proofs.observation.add_touches.Given as goal

abbrev pub invariant-loop-touch : goal.invariant-loop-touch
invariant-loop-touch l =
    Comes l.fn.items.items l.items.items (touch_items (app_as l.app) l.n l.runner (drop l.touch-index l.touches)) (touch_items (app_as l.app) l.n l.runner l.touches)
