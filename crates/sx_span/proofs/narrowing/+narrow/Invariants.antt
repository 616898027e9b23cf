use Rattle.std.proofs.Common.{◌≡◌, ◌++◌, ◌+◌, ◌*◌}
use Rattle.std.specs.List.{flat_map}
use Rattle.sx_lang.specs.View.{expression_of}
use Rattle.sx_span.specs.Narrow.{narrow, weight}
use Rattle.sx_span.specs.View.{paths_in}
use Rattle.sx_span.proofs.narrowing.+narrow.Given as goal

abbrev pub invariant-narrow_each-loop-trail : goal.invariant-narrow_each-loop-trail
invariant-narrow_each-loop-trail l =
    paths_in l.found.items ++ flat_map (narrow l.decls (expression_of l.e) l.t) (paths_in l.trail-iterator.rest.items)
    ≡ paths_in l.fn.found.items ++ flat_map (narrow l.decls (expression_of l.e) l.t) (paths_in l.fn.trails.items)

abbrev pub decreases-narrow : goal.decreases-narrow
decreases-narrow l = 2 * weight (expression_of l.e.now)

abbrev pub decreases-narrow_each : goal.decreases-narrow_each
decreases-narrow_each l = 2 * weight (expression_of l.e.now) + 1

abbrev pub decreases-narrow_either : goal.decreases-narrow_either
decreases-narrow_either l = 2 * (weight (expression_of l.a.now) + weight (expression_of l.b.now)) + 1
