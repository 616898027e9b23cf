use Rattle.std.proofs.Common.{◌≡◌, ◌++◌}
use Rattle.sx_span.specs.View.{paths_in}
use Rattle.sx_table.proofs.made.push_each.Given as goal

abbrev pub invariant-loop-trail : goal.invariant-loop-trail
invariant-loop-trail l = paths_in l.found.items ++ paths_in l.trail-iterator.rest.items ≡ paths_in l.fn.found.items ++ paths_in l.fn.trails.items
