use Rattle.std.proofs.Common.{◌≡◌, ◌++◌, map}
use Rattle.std.specs.Vec.Iter.{into_iter_items}
use Rattle.sx_deploy.specs.Deployment.{part_of}
use Rattle.sx_deploy.specs.Seen.{checked_as}
use Rattle.sx_mean.specs.View.{part_as}
use Rattle.sx_deploy.proofs.arranging.parts.Given as goal

abbrev pub invariant-loop-module : goal.invariant-loop-module
invariant-loop-module l = map part_as l.parts.items ++ map part_of (map checked_as (into_iter_items l.module-iterator)) ≡ map part_of (map checked_as l.fn.modules.items)
