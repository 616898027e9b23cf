use Rattle.std.proofs.Common.{◌≡◌, drop, map}
use Rattle.sx_mean.specs.Validity.{any_part, is_wrong}
use Rattle.sx_mean.specs.View.{app_as, part_as}
use Rattle.sx_mean.proofs.apps.App.has_wrong_part.Given as goal

abbrev pub invariant-loop-place : goal.invariant-loop-place
invariant-loop-place l = any_part (is_wrong (app_as l.self)) l.place (map part_as (drop l.place l.self.parts.items)) ≡ any_part (is_wrong (app_as l.self)) 0 (map part_as l.self.parts.items)
