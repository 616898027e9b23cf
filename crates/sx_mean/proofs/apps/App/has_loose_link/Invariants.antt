use Rattle.std.proofs.Common.{◌≡◌, drop}
use Rattle.std.specs.List.{list_any}
use Rattle.sx_mean.specs.Validity.{is_loose}
use Rattle.sx_mean.specs.View.{app_as}
use Rattle.sx_mean.proofs.apps.App.has_loose_link.Given as goal

abbrev pub invariant-loop-l : goal.invariant-loop-l
invariant-loop-l l = list_any (is_loose (app_as l.self)) (drop l.l-index l.self.links.items) ≡ list_any (is_loose (app_as l.self)) l.self.links.items
