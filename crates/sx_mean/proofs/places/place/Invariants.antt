use Rattle.std.proofs.Common.{◌≡◌, ◌+◌, ◌≤◌, drop}
use Rattle.sx_mean.specs.Places.{place}
use Rattle.sx_lang.specs.Sizes.{declared_cells}
use Rattle.sx_mean.proofs.places.place.Given as goal

abbrev pub invariant-loop-d : goal.invariant-loop-d
invariant-loop-d l = (l.before + place (drop l.d-index l.decls) l.x ≡ place l.decls l.x) × (l.before + declared_cells (drop l.d-index l.decls) ≤ 1024)
