use Rattle.std.proofs.Common.{◌≡◌, drop}
use Rattle.sx_mean.specs.Places.{array_length}
use Rattle.sx_mean.proofs.places.array_length.Given as goal

abbrev pub invariant-loop-d : goal.invariant-loop-d
invariant-loop-d l = array_length (drop l.d-index l.decls) l.x ≡ array_length l.decls l.x
