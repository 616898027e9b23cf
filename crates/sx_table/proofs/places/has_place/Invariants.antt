use Rattle.std.proofs.Common.{◌≡◌, drop, map}
use Rattle.sx_table.specs.Places.{has_place, place_as}
use Rattle.sx_table.proofs.places.has_place.Given as goal

abbrev pub invariant-loop-q : goal.invariant-loop-q
invariant-loop-q l = has_place (place_as l.p) (map place_as (drop l.q-index l.qs)) ≡ has_place (place_as l.p) (map place_as l.qs)
