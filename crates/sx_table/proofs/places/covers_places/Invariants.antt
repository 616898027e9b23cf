use Rattle.std.proofs.Common.{◌≡◌, drop, map}
use Rattle.sx_table.specs.Places.{covers_places, place_as}
use Rattle.sx_table.proofs.places.covers_places.Given as goal

abbrev pub invariant-loop-p : goal.invariant-loop-p
invariant-loop-p l = covers_places (map place_as (drop l.p-index l.ps)) (map place_as l.qs) ≡ covers_places (map place_as l.ps) (map place_as l.qs)
