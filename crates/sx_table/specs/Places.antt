-- Places of modules.
use Rattle.std.specs.Prelude.{◌&&◌, ◌||◌, Bool, true, false, List, [], ◌∷◌}
use Rattle.sx_table.specs.declared.places.Place.{Place}
use Rattle.sx_table.specs.Boxes.{Interval, box_within, fills}

-- where a present module may be: its cells, and the emits that it owes
pub record PlaceTree : Type 0 where
  pub cells : List Interval
  pub owed : List Interval

-- the code's place as plain data
abbrev pub place_as : Place → PlaceTree
place_as p = record { cells = p.cells.items; owed = p.owed.items }

-- the first lies in the second
abbrev pub place_within : PlaceTree → PlaceTree → Bool
place_within p q = box_within p.cells q.cells && box_within p.owed q.owed

-- the place lies in one of others, and each of some does
abbrev pub has_place : PlaceTree → List PlaceTree → Bool
has_place p [] = false
has_place p (q ∷ qs) = place_within p q || has_place p qs

abbrev pub covers_places : List PlaceTree → List PlaceTree → Bool
covers_places [] qs = true
covers_places (p ∷ ps) qs = has_place p qs && covers_places ps qs

-- intervals have each number of others
abbrev pub fills_each : List Interval → List Interval → Bool
fills_each js [] = true
fills_each js (i ∷ is) = fills js i && fills_each js is
