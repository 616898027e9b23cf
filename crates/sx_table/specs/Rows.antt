-- Rows, and what stays of them.
use Rattle.std.specs.Prelude.{ℕ, ◌+◌, ◌&&◌, ◌||◌, not, Bool, true, List, [], ◌∷◌, map, slice_get}
use Rattle.std.specs.Prelude.{unwrap_or}
use Rattle.std.specs.Global.{Vec}
use Rattle.sx_table.specs.declared.places.Place.{Place}
use Rattle.sx_table.specs.declared.rows.Row.{Row}
use Rattle.sx_table.specs.declared.rows.Table.{Table}
use Rattle.sx_mean.specs.Application.{AppTree}
use Rattle.sx_table.specs.Boxes.{Interval}
use Rattle.sx_table.specs.Places.{PlaceTree, covers_places, place_as}
use Rattle.sx_table.specs.Stays.{Freed, Nobody, frees_module, is_set, item_lists, values_stay}

-- where the application may be while the property's cells lie in a box, as plain data
pub record RowTree : Type 0 where
  pub watch : List Interval
  pub absent : List Bool
  pub places : List (List PlaceTree)
  pub readings : List (List Interval)
  pub words : List (List Interval)

abbrev pub place_lists : List (Vec Place) → List (List PlaceTree)
place_lists xs = map (λ v. map place_as v.items) xs

-- the code's row as plain data
abbrev pub row_as : Row → RowTree
row_as r = record {
  watch = r.watch.items;
  absent = r.absent.items;
  places = place_lists r.places.items;
  readings = item_lists r.readings.items;
  words = item_lists r.words.items;
}

-- the rows, and the values that each device may be given from outside
pub record TableTree : Type 0 where
  pub rows : List RowTree
  pub given : List (List Interval)

-- the code's table as plain data
abbrev pub table_as : Table → TableTree
table_as t = record { rows = map row_as t.rows.items; given = item_lists t.given.items }

-- the places of a module
abbrev pub places_at : List (List PlaceTree) → ℕ → List PlaceTree
places_at xss n = unwrap_or (slice_get xss n) []

-- a row has the places of a module that another has, unless it is freed, and of each module
abbrev pub places_list_stays : AppTree → Freed → ℕ → List PlaceTree → List (List PlaceTree) → Bool
places_list_stays app freed m ps new = frees_module app freed m
    || covers_places ps (places_at new m)

abbrev pub places_stay : AppTree → Freed → ℕ → List (List PlaceTree) → List (List PlaceTree) → Bool
places_stay app freed m [] new = true
places_stay app freed m (ps ∷ pss) new = places_list_stays app freed m ps new
    && places_stay app freed (m + 1) pss new

-- a module that may be absent in a row may be so in another, unless it is freed, and each module
abbrev pub absent_stays : AppTree → Freed → ℕ → Bool → List Bool → Bool
absent_stays app freed m b new = frees_module app freed m || (not b || is_set new m)

abbrev pub absents_stay : AppTree → Freed → ℕ → List Bool → List Bool → Bool
absents_stay app freed m [] new = true
absents_stay app freed m (b ∷ bs) new = absent_stays app freed m b new
    && absents_stay app freed (m + 1) bs new

-- a row has what another has of all modules and devices but the freed ones, and of all connections
abbrev pub stays : AppTree → Freed → Freed → RowTree → RowTree → Bool
stays app modules devices r new = absents_stay app modules 0 r.absent new.absent
    && (places_stay app modules 0 r.places new.places
    && (values_stay app devices 0 r.readings new.readings
    && values_stay app Nobody 0 r.words new.words))
