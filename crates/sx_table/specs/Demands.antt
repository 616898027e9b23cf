-- What an item asks of the next row.
use Rattle.std.specs.Prelude.{ℕ, ◌+◌, ◌==◌, ◌&&◌, ◌||◌, not, Bool, true, List, [], ◌∷◌, map}
use Rattle.sx_mean.specs.Application.{AppTree, PartTree}
use Rattle.sx_table.specs.declared.demands.NeededPlace.{NeededPlace}
pub use Rattle.sx_table.specs.declared.demands.NeededValues.{NeededValues}
use Rattle.sx_table.specs.declared.demands.Demand.{Demand}
use Rattle.sx_table.specs.Boxes.{Interval, fills}
use Rattle.sx_table.specs.Places.{PlaceTree, has_place, place_as}
use Rattle.sx_table.specs.Stays.{Freed, Nobody, Only, AtNode, is_set, values_at}
use Rattle.sx_table.specs.Rows.{RowTree, places_at, stays}

-- a place of a module that the next row must have, as plain data
pub record NeededTree : Type 0 where
  pub module_of : ℕ
  pub place : PlaceTree

abbrev pub needed_as : NeededPlace → NeededTree
needed_as k = record { module_of = k.module_of; place = place_as k.place }

-- what an item asks of the next row, as plain data
pub record DemandTree : Type 0 where
  pub modules : Freed
  pub devices : Freed
  pub places : List NeededTree
  pub readings : List NeededValues
  pub words : List NeededValues

abbrev pub demand_as : Demand → DemandTree
demand_as d = record {
  modules = d.modules;
  devices = d.devices;
  places = map needed_as d.places.items;
  readings = d.readings.items;
  words = d.words.items;
}

-- the modules of a node that is reset may be absent
abbrev pub gone_at : ℕ → ℕ → PartTree → List Bool → Bool
gone_at n m q new = not (q.node == n) || is_set new m

abbrev pub gone_from : ℕ → ℕ → List PartTree → List Bool → Bool
gone_from n m [] new = true
gone_from n m (q ∷ qs) new = gone_at n m q new && gone_from n (m + 1) qs new

abbrev pub has_gone : AppTree → Freed → List Bool → Bool
has_gone app Nobody new = true
has_gone app (Only k) new = true
has_gone app (AtNode n) new = gone_from n 0 app.parts new

-- the places that are asked for
abbrev pub has_needed : List (List PlaceTree) → NeededTree → Bool
has_needed pss k = has_place k.place (places_at pss k.module_of)

abbrev pub have_needed : List (List PlaceTree) → List NeededTree → Bool
have_needed pss [] = true
have_needed pss (k ∷ ks) = has_needed pss k && have_needed pss ks

-- the values that are asked for
abbrev pub has_values : List (List Interval) → NeededValues → Bool
has_values xss k = fills (values_at xss k.index) k.values

abbrev pub have_values : List (List Interval) → List NeededValues → Bool
have_values xss [] = true
have_values xss (k ∷ ks) = has_values xss k && have_values xss ks

-- the next row meets the demand
abbrev pub meets : AppTree → RowTree → DemandTree → RowTree → Bool
meets app r d new = stays app d.modules d.devices r new
    && (has_gone app d.modules new.absent && (have_needed new.places d.places
    && (have_values new.readings d.readings && have_values new.words d.words)))
