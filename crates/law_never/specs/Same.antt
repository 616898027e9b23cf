-- The code's intervals, rows and tables as those of the proofs, and that both checks say the same.
use Rattle.std.specs.Prelude.{◌≡◌, ℕ, List, Option, map}
use Rattle.sx_lang.specs.Tree.{ModuleTree}
use Rattle.sx_mean.specs.Application.{AppTree}
use Rattle.sx_span.specs.declared.intervals.Interval.{Interval}
use Rattle.sx_span.specs.declared.pieces.ActRange.{ActRange}
use Rattle.sx_span.specs.declared.pieces.ActRange.TheVariants.{SendIn, EmitIn}
use Rattle.sx_span.specs.Ranges as ranges
use Rattle.sx_span.specs.Paths.{react_within}
use Rattle.sx_table.specs.declared.stays.Freed.{Freed}
use Rattle.sx_table.specs.declared.stays.Freed.TheVariants as freed
use Rattle.sx_table.specs.declared.demands.NeededValues.{NeededValues}
use Rattle.sx_table.specs.Places.{PlaceTree}
use Rattle.sx_table.specs.Rows.{RowTree}
use Rattle.sx_table.specs.Demands.{NeededTree, DemandTree}
use Rattle.sx_table.specs.Rows.{TableTree}
use Rattle.sx_table.specs.Made.{event_in}
use Rattle.law_never.specs.Intervals as hi
use Rattle.law_never.specs.Tables as ht
use Rattle.law_never.specs.Check as hc
use Rattle.law_never.specs.Demands as hd
use Rattle.sx_table.specs.Shut.{is_open, is_shut}
use Rattle.sx_watch.specs.Watched.{PropertyTree}

abbrev pub as_interval : Interval → hi.Interval
as_interval i = record { low = i.low; high = i.high }

abbrev pub as_range : hi.Interval → Interval
as_range i = record { low = i.low; high = i.high }

abbrev pub as_place : PlaceTree → ht.Place
as_place p = record { cells = map as_interval p.cells; owed = map as_interval p.owed }

abbrev pub as_row : RowTree → ht.Row
as_row r = record {
  watch = map as_interval r.watch;
  absent = r.absent;
  places = map (map as_place) r.places;
  readings = map (map as_interval) r.readings;
  words = map (map as_interval) r.words;
}

abbrev pub as_table : TableTree → ht.Table
as_table t = record { rows = map as_row t.rows; given = map (map as_interval) t.given }

abbrev pub as_doing : ActRange → hi.Doing
as_doing (SendIn output i) = hi.MaySend output (as_interval i)
as_doing (EmitIn i) = hi.MayEmit (as_interval i)

abbrev pub as_path : ranges.Path → hi.Path
as_path p = record { cells = map as_interval p.cells; acts = map as_doing p.acts }

abbrev pub as_freed : Freed → hd.Freed
as_freed freed.Nobody = hd.Nobody
as_freed (freed.Only k) = hd.Only k
as_freed (freed.AtNode n) = hd.AtNode n

abbrev pub as_needed : NeededTree → hd.NeededPlace
as_needed k = record { module_of = k.module_of; place = as_place k.place }

abbrev pub as_values : NeededValues → hd.NeededValues
as_values k = record { index = k.index; values = as_interval k.values }

abbrev pub as_demand : DemandTree → hd.Demand
as_demand d = record {
  modules = as_freed d.modules;
  devices = as_freed d.devices;
  places = map as_needed d.places;
  readings = map as_values d.readings;
  words = map as_values d.words;
}

abbrev pub ways : ModuleTree → Option ℕ → hi.Interval → List hi.Interval → List hi.Path
ways tree input i box = map as_path (react_within tree (event_in input (as_range i))
    (map as_range box))

-- the code's check says what the proved check says, with the ways that are computed in intervals
abbrev pub ShutSame : Type 0
ShutSame = (app : AppTree) (o : PropertyTree) (t : TableTree)
    → is_shut app o t ≡ hd.is_shut ways app o (as_table t)

abbrev pub OpenSame : Type 0
OpenSame = (app : AppTree) (o : PropertyTree) (t : TableTree)
    → is_open app o t ≡ hc.is_open app o (as_table t)
