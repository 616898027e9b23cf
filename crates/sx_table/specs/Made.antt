-- What a module's reaction asks of the next row.
use Rattle.std.specs.Prelude.{ℕ, ◌+◌, ◌==◌, Bool, true, false, if◌then◌else◌, List, [], ◌∷◌, ◌++◌}
use Rattle.std.specs.Prelude.{Option, Some, None}
use Rattle.sx_lang.specs.Tree.{ModuleTree}
use Rattle.sx_mean.specs.declared.apps.Link.{Link}
use Rattle.sx_mean.specs.Application.{AppTree}
use Rattle.sx_span.specs.declared.pieces.EventRange.{EventRange}
use Rattle.sx_span.specs.declared.pieces.EventRange.TheVariants.{InputIn, SampleIn}
use Rattle.sx_span.specs.Paths.{react_within}
use Rattle.sx_span.specs.declared.pieces.ActRange.{ActRange}
use Rattle.sx_span.specs.declared.pieces.ActRange.TheVariants.{SendIn, EmitIn}
use Rattle.sx_span.specs.Ranges.{Path}
use Rattle.sx_table.specs.Boxes.{Interval}
use Rattle.sx_table.specs.Places.{PlaceTree}
use Rattle.sx_table.specs.Stays.{Freed, Only}
use Rattle.sx_table.specs.Demands.{DemandTree, NeededTree, NeededValues}
use Rattle.sx_table.specs.Rows.{RowTree, places_at}

-- what may be sent to the output, as words of the connection
abbrev pub carried_one : ℕ → ℕ → ActRange → List NeededValues
carried_one c output (SendIn port i) =
    if port == output then record { index = c; values = i } ∷ [] else []
carried_one c output (EmitIn i) = []

abbrev pub carried : ℕ → ℕ → List ActRange → List NeededValues
carried c output [] = []
carried c output (a ∷ acts) = carried_one c output a ++ carried c output acts

-- what the module may send on a way, over the n-th connection, and over those from the n-th on
abbrev pub sent_by : ℕ → ℕ → Link → List ActRange → List NeededValues
sent_by m n l acts = if l.from == m then carried n l.output acts else []

abbrev pub sent_over : ℕ → ℕ → List Link → List ActRange → List NeededValues
sent_over m n [] acts = []
sent_over m n (l ∷ ls) acts = sent_by m n l acts ++ sent_over m (n + 1) ls acts

abbrev pub words_of : AppTree → ℕ → List Path → List NeededValues
words_of app m [] = []
words_of app m (p ∷ ps) = sent_over m 0 app.links p.acts ++ words_of app m ps

-- what may be emitted
abbrev pub emit_of : ActRange → List Interval
emit_of (SendIn port i) = []
emit_of (EmitIn i) = i ∷ []

abbrev pub may_emit : List ActRange → List Interval
may_emit [] = []
may_emit (a ∷ acts) = emit_of a ++ may_emit acts

-- the places to which ways lead
abbrev pub needed_at : ℕ → Path → NeededTree
needed_at m p = record { module_of = m; place = record { cells = p.cells; owed = may_emit p.acts } }

abbrev pub places_of : ℕ → List Path → List NeededTree
places_of m [] = []
places_of m (p ∷ ps) = needed_at m p ∷ places_of m ps

abbrev pub owes_none : List Interval → Bool
owes_none [] = true
owes_none (i ∷ is) = false

abbrev pub event_in : Option ℕ → Interval → EventRange
event_in None i = SampleIn i
event_in (Some j) i = InputIn j i

-- the ways of a module from its places in which it owes nothing

abbrev pub reacts : ModuleTree → Option ℕ → Interval → List Interval → List Path
reacts tree input i box = react_within tree (event_in input i) box

abbrev pub ways_at : ModuleTree → Option ℕ → Interval → PlaceTree → List Path
ways_at tree input i p = if owes_none p.owed then reacts tree input i p.cells else []

abbrev pub ways_from : ModuleTree → Option ℕ → Interval → List PlaceTree → List Path
ways_from tree input i [] = []
ways_from tree input i (p ∷ ps) = ways_at tree input i p ++ ways_from tree input i ps

-- what a reaction asks
abbrev pub answered : AppTree → ℕ → List Path → Freed → DemandTree
answered app m paths devices = record {
  modules = Only m;
  devices = devices;
  places = places_of m paths;
  readings = [];
  words = words_of app m paths;
}

abbrev pub answers : AppTree → RowTree → ℕ → ModuleTree → Option ℕ → Interval → Freed → DemandTree
answers app r m tree input i devices =
    answered app m (ways_from tree input i (places_at r.places m)) devices
