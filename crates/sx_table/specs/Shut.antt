-- From no row an item leads out of the table.
use Rattle.std.specs.Prelude.{ℕ, ◌+◌, ◌&&◌, ◌||◌, not, Bool, true, false, List, [], ◌∷◌}
use Rattle.std.specs.Prelude.{Option, Some, None}
use Rattle.std.specs.Prelude.{is_some, slice_get}
use Rattle.std.specs.Option.{option_map_or}
use Rattle.sx_lang.specs.Tree.{ModuleTree}
use Rattle.sx_mean.specs.declared.apps.AppDevice.{AppDevice}
use Rattle.sx_mean.specs.declared.apps.Link.{Link}
use Rattle.sx_mean.specs.Application.{AppTree, PartTree, is_sensor}
use Rattle.sx_mean.specs.Places.{initial_cells}
use Rattle.sx_table.specs.Boxes.{Interval, box_has, fills}
use Rattle.sx_table.specs.Places.{PlaceTree}
use Rattle.sx_table.specs.Stays.{Freed, Nobody, Only, AtNode, is_set, values_at}
use Rattle.sx_table.specs.Demands.{DemandTree}
use Rattle.sx_table.specs.Made.{answers}
use Rattle.sx_table.specs.Leads.{leads_on}
use Rattle.sx_table.specs.Rows.{RowTree, TableTree}
use Rattle.sx_watch.specs.declared.topics.Topic.{Topic}
use Rattle.sx_watch.specs.declared.topics.TopicKind.{TopicKind}
use Rattle.sx_watch.specs.declared.topics.TopicKind.TheVariants.{Attested, Drain, Out, Protect, Raw}
use Rattle.sx_watch.specs.declared.topics.TopicKind.TheVariants.{Read, Reset, Sense, Take}
use Rattle.sx_watch.specs.Watched.{PropertyTree, input_of}
use Rattle.sx_watch.specs.Watching.{about}

abbrev pub nought : Interval
nought = record { low = 0; high = 0 }

-- nothing but what stays
abbrev pub frees : Freed → Freed → DemandTree
frees modules devices = record {
  modules = modules;
  devices = devices;
  places = [];
  readings = [];
  words = [];
}

abbrev pub place_demand : ℕ → List Interval → List Interval → DemandTree
place_demand m box owed = record {
  modules = Only m;
  devices = Nobody;
  places = record { module_of = m; place = record { cells = box; owed = owed } } ∷ [];
  readings = [];
  words = [];
}

abbrev pub sense_demand : ℕ → Interval → DemandTree
sense_demand d i = record {
  modules = Nobody;
  devices = Only d;
  places = [];
  readings = record { index = d; values = i } ∷ [];
  words = [];
}

-- the numbers as intervals of one each
abbrev pub alone : List ℕ → List Interval
alone [] = []
alone (v ∷ vs) = record { low = v; high = v } ∷ alone vs

abbrev pub protect_demand : ℕ → ModuleTree → DemandTree
protect_demand m tree = place_demand m (alone (initial_cells tree.decls)) []

-- what is asked at a heard reset, drain or attestation, by its index
abbrev pub heard_demand : TopicKind → ℕ → Option DemandTree
heard_demand Reset n = Some (frees (AtNode n) (AtNode n))
heard_demand Drain d = Some (frees Nobody (Only d))
heard_demand Attested m = Some (frees Nobody Nobody)
heard_demand _ n = None

-- at each of these
abbrev pub heard_on : AppTree → PropertyTree → TableTree → RowTree → Topic → Bool
heard_on app o t r u =
    option_map_or (λ d. leads_on app o t r u nought d) (heard_demand u.kind u.index) true

abbrev pub topics_on : AppTree → PropertyTree → TableTree → RowTree → List Topic → Bool
topics_on app o t r [] = true
topics_on app o t r (u ∷ us) = heard_on app o t r u && topics_on app o t r us

-- a reset is heard, or the module may be absent

abbrev pub resets_at : PropertyTree → RowTree → ℕ → PartTree → Bool
resets_at o r m q = is_some (input_of o (about Reset q.node)) || is_set r.absent m

abbrev pub resets_on : PropertyTree → RowTree → ℕ → List PartTree → Bool
resets_on o r m [] = true
resets_on o r m (q ∷ qs) = resets_at o r m q && resets_on o r (m + 1) qs

-- a module begins

abbrev pub protects_at : AppTree → PropertyTree → TableTree → RowTree → ℕ → PartTree → Bool
protects_at app o t r m q = not (is_set r.absent m)
    || leads_on app o t r (about Protect m) nought (protect_demand m q.tree)

abbrev pub protects_on : AppTree → PropertyTree → TableTree → RowTree → ℕ → List PartTree → Bool
protects_on app o t r m [] = true
protects_on app o t r m (q ∷ qs) = protects_at app o t r m q && protects_on app o t r (m + 1) qs

-- a sensor gets a value, or other code writes to an actuator

abbrev pub given_demand : TopicKind → ℕ → Interval → DemandTree
given_demand Sense d i = sense_demand d i
given_demand _ d i = frees Nobody Nobody

abbrev pub gives_at : AppTree → PropertyTree → TableTree → RowTree → TopicKind → ℕ → Interval → Bool
gives_at app o t r kind d i = leads_on app o t r (about kind d) i (given_demand kind d i)

abbrev pub gives_of : AppTree → PropertyTree → TableTree → RowTree → TopicKind → ℕ → List Interval
    → Bool
gives_of app o t r kind d [] = true
gives_of app o t r kind d (i ∷ is) = gives_at app o t r kind d i && gives_of app o t r kind d is

abbrev pub gives_on : AppTree → PropertyTree → TableTree → RowTree → TopicKind → ℕ
    → List (List Interval) → Bool
gives_on app o t r kind d [] = true
gives_on app o t r kind d (xs ∷ xss) = gives_of app o t r kind d xs
    && gives_on app o t r kind (d + 1) xss

-- a module reads the value of its device

abbrev pub reads_at : AppTree → PropertyTree → TableTree → RowTree → ℕ → ModuleTree → ℕ → Interval
    → Bool
reads_at app o t r m tree d i =
    leads_on app o t r (about Read m) i (answers app r m tree None i (Only d))

abbrev pub reads_of : AppTree → PropertyTree → TableTree → RowTree → ℕ → ModuleTree → ℕ
    → List Interval → Bool
reads_of app o t r m tree d [] = true
reads_of app o t r m tree d (i ∷ is) = reads_at app o t r m tree d i
    && reads_of app o t r m tree d is

abbrev pub reads_if : AppTree → PropertyTree → TableTree → RowTree → ℕ → ModuleTree → Option ℕ
    → Bool
reads_if app o t r m tree None = true
reads_if app o t r m tree (Some d) = reads_of app o t r m tree d (values_at r.readings d)

abbrev pub reads_on : AppTree → PropertyTree → TableTree → RowTree → ℕ → List PartTree → Bool
reads_on app o t r m [] = true
reads_on app o t r m (q ∷ qs) = reads_if app o t r m q.tree q.device
    && reads_on app o t r (m + 1) qs

-- a part takes a word

abbrev pub takes_at : AppTree → PropertyTree → TableTree → RowTree → ℕ → Link → ModuleTree
    → Interval → Bool
takes_at app o t r c l tree i =
    leads_on app o t r (about Take c) i (answers app r l.to tree (Some l.input) i Nobody)

abbrev pub takes_of : AppTree → PropertyTree → TableTree → RowTree → ℕ → Link → ModuleTree
    → List Interval → Bool
takes_of app o t r c l tree [] = true
takes_of app o t r c l tree (i ∷ is) = takes_at app o t r c l tree i
    && takes_of app o t r c l tree is

abbrev pub takes_if : AppTree → PropertyTree → TableTree → RowTree → ℕ → Link → Option PartTree
    → Bool
takes_if app o t r c l None = true
takes_if app o t r c l (Some q) = takes_of app o t r c l q.tree (values_at r.words c)

abbrev pub takes_part : AppTree → PropertyTree → TableTree → RowTree → ℕ → Link → List PartTree
    → Bool
takes_part app o t r c l qs = takes_if app o t r c l (slice_get qs l.to)

abbrev pub takes_on : AppTree → PropertyTree → TableTree → RowTree → ℕ → List Link → Bool
takes_on app o t r c [] = true
takes_on app o t r c (l ∷ ls) = takes_part app o t r c l app.parts && takes_on app o t r (c + 1) ls

-- a module writes the first emit that it owes

abbrev pub writes_owed : AppTree → PropertyTree → TableTree → RowTree → ℕ → List Interval
    → List Interval → Bool
writes_owed app o t r m box [] = true
writes_owed app o t r m box (i ∷ rest) = leads_on app o t r (about Out m) i
    (place_demand m box rest)

abbrev pub writes_of : AppTree → PropertyTree → TableTree → RowTree → ℕ → List PlaceTree → Bool
writes_of app o t r m [] = true
writes_of app o t r m (p ∷ ps) = writes_owed app o t r m p.cells p.owed && writes_of app o t r m ps

abbrev pub writes_on : AppTree → PropertyTree → TableTree → RowTree → ℕ → List (List PlaceTree)
    → Bool
writes_on app o t r m [] = true
writes_on app o t r m (ps ∷ pss) = writes_of app o t r m ps && writes_on app o t r (m + 1) pss

-- from the row no item leads out of the table

abbrev pub shut_last : AppTree → PropertyTree → TableTree → RowTree → Bool
shut_last app o t r = takes_on app o t r 0 app.links
    && (writes_on app o t r 0 r.places && gives_on app o t r Raw 0 t.given)

abbrev pub shut_within : AppTree → PropertyTree → TableTree → RowTree → Bool
shut_within app o t r = gives_on app o t r Sense 0 t.given
    && (reads_on app o t r 0 app.parts && shut_last app o t r)

abbrev pub is_shut_at : AppTree → PropertyTree → TableTree → RowTree → Bool
is_shut_at app o t r = topics_on app o t r o.topics
    && (resets_on o r 0 app.parts && (protects_on app o t r 0 app.parts && shut_within app o t r))

abbrev pub each_shut : AppTree → PropertyTree → TableTree → List RowTree → Bool
each_shut app o t [] = true
each_shut app o t (r ∷ rs) = is_shut_at app o t r && each_shut app o t rs

-- the table has the property's first cells, with all modules absent, and it is closed at each row

abbrev pub absent_at : List Bool → ℕ → PartTree → Bool
absent_at bits m q = is_set bits m

abbrev pub absent_from : List Bool → ℕ → List PartTree → Bool
absent_from bits m [] = true
absent_from bits m (q ∷ qs) = absent_at bits m q && absent_from bits (m + 1) qs

abbrev pub begins_at : AppTree → List ℕ → RowTree → Bool
begins_at app cells r = box_has r.watch cells && absent_from r.absent 0 app.parts

abbrev pub begins : AppTree → List ℕ → List RowTree → Bool
begins app cells [] = false
begins app cells (r ∷ rs) = begins_at app cells r || begins app cells rs

abbrev pub is_shut : AppTree → PropertyTree → TableTree → Bool
is_shut app o t = begins app (initial_cells o.tree.decls) t.rows && each_shut app o t t.rows

-- the table has each value that can be given from outside

abbrev pub opens_at : List (List Interval) → ℕ → AppDevice → Bool
opens_at xss d x = not (is_sensor x.kind)
    || fills (values_at xss d) (record { low = 0; high = 32767 })

abbrev pub opens_from : List (List Interval) → ℕ → List AppDevice → Bool
opens_from xss d [] = true
opens_from xss d (x ∷ xs) = opens_at xss d x && opens_from xss (d + 1) xs

abbrev pub fills_raw : List (List Interval) → TopicKind → ℕ → Bool
fills_raw xss Raw d = fills (values_at xss d) (record { low = 0; high = 65535 })
fills_raw xss _ d = true

abbrev pub has_raw : List (List Interval) → Topic → Bool
has_raw xss u = fills_raw xss u.kind u.index

abbrev pub have_raw : List (List Interval) → List Topic → Bool
have_raw xss [] = true
have_raw xss (u ∷ us) = has_raw xss u && have_raw xss us

abbrev pub is_open : AppTree → PropertyTree → TableTree → Bool
is_open app o t = opens_from t.given 0 app.devices && have_raw t.given o.topics
