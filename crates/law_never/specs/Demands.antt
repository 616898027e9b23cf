-- The check of a table as code makes it: what an item asks of the next row is plain data.
use Rattle.std.specs.Prelude.{ℕ, ◌+◌, ◌==◌, ◌&&◌, ◌||◌, not, Bool, true, false, if◌then◌else◌}
use Rattle.std.specs.Prelude.{List, [], ◌∷◌, ◌++◌, Option, Some, None, slice_get, is_some}
use Rattle.sx_mean.specs.declared.apps.Link.{Link}
use Rattle.sx_mean.specs.Application.{AppTree, PartTree}
use Rattle.sx_mean.specs.Places.{initial_cells}
use Rattle.sx_model.specs.Consequences.{is_device_at, is_part_at}
use Rattle.law_never.specs.Intervals.{Interval, Doing, MaySend, MayEmit, Path, Reactions, nought}
use Rattle.law_never.specs.Tables.{Place, Row, Table, at}
use Rattle.law_never.specs.Closed.{may_emit}
use Rattle.law_never.specs.Check.{each, each_from, one, fills, leads, may_absent, owes_none}
use Rattle.law_never.specs.Check.{place_within, stays, box_has}
use Rattle.sx_watch.specs.declared.topics.TopicKind.{TopicKind}
use Rattle.sx_watch.specs.declared.topics.TopicKind.TheVariants as kind
use Rattle.sx_watch.specs.Watching.{about}
use Rattle.sx_watch.specs.declared.topics.Topic.{Topic}
use Rattle.sx_watch.specs.Watched.{PropertyTree, input_of}

-- which modules or devices an item frees: none, one, or those at a node
pub data Freed : Type 0 where
  Nobody : Freed
  Only : ℕ → Freed
  AtNode : ℕ → Freed

abbrev pub frees_module : AppTree → Freed → ℕ → Bool
frees_module app Nobody m = false
frees_module app (Only k) m = k == m
frees_module app (AtNode n) m = is_part_at n (slice_get app.parts m)

abbrev pub frees_device : AppTree → Freed → ℕ → Bool
frees_device app Nobody d = false
frees_device app (Only k) d = k == d
frees_device app (AtNode n) d = is_device_at n (slice_get app.devices d)

-- a place of a module, and values of a device or connection, that the next row must have
pub record NeededPlace : Type 0 where
  pub module_of : ℕ
  pub place : Place

pub record NeededValues : Type 0 where
  pub index : ℕ
  pub values : Interval

-- what an item asks of the next row
pub record Demand : Type 0 where
  pub modules : Freed
  pub devices : Freed
  pub places : List NeededPlace
  pub readings : List NeededValues
  pub words : List NeededValues

-- the modules of a node may be absent
abbrev pub has_gone : AppTree → Freed → Row → Bool
has_gone app (AtNode n) new = each_from (λ m q. not (q.node == n) || may_absent new m) 0 app.parts
has_gone app _ new = true

abbrev pub has_place : Row → NeededPlace → Bool
has_place new k = one (place_within k.place) (at new.places k.module_of)

abbrev pub has_values : List (List Interval) → NeededValues → Bool
has_values xss k = fills (at xss k.index) k.values

-- the next row meets the demand
abbrev pub meets : AppTree → Row → Demand → Row → Bool
meets app r d new = stays (frees_module app d.modules) (frees_device app d.devices) r new
    && (has_gone app d.modules new && (each (has_place new) d.places
    && (each (has_values new.readings) d.readings && each (has_values new.words) d.words)))

-- wherever the property goes at the item, some row meets the demand
abbrev pub leads_on : Reactions → AppTree → PropertyTree → Table → Row → Topic → Interval → Demand
    → Bool
leads_on reacts app o t r topic i d = leads reacts o t topic i r (meets app r d)

-- nothing but what stays
abbrev pub frees : Freed → Freed → Demand
frees modules devices = record {
  modules = modules;
  devices = devices;
  places = [];
  readings =
      [];
  words = [];
}

-- what may be sent to the output, as words of the connection
abbrev pub carried : ℕ → ℕ → List Doing → List NeededValues
carried c output [] = []
carried c output (MaySend port i ∷ ds) =
    if port == output then record { index = c; values = i } ∷ carried c output ds
    else carried c output ds
carried c output (MayEmit i ∷ ds) = carried c output ds

-- what the module may send on a way, over the connections from the n-th on
abbrev pub sent_over : ℕ → ℕ → List Link → List Doing → List NeededValues
sent_over m n [] ds = []
sent_over m n (l ∷ ls) ds =
    (if l.from == m then carried n l.output ds else []) ++ sent_over m (n + 1) ls ds

-- the ways of a module from its places in which it owes nothing
abbrev pub ways_from : Reactions → PartTree → Option ℕ → Interval → List Place → List Path
ways_from reacts q input i [] = []
ways_from reacts q input i (p ∷ ps) =
    (if owes_none p.owed then reacts q.tree input i p.cells else []) ++ ways_from reacts q input i
    ps

-- the places to which ways lead, and what is sent on them

abbrev pub places_of : ℕ → List Path → List NeededPlace
places_of m [] = []
places_of m (path ∷ paths) =
    record { module_of = m; place = record { cells = path.cells; owed = may_emit path.acts } }
    ∷ places_of m paths

abbrev pub words_of : AppTree → ℕ → List Path → List NeededValues
words_of app m [] = []
words_of app m (path ∷ paths) = sent_over m 0 app.links path.acts ++ words_of app m paths

-- what a reaction asks
abbrev pub answers : Reactions → AppTree → Row → ℕ → PartTree → Option ℕ → Interval → Freed → Demand
answers reacts app r m q input i devices =
    let paths = ways_from reacts q input i (at r.places m) in record {
      modules = Only m;
      devices = devices;
      places = places_of m paths;
      readings = [];
      words = words_of app m paths;
    }

-- at each heard reset, drain and attestation
abbrev pub kind_demand : TopicKind → ℕ → Option Demand
kind_demand kind.Reset n = Some (frees (AtNode n) (AtNode n))
kind_demand kind.Drain d = Some (frees Nobody (Only d))
kind_demand kind.Attested m = Some (frees Nobody Nobody)
kind_demand _ n = None

abbrev pub topic_demand : Topic → Option Demand
topic_demand u = kind_demand u.kind u.index

abbrev pub leads_if : Reactions → AppTree → PropertyTree → Table → Row → Topic → Option Demand
    → Bool
leads_if reacts app o t r topic None = true
leads_if reacts app o t r topic (Some d) = leads_on reacts app o t r topic nought d

-- the numbers as intervals of one each
abbrev pub alone : List ℕ → List Interval
alone [] = []
alone (v ∷ vs) = record { low = v; high = v } ∷ alone vs

abbrev pub protect_demand : ℕ → PartTree → Demand
protect_demand m q = record {
  modules = Only m;
  devices = Nobody;
  places =
      record {
        module_of = m;
        place = record {
          cells = alone (initial_cells q.tree.decls);
          owed =
              [];
        };
      }
      ∷ [];
  readings = [];
  words = [];
}

abbrev pub sense_demand : ℕ → Interval → Demand
sense_demand d i = record {
  modules = Nobody;
  devices = Only d;
  places = [];
  readings = record { index = d; values = i } ∷ [];
  words = [];
}

abbrev pub out_demand : ℕ → List Interval → List Interval → Demand
out_demand m box rest = record {
  modules = Only m;
  devices = Nobody;
  places = record { module_of = m; place = record { cells = box; owed = rest } } ∷ [];
  readings = [];
  words = [];
}

abbrev pub reads_on : Reactions → AppTree → PropertyTree → Table → Row → ℕ → PartTree → Option ℕ
    → Bool
reads_on reacts app o t r m q None = true
reads_on reacts app o t r m q (Some d) = each (λ i. leads_on reacts app o t r (about kind.Read m) i
    (answers reacts app r m q None i (Only d))) (at r.readings d)

abbrev pub takes_on : Reactions → AppTree → PropertyTree → Table → Row → ℕ → Link
    → Option PartTree →
    Bool
takes_on reacts app o t r c l None = true
takes_on reacts app o t r c l (Some q) = each (λ i. leads_on reacts app o t r (about kind.Take c) i
    (answers reacts app r l.to q (Some l.input) i Nobody)) (at r.words c)

abbrev pub writes_on : Reactions → AppTree → PropertyTree → Table → Row → ℕ → List Interval
    → List Interval → Bool
writes_on reacts app o t r m box [] = true
writes_on reacts app o t r m box (i ∷ rest) =
    leads_on reacts app o t r (about kind.Out m) i (out_demand m box rest)

-- from the row no item leads out of the table
abbrev pub is_shut_at : Reactions → AppTree → PropertyTree → Table → Row → Bool
is_shut_at reacts app o t r =
    each (λ topic. leads_if reacts app o t r topic (topic_demand topic)) o.topics
    && (each_from (λ m q. is_some (input_of o (about kind.Reset q.node)) || may_absent r m) 0
    app.parts
    && (each_from (λ m q. not (may_absent r m)
    || leads_on reacts app o t r (about kind.Protect m) nought (protect_demand m q)) 0 app.parts
    && (each_from
    (λ d xs. each (λ i. leads_on reacts app o t r (about kind.Sense d) i (sense_demand d i)) xs) 0
    t.given
    && (each_from (λ m q. reads_on reacts app o t r m q q.device) 0 app.parts
    && (each_from (λ c l. takes_on reacts app o t r c l (slice_get app.parts l.to)) 0 app.links
    && (each_from (λ m xs. each (λ p. writes_on reacts app o t r m p.cells p.owed) xs) 0 r.places
    && each_from
    (λ d xs. each (λ i. leads_on reacts app o t r (about kind.Raw d) i (frees Nobody Nobody)) xs)
    0 t.given))))))

-- the table has the property's first cells, with all modules absent, and it is closed at each row
abbrev pub is_shut : Reactions → AppTree → PropertyTree → Table → Bool
is_shut reacts app o t = one (λ r. box_has r.watch (initial_cells o.tree.decls)
    && each_from (λ m q. may_absent r m) 0 app.parts) t.rows
    && each (is_shut_at reacts app o t) t.rows
