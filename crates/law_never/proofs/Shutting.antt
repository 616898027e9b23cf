-- The whole check.
use Rattle.std.proofs.Common.{◌≡◌, ℕ, ◌+◌, ◌&&◌, ◌||◌, not, List, [], ◌∷◌, map, Option, Some, None}
use Rattle.std.proofs.Common.{refl, ap, ◌∙◌}
use Rattle.std.specs.Prelude.{slice_get, is_some, true}
use Rattle.std.specs.Option.{option_map_or}
use Rattle.sx_table.specs.Leads.{leads_on}
use Rattle.sx_mean.specs.declared.apps.AppDevice.{AppDevice}
use Rattle.sx_mean.specs.declared.apps.Link.{Link}
use Rattle.sx_mean.specs.Application.{AppTree, PartTree, is_sensor}
use Rattle.sx_mean.specs.Places.{initial_cells}
use Rattle.sx_span.specs.declared.intervals.Interval.{Interval}
use Rattle.sx_table.specs.declared.stays.Freed.TheVariants.{Nobody, Only, AtNode}
use Rattle.sx_table.specs.Places.{PlaceTree}
use Rattle.sx_table.specs.Stays.{is_set, values_at}
use Rattle.sx_table.specs.Rows.{RowTree}
use Rattle.sx_table.specs.Rows.{TableTree}
use Rattle.sx_table.specs.Made as mm
use Rattle.law_never.specs.Intervals as hi
use Rattle.law_never.specs.Tables as ht
use Rattle.law_never.specs.Check as hc
use Rattle.law_never.specs.Demands as hd
use Rattle.law_never.specs.Same.{as_demand, as_interval, as_place, as_row, as_table, ways}
use Rattle.law_never.proofs.Same.{and_same, or_same, at_map, fills_same, has_same}
use Rattle.sx_table.specs.Shut as ms
use Rattle.law_never.proofs.Leading.{leads_same}
use Rattle.law_never.proofs.Making.{answers_same}
use Rattle.sx_watch.specs.declared.topics.TopicKind.{TopicKind}
use Rattle.sx_watch.specs.declared.topics.TopicKind.TheVariants as kind
use Rattle.sx_watch.specs.Watching.{about}
use Rattle.sx_watch.specs.declared.topics.Topic.{Topic}
use Rattle.sx_watch.specs.Watched.{PropertyTree, input_of}

heard_kind : (app : AppTree) (o : PropertyTree) (t : TableTree) (r : RowTree) (u : Topic) (k : TopicKind) (n : ℕ)
    → option_map_or (λ d. leads_on app o t r u ms.nought d) (ms.heard_demand k n) true ≡ hd.leads_if ways app o (as_table t) (as_row r) u (hd.kind_demand k n)
heard_kind app o t r u kind.Reset n = leads_same app o t r u ms.nought (ms.frees (AtNode n) (AtNode n)) _ refl
heard_kind app o t r u kind.Drain n = leads_same app o t r u ms.nought (ms.frees Nobody (Only n)) _ refl
heard_kind app o t r u kind.Attested n = leads_same app o t r u ms.nought (ms.frees Nobody Nobody) _ refl
heard_kind app o t r u kind.Sense n = refl
heard_kind app o t r u kind.Read n = refl
heard_kind app o t r u kind.Take n = refl
heard_kind app o t r u kind.Out n = refl
heard_kind app o t r u kind.Raw n = refl
heard_kind app o t r u kind.Protect n = refl

heard_same : (app : AppTree) (o : PropertyTree) (t : TableTree) (r : RowTree) (u : Topic) → ms.heard_on app o t r u ≡ hd.leads_if ways app o (as_table t) (as_row r) u (hd.topic_demand u)
heard_same app o t r u = heard_kind app o t r u u.kind u.index

topics_same : (app : AppTree) (o : PropertyTree) (t : TableTree) (r : RowTree) (us : List Topic)
    → ms.topics_on app o t r us ≡ hc.each (λ u. hd.leads_if ways app o (as_table t) (as_row r) u (hd.topic_demand u)) us
topics_same app o t r [] = refl
topics_same app o t r (u ∷ us) = and_same _ _ _ _ (heard_same app o t r u) (topics_same app o t r us)

resets_same : (o : PropertyTree) (r : RowTree) (m : ℕ) (qs : List PartTree)
    → ms.resets_on o r m qs ≡ hc.each_from (λ m (q : PartTree). is_some (input_of o (about kind.Reset q.node)) || hc.may_absent (as_row r) m) m qs
resets_same o r m [] = refl
resets_same o r m (q ∷ qs) = and_same _ _ _ _ refl (resets_same o r (m + 1) qs)

alone_same : (vs : List ℕ) → map as_interval (ms.alone vs) ≡ hd.alone vs
alone_same [] = refl
alone_same (v ∷ vs) = ap (λ l. record { low = v; high = v } ∷ l) (alone_same vs)

abbrev placed : ℕ → List hi.Interval → hd.Demand
placed m box = record { modules = hd.Only m; devices = hd.Nobody; places = record { module_of = m; place = record { cells = box; owed = [] } } ∷ []; readings = []; words = [] }

protect_one : (app : AppTree) (o : PropertyTree) (t : TableTree) (r : RowTree) (m : ℕ) (q : PartTree) → ms.protects_at app o t r m q
    ≡ (not (hc.may_absent (as_row r) m) || hd.leads_on ways app o (as_table t) (as_row r) (about kind.Protect m) hi.nought (hd.protect_demand m q))
protect_one app o t r m q =
    ap (λ x. not (is_set r.absent m) || x) (leads_same app o t r (about kind.Protect m) ms.nought (ms.protect_demand m q.tree) (hd.protect_demand m q)
    (ap (λ l. placed m l) (alone_same (initial_cells q.tree.decls))))

protects_same : (app : AppTree) (o : PropertyTree) (t : TableTree) (r : RowTree) (m : ℕ) (qs : List PartTree) → ms.protects_on app o t r m qs
    ≡ hc.each_from (λ m q. not (hc.may_absent (as_row r) m) || hd.leads_on ways app o (as_table t) (as_row r) (about kind.Protect m) hi.nought (hd.protect_demand m q)) m qs
protects_same app o t r m [] = refl
protects_same app o t r m (q ∷ qs) = and_same _ _ _ _ (protect_one app o t r m q) (protects_same app o t r (m + 1) qs)

gives_one : (app : AppTree) (o : PropertyTree) (t : TableTree) (r : RowTree) (k : TopicKind) (asked : ℕ → hi.Interval → hd.Demand)
    → ((d : ℕ) (i : Interval) → as_demand (ms.given_demand k d i) ≡ asked d (as_interval i)) → (d : ℕ) (is : List Interval)
    → ms.gives_of app o t r k d is ≡ hc.each (λ i. hd.leads_on ways app o (as_table t) (as_row r) (about k d) i (asked d i)) (map as_interval is)
gives_one app o t r k asked same d [] = refl
gives_one app o t r k asked same d (i ∷ is) =
    and_same _ _ _ _ (leads_same app o t r (about k d) i (ms.given_demand k d i) (asked d (as_interval i)) (same d i)) (gives_one app o t r k asked same d is)

gives_same : (app : AppTree) (o : PropertyTree) (t : TableTree) (r : RowTree) (k : TopicKind) (asked : ℕ → hi.Interval → hd.Demand)
    → ((d : ℕ) (i : Interval) → as_demand (ms.given_demand k d i) ≡ asked d (as_interval i)) → (d : ℕ) (xss : List (List Interval))
    → ms.gives_on app o t r k d xss
    ≡ hc.each_from (λ d xs. hc.each (λ i. hd.leads_on ways app o (as_table t) (as_row r) (about k d) i (asked d i)) xs) d (map (map as_interval) xss)
gives_same app o t r k asked same d [] = refl
gives_same app o t r k asked same d (xs ∷ xss) = and_same _ _ _ _ (gives_one app o t r k asked same d xs) (gives_same app o t r k asked same (d + 1) xss)

reads_list : (app : AppTree) (o : PropertyTree) (t : TableTree) (r : RowTree) (m : ℕ) (q : PartTree) (d : ℕ) (is : List Interval) → ms.reads_of app o t r m q.tree d is
    ≡ hc.each (λ i. hd.leads_on ways app o (as_table t) (as_row r) (about kind.Read m) i (hd.answers ways app (as_row r) m q None i (hd.Only d))) (map as_interval is)
reads_list app o t r m q d [] = refl
reads_list app o t r m q d (i ∷ is) =
    and_same _ _ _ _ (leads_same app o t r (about kind.Read m) i (mm.answers app r m q.tree None i (Only d))
    (hd.answers ways app (as_row r) m q None (as_interval i) (hd.Only d)) (answers_same app r m q None i (Only d)))
    (reads_list app o t r m q d is)

reads_one : (app : AppTree) (o : PropertyTree) (t : TableTree) (r : RowTree) (m : ℕ) (q : PartTree) (x : Option ℕ)
    → ms.reads_if app o t r m q.tree x ≡ hd.reads_on ways app o (as_table t) (as_row r) m q x
reads_one app o t r m q None = refl
reads_one app o t r m q (Some d) =
    reads_list app o t r m q d (values_at r.readings d)
    ∙ ap (λ l. hc.each (λ i. hd.leads_on ways app o (as_table t) (as_row r) (about kind.Read m) i (hd.answers ways app (as_row r) m q None i (hd.Only d))) l) (at_map as_interval r.readings d)

reads_same : (app : AppTree) (o : PropertyTree) (t : TableTree) (r : RowTree) (m : ℕ) (qs : List PartTree)
    → ms.reads_on app o t r m qs ≡ hc.each_from (λ m (q : PartTree). hd.reads_on ways app o (as_table t) (as_row r) m q q.device) m qs
reads_same app o t r m [] = refl
reads_same app o t r m (q ∷ qs) = and_same _ _ _ _ (reads_one app o t r m q q.device) (reads_same app o t r (m + 1) qs)

takes_list : (app : AppTree) (o : PropertyTree) (t : TableTree) (r : RowTree) (c : ℕ) (l : Link) (q : PartTree) (is : List Interval) → ms.takes_of app o t r c l q.tree is
    ≡ hc.each (λ i. hd.leads_on ways app o (as_table t) (as_row r) (about kind.Take c) i (hd.answers ways app (as_row r) l.to q (Some l.input) i hd.Nobody)) (map as_interval is)
takes_list app o t r c l q [] = refl
takes_list app o t r c l q (i ∷ is) =
    and_same _ _ _ _ (leads_same app o t r (about kind.Take c) i (mm.answers app r l.to q.tree (Some l.input) i Nobody) (hd.answers ways app (as_row r) l.to q (Some l.input) (as_interval i) hd.Nobody)
    (answers_same app r l.to q (Some l.input) i Nobody)) (takes_list app o t r c l q is)

takes_one : (app : AppTree) (o : PropertyTree) (t : TableTree) (r : RowTree) (c : ℕ) (l : Link) (x : Option PartTree)
    → ms.takes_if app o t r c l x ≡ hd.takes_on ways app o (as_table t) (as_row r) c l x
takes_one app o t r c l None = refl
takes_one app o t r c l (Some q) =
    takes_list app o t r c l q (values_at r.words c)
    ∙ ap (λ k. hc.each (λ i. hd.leads_on ways app o (as_table t) (as_row r) (about kind.Take c) i (hd.answers ways app (as_row r) l.to q (Some l.input) i hd.Nobody)) k) (at_map as_interval r.words c)

takes_same : (app : AppTree) (o : PropertyTree) (t : TableTree) (r : RowTree) (c : ℕ) (ls : List Link)
    → ms.takes_on app o t r c ls ≡ hc.each_from (λ c (l : Link). hd.takes_on ways app o (as_table t) (as_row r) c l (slice_get app.parts l.to)) c ls
takes_same app o t r c [] = refl
takes_same app o t r c (l ∷ ls) = and_same _ _ _ _ (takes_one app o t r c l (slice_get app.parts l.to)) (takes_same app o t r (c + 1) ls)

writes_one : (app : AppTree) (o : PropertyTree) (t : TableTree) (r : RowTree) (m : ℕ) (box owed : List Interval)
    → ms.writes_owed app o t r m box owed ≡ hd.writes_on ways app o (as_table t) (as_row r) m (map as_interval box) (map as_interval owed)
writes_one app o t r m box [] = refl
writes_one app o t r m box (i ∷ rest) = leads_same app o t r (about kind.Out m) i (ms.place_demand m box rest) (hd.out_demand m (map as_interval box) (map as_interval rest)) refl

writes_list : (app : AppTree) (o : PropertyTree) (t : TableTree) (r : RowTree) (m : ℕ) (ps : List PlaceTree)
    → ms.writes_of app o t r m ps ≡ hc.each (λ (p : ht.Place). hd.writes_on ways app o (as_table t) (as_row r) m p.cells p.owed) (map as_place ps)
writes_list app o t r m [] = refl
writes_list app o t r m (p ∷ ps) = and_same _ _ _ _ (writes_one app o t r m p.cells p.owed) (writes_list app o t r m ps)

writes_same : (app : AppTree) (o : PropertyTree) (t : TableTree) (r : RowTree) (m : ℕ) (pss : List (List PlaceTree)) → ms.writes_on app o t r m pss
    ≡ hc.each_from (λ m xs. hc.each (λ (p : ht.Place). hd.writes_on ways app o (as_table t) (as_row r) m p.cells p.owed) xs) m (map (map as_place) pss)
writes_same app o t r m [] = refl
writes_same app o t r m (ps ∷ pss) = and_same _ _ _ _ (writes_list app o t r m ps) (writes_same app o t r (m + 1) pss)

shut_at_same : (app : AppTree) (o : PropertyTree) (t : TableTree) (r : RowTree) → ms.is_shut_at app o t r ≡ hd.is_shut_at ways app o (as_table t) (as_row r)
shut_at_same app o t r =
    and_same _ _ _ _ (topics_same app o t r o.topics) (and_same _ _ _ _ (resets_same o r 0 app.parts) (and_same _ _ _ _ (protects_same app o t r 0 app.parts)
    (and_same _ _ _ _ (gives_same app o t r kind.Sense hd.sense_demand (λ d i. refl) 0 t.given) (and_same _ _ _ _ (reads_same app o t r 0 app.parts) (and_same _ _ _ _ (takes_same app o t r 0 app.links)
    (and_same _ _ _ _ (writes_same app o t r 0 r.places) (gives_same app o t r kind.Raw (λ d i. hd.frees hd.Nobody hd.Nobody) (λ d i. refl) 0 t.given)))))))

shut_all : (app : AppTree) (o : PropertyTree) (t : TableTree) (rs : List RowTree) → ms.each_shut app o t rs ≡ hc.each (hd.is_shut_at ways app o (as_table t)) (map as_row rs)
shut_all app o t [] = refl
shut_all app o t (r ∷ rs) = and_same _ _ _ _ (shut_at_same app o t r) (shut_all app o t rs)

absent_same : (r : RowTree) (m : ℕ) (qs : List PartTree) → ms.absent_from r.absent m qs ≡ hc.each_from (λ m (q : PartTree). hc.may_absent (as_row r) m) m qs
absent_same r m [] = refl
absent_same r m (q ∷ qs) = ap (λ y. is_set r.absent m && y) (absent_same r (m + 1) qs)

begins_same : (app : AppTree) (cells : List ℕ) (rs : List RowTree) → ms.begins app cells rs
    ≡ hc.one (λ (r : ht.Row). hc.box_has r.watch cells && hc.each_from (λ m (q : PartTree). hc.may_absent r m) 0 app.parts) (map as_row rs)
begins_same app cells [] = refl
begins_same app cells (r ∷ rs) = or_same _ _ _ _ (and_same _ _ _ _ (has_same r.watch cells) (absent_same r 0 app.parts)) (begins_same app cells rs)

pub shut_same : (app : AppTree) (o : PropertyTree) (t : TableTree) → ms.is_shut app o t ≡ hd.is_shut ways app o (as_table t)
shut_same app o t = and_same _ _ _ _ (begins_same app (initial_cells o.tree.decls) t.rows) (shut_all app o t t.rows)

open_one : (xss : List (List Interval)) (d : ℕ) (xs : List AppDevice) → ms.opens_from xss d xs
    ≡ hc.each_from (λ d (x : AppDevice). not (is_sensor x.kind) || hc.spans 0 32767 (ht.at (map (map as_interval) xss) d)) d xs
open_one xss d [] = refl
open_one xss d (x ∷ xs) =
    and_same _ _ _ _ (ap (λ y. not (is_sensor x.kind) || y) (fills_same (values_at xss d) (record { low = 0; high = 32767 }) ∙ ap (λ l. hc.spans 0 32767 l) (at_map as_interval xss d)))
    (open_one xss (d + 1) xs)

raw_kind : (t : TableTree) (k : TopicKind) (d : ℕ) → ms.fills_raw t.given k d ≡ hc.fills_raw (as_table t) k d
raw_kind t kind.Raw d = fills_same (values_at t.given d) (record { low = 0; high = 65535 }) ∙ ap (λ l. hc.spans 0 65535 l) (at_map as_interval t.given d)
raw_kind t kind.Reset d = refl
raw_kind t kind.Drain d = refl
raw_kind t kind.Attested d = refl
raw_kind t kind.Sense d = refl
raw_kind t kind.Read d = refl
raw_kind t kind.Take d = refl
raw_kind t kind.Out d = refl
raw_kind t kind.Protect d = refl

raw_one : (t : TableTree) (u : Topic) → ms.has_raw t.given u ≡ hc.has_raw (as_table t) u
raw_one t u = raw_kind t u.kind u.index

raw_all : (t : TableTree) (us : List Topic) → ms.have_raw t.given us ≡ hc.each (hc.has_raw (as_table t)) us
raw_all t [] = refl
raw_all t (u ∷ us) = and_same _ _ _ _ (raw_one t u) (raw_all t us)

pub open_same : (app : AppTree) (o : PropertyTree) (t : TableTree) → ms.is_open app o t ≡ hc.is_open app o (as_table t)
open_same app o t = and_same _ _ _ _ (open_one t.given 0 app.devices) (raw_all t o.topics)
