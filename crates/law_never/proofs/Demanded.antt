-- A table that passes the check as code makes it is closed.
use Rattle.std.proofs.Common.{◌≡◌, ℕ, zero, suc, ◌+◌, ◌⊎◌, inl, inr, ◌==◌, ◌&&◌, ◌||◌, Bool, true, false, not, if◌then◌else◌, List, [], ◌∷◌, ◌++◌, Option, Some}
use Rattle.std.proofs.Common.{None, refl, sym, ◌∙◌, subst, arith}
use Rattle.std.specs.Prelude.{slice_get, is_some}
use Rattle.std.proofs.lemmas.Bool.{and_parts, eq-eqb}
use Rattle.std.proofs.lemmas.Option.{same_Some}
use Rattle.sx_mean.specs.declared.apps.Link.{Link}
use Rattle.sx_mean.specs.Application.{AppTree, PartTree}
use Rattle.sx_mean.specs.Ends.{ends_of}
use Rattle.sx_mean.specs.Places.{initial_cells}
use Rattle.sx_model.specs.Step.{first_present}
use Rattle.sx_model.specs.Consequences.{is_device_at, is_part_at}
use Rattle.law_never.specs.Rules.{Each}
use Rattle.law_never.specs.Intervals.{Interval, IsInside, AreInside, OneOf, Doing, MaySend, MayEmit, Path, Reactions, nought}
use Rattle.law_never.specs.Tables.{Place, Row, Table, at, IsAtPlace, HasPlace, HasReading, MayBeAbsent}
use Rattle.law_never.specs.Closed.{Fits, IsAnswered, IsCarried, IsClosed, IsClosedAt, IsMade, Leads, Stays, may_emit, none}
use Rattle.law_never.specs.Check.{box_has, each, each_from, may_absent, one, owes_none, place_within, stays}
use Rattle.law_never.specs.Demands.{Demand, Freed, Nobody, Only, AtNode, alone, answers, carried, frees, frees_device, frees_module, has_gone, has_place}
use Rattle.law_never.specs.Demands.{has_values}
use Rattle.law_never.specs.Demands.{is_shut, is_shut_at, leads_if, leads_on, meets, out_demand, places_of, protect_demand, reads_on, sense_demand, sent_over}
use Rattle.law_never.specs.Demands.{takes_on, topic_demand, ways_from, words_of, writes_on}
use Rattle.law_never.specs.Laws.{CheckDecides}
use Rattle.law_never.proofs.Lists.{each_map, one_map}
use Rattle.law_never.proofs.Tests.{box_has_true, each_true, fills_true, index_true, lists_true, one_true, or_not, owes_none_of, place_true, stays_same}
use Rattle.law_never.proofs.Tests.{stays_true, topic_true}
use Rattle.law_never.proofs.Checked.{open_true, each_both, each_there, gone_true, leads_true, unheard, unheard_gone, Resets}
use Rattle.sx_watch.specs.declared.topics.TopicKind.TheVariants as kind
use Rattle.sx_watch.specs.Watching.{about}
use Rattle.sx_watch.specs.declared.topics.Topic.{Topic}
use Rattle.sx_watch.specs.Watched.{PropertyTree, input_of}

each_parts : {A : Type 0} → (P : A → Type 0) → (xs ys : List A) → Each P (xs ++ ys) → Each P xs × Each P ys
each_parts P [] ys e = (tt, e)
each_parts P (x ∷ xs) ys e = let k = each_parts P xs ys e.1 in ((e.0, k.0), k.1)

-- places

places_fit : (new : Row) (m : ℕ) (paths : List Path) → Each (λ k. has_place new k ≡ true) (places_of m paths) → Each (λ path. Fits new m path.cells (may_emit path.acts)) paths
places_fit new m [] e = tt
places_fit new m (path ∷ paths) e = (fit_of new m path.cells (may_emit path.acts) e.0, places_fit new m paths e.1)
  where
    fit_of : (new : Row) (m : ℕ) (box owed : List Interval) → has_place new (record { module_of = m; place = record { cells = box; owed = owed } }) ≡ true → Fits new m box owed
    fit_of new m box owed h p a b =
        let k : Place = record { cells = box; owed = owed } in
        one_map (λ l. place_within k l ≡ true) (λ l. IsAtPlace l p) (λ l t. place_true k l t p (record { cells = a; owed = b })) (at new.places m) (one_true (place_within k) (at new.places m) h)

fit_one : (new : Row) (m : ℕ) (box owed : List Interval) → has_place new (record { module_of = m; place = record { cells = box; owed = owed } }) ≡ true → Fits new m box owed
fit_one new m box owed h p a b =
    let k : Place = record { cells = box; owed = owed } in
    one_map (λ l. place_within k l ≡ true) (λ l. IsAtPlace l p) (λ l t. place_true k l t p (record { cells = a; owed = b })) (at new.places m) (one_true (place_within k) (at new.places m) h)

-- words

carried_if : (new : Row) (c output port : ℕ) (i : Interval) (ds : List Doing) (b : Bool) → (port == output) ≡ b
    → Each (λ k. has_values new.words k ≡ true) (if b then record { index = c; values = i } ∷ carried c output ds else carried c output ds)
    → IsCarried new c output (MaySend port i) × Each (λ k. has_values new.words k ≡ true) (carried c output ds)
carried_if new c output port i ds true t e = (λ same v k. fills_true (at new.words c) i e.0 v k, e.1)
carried_if new c output port i ds false t e = (λ same. absurd (let z = sym (eq-eqb port output same) ∙ t in cc), e)

carried_all : (new : Row) (c output : ℕ) (ds : List Doing) → Each (λ k. has_values new.words k ≡ true) (carried c output ds) → Each (IsCarried new c output) ds
carried_all new c output [] e = tt
carried_all new c output (MayEmit i ∷ ds) e = (tt, carried_all new c output ds e)
carried_all new c output (MaySend port i ∷ ds) e =
    let k = carried_if new c output port i ds (port == output) refl e in (k.0, carried_all new c output ds k.1)

sent_if : (new : Row) (m n : ℕ) (l : Link) (ds : List Doing) (b : Bool) → (l.from == m) ≡ b → Each (λ k. has_values new.words k ≡ true) (if b then carried n l.output ds else [])
    → l.from ≡ m → Each (IsCarried new n l.output) ds
sent_if new m n l ds true t e own = carried_all new n l.output ds e
sent_if new m n l ds false t e own = absurd (let z = sym (eq-eqb l.from m own) ∙ t in cc)

sent_all : (new : Row) (m n : ℕ) (ls : List Link) (ds : List Doing) → Each (λ k. has_values new.words k ≡ true) (sent_over m n ls ds)
    → (k : ℕ) (l : Link) → slice_get ls k ≡ Some l → l.from ≡ m → Each (IsCarried new (n + k) l.output) ds
sent_all new m n [] ds e k l f own = absurd cc
sent_all new m n (x ∷ ls) ds e zero l f own =
    let p = each_parts (λ k. has_values new.words k ≡ true) (if x.from == m then carried n x.output ds else []) (sent_over m (n + 1) ls ds) e in
    let here : n ≡ n + 0 = omega arith in
    let at_x = sent_if new m n x ds (x.from == m) refl p.0 in
    subst (λ j. Each (IsCarried new j l.output) ds) here (subst (λ (l : Link). l.from ≡ m → Each (IsCarried new n l.output) ds) (same_Some x l f) at_x own)
sent_all new m n (x ∷ ls) ds e (suc k) l f own =
    let p = each_parts (λ k. has_values new.words k ≡ true) (if x.from == m then carried n x.output ds else []) (sent_over m (n + 1) ls ds) e in
    let there : n + 1 + k ≡ n + suc k = omega arith in
    subst (λ j. Each (IsCarried new j l.output) ds) there (sent_all new m (n + 1) ls ds p.1 k l f own)

abbrev IsSent : AppTree → Row → ℕ → Path → Type 0
IsSent app new m path = (c : ℕ) (l : Link) → slice_get app.links c ≡ Some l → l.from ≡ m → Each (IsCarried new c l.output) path.acts

words_all : (app : AppTree) (new : Row) (m : ℕ) (paths : List Path) → Each (λ k. has_values new.words k ≡ true) (words_of app m paths) → Each (IsSent app new m) paths
words_all app new m [] e = tt
words_all app new m (path ∷ paths) e =
    let p = each_parts (λ k. has_values new.words k ≡ true) (sent_over m 0 app.links path.acts) (words_of app m paths) e in (
      λ c l f own. let z : 0 + c ≡ c = omega arith in subst (λ j. Each (IsCarried new j l.output) path.acts) z (sent_all new m 0 app.links path.acts p.0 c l f own),
      words_all app new m paths p.1,
    )

-- reactions

ways_if : (reacts : Reactions) (q : PartTree) (input : Option ℕ) (i : Interval) (p : Place) (P : Path → Type 0) (b : Bool) → owes_none p.owed ≡ b
    → Each P (if b then reacts q.tree input i p.cells else []) → p.owed ≡ [] → Each P (reacts q.tree input i p.cells)
ways_if reacts q input i p P true t e n = e
ways_if reacts q input i p P false t e n = absurd (let z = sym (owes_none_of p.owed n) ∙ t in cc)

ways_all : (reacts : Reactions) (q : PartTree) (input : Option ℕ) (i : Interval) (P : Path → Type 0) (ps : List Place) → Each P (ways_from reacts q input i ps)
    → Each (λ (p : Place). p.owed ≡ [] → Each P (reacts q.tree input i p.cells)) ps
ways_all reacts q input i P [] e = tt
ways_all reacts q input i P (p ∷ ps) e =
    let k = each_parts P (if owes_none p.owed then reacts q.tree input i p.cells else []) (ways_from reacts q input i ps) e in
    (ways_if reacts q input i p P (owes_none p.owed) refl k.0, ways_all reacts q input i P ps k.1)

-- demands

pub record Met (app : AppTree) (r : Row) (d : Demand) (new : Row) : Type 0 where
  pub stays : Stays (frees_module app d.modules) (frees_device app d.devices) r new
  pub gone : has_gone app d.modules new ≡ true
  pub places : Each (λ k. has_place new k ≡ true) d.places
  pub readings : Each (λ k. has_values new.readings k ≡ true) d.readings
  pub words : Each (λ k. has_values new.words k ≡ true) d.words

met : (app : AppTree) (r : Row) (d : Demand) (new : Row) → meets app r d new ≡ true → Met app r d new
met app r d new h =
    let a = and_parts (stays (frees_module app d.modules) (frees_device app d.devices) r new)
    (has_gone app d.modules new && (each (has_place new) d.places && (each (has_values new.readings) d.readings && each (has_values new.words) d.words))) h in
    let b = and_parts (has_gone app d.modules new) (each (has_place new) d.places && (each (has_values new.readings) d.readings && each (has_values new.words) d.words)) a.1 in
    let c = and_parts (each (has_place new) d.places) (each (has_values new.readings) d.readings && each (has_values new.words) d.words) b.1 in
    let e = and_parts (each (has_values new.readings) d.readings) (each (has_values new.words) d.words) c.1 in
    record {
      stays = stays_true (frees_module app d.modules) (frees_device app d.devices) r new a.0;
      gone = b.0;
      places = each_true (has_place new) d.places c.0;
      readings = each_true (has_values new.readings) d.readings e.0;
      words = each_true (has_values new.words) d.words e.1;
    }

answered : (reacts : Reactions) (app : AppTree) (r new : Row) (m : ℕ) (q : PartTree) (input : Option ℕ) (i : Interval) (devices : Freed)
    → Met app r (answers reacts app r m q input i devices) new → IsAnswered reacts app r m q input i new
answered reacts app r new m q input i devices h =
    let paths = ways_from reacts q input i (at r.places m) in
    ways_all reacts q input i (IsMade app new m) (at r.places m)
    (each_map (λ path. Fits new m path.cells (may_emit path.acts) × IsSent app new m path) (IsMade app new m) (λ path k. record { place = k.0; sent = k.1 }) paths
    (each_both (λ path. Fits new m path.cells (may_emit path.acts)) (IsSent app new m) paths (places_fit new m paths h.places) (words_all app new m paths h.words)))

alone_has : (vs : List ℕ) → AreInside (alone vs) vs
alone_has [] = tt
alone_has (v ∷ vs) = (record { low = omega arith; high = omega arith }, alone_has vs)

module _ (reacts' : Reactions) (app : AppTree) (o : PropertyTree) (t : Table) (r : Row) (there : OneOf (λ u. u ≡ r) t.rows) where
  leads_met : (topic : Topic) (i : Interval) (d : Demand) (Q : Row → Type 0) → ((new : Row) → Met app r d new → Q new) → leads_on reacts' app o t r topic i d ≡ true → Leads reacts' o t topic i r Q
  leads_met topic i d Q f h = leads_true reacts' o t topic i r (meets app r d) Q (λ new e. f new (met app r d new e)) h

  abbrev TopicTrue : Topic → Type 0
  TopicTrue topic = (input_of o topic ≡ None) ⊎ (leads_if reacts' app o t r topic (topic_demand topic) ≡ true)

  resets_shut : (n : ℕ) → each_from (λ m q. is_some (input_of o (about kind.Reset q.node)) || may_absent r m) 0 app.parts ≡ true → TopicTrue (about kind.Reset n)
      → Leads reacts' o t (about kind.Reset n) nought r (Resets reacts' app o t r there n)
  resets_shut n all (inl e) =
      unheard reacts' o t (about kind.Reset n) nought r (Resets reacts' app o t r there n) there
      (stays_same (λ m. is_part_at n (slice_get app.parts m)) (λ d. is_device_at n (slice_get app.devices d)) r, unheard_gone reacts' app o t r there n all e) e
  resets_shut n all (inr e) =
      leads_met (about kind.Reset n) nought (frees (AtNode n) (AtNode n)) (Resets reacts' app o t r there n) (λ new k. (k.stays, gone_true reacts' app o t r there n new k.gone)) e

  drains_shut : (d : ℕ) → TopicTrue (about kind.Drain d) → Leads reacts' o t (about kind.Drain d) nought r (Stays none (λ k. d == k) r)
  drains_shut d (inl e) = unheard reacts' o t (about kind.Drain d) nought r (Stays none (λ k. d == k) r) there (stays_same none (λ k. d == k) r) e
  drains_shut d (inr e) = leads_met (about kind.Drain d) nought (frees Nobody (Only d)) (Stays none (λ k. d == k) r) (λ new k. k.stays) e

  attested_shut : (m : ℕ) → TopicTrue (about kind.Attested m) → Leads reacts' o t (about kind.Attested m) nought r (Stays none none r)
  attested_shut m (inl e) = unheard reacts' o t (about kind.Attested m) nought r (Stays none none r) there (stays_same none none r) e
  attested_shut m (inr e) = leads_met (about kind.Attested m) nought (frees Nobody Nobody) (Stays none none r) (λ new k. k.stays) e

  protect_shut : (m : ℕ) (q : PartTree) → (not (may_absent r m) || leads_on reacts' app o t r (about kind.Protect m) nought (protect_demand m q)) ≡ true → MayBeAbsent r m
      → Leads reacts' o t (about kind.Protect m) nought r (λ new. Stays (λ k. m == k) none r new × HasPlace new m (first_present q.tree (ends_of app m)))
  protect_shut m q h gone =
      leads_met (about kind.Protect m) nought (protect_demand m q) (λ new. Stays (λ k. m == k) none r new × HasPlace new m (first_present q.tree (ends_of app m)))
      (λ new k. (k.stays, fit_one new m (alone (initial_cells q.tree.decls)) [] k.places.0 (first_present q.tree (ends_of app m)) (alone_has (initial_cells q.tree.decls)) tt))
      (or_not (may_absent r m) (leads_on reacts' app o t r (about kind.Protect m) nought (protect_demand m q)) h gone)

  sense_shut : (d : ℕ) (i : Interval) → leads_on reacts' app o t r (about kind.Sense d) i (sense_demand d i) ≡ true
      → Leads reacts' o t (about kind.Sense d) i r (λ new. Stays none (λ k. d == k) r new × ((v : ℕ) → IsInside i v → HasReading new d v))
  sense_shut d i h =
      leads_met (about kind.Sense d) i (sense_demand d i) (λ new. Stays none (λ k. d == k) r new × ((v : ℕ) → IsInside i v → HasReading new d v))
      (λ new k. (k.stays, fills_true (at new.readings d) i k.readings.0)) h

  reads_shut : (m : ℕ) (q : PartTree) (device : Option ℕ) (d : ℕ) → device ≡ Some d → reads_on reacts' app o t r m q device ≡ true
      → Each (λ i. Leads reacts' o t (about kind.Read m) i r (λ new. Stays (λ k. m == k) (λ k. d == k) r new × IsAnswered reacts' app r m q None i new)) (at r.readings d)
  reads_shut m q None d e h = absurd cc
  reads_shut m q (Some b) d e h =
      let k : each (λ i. leads_on reacts' app o t r (about kind.Read m) i (answers reacts' app r m q None i (Only d))) (at r.readings d) ≡ true =
      subst (λ d. reads_on reacts' app o t r m q (Some d) ≡ true) (same_Some b d e) h in
      each_map (λ i. leads_on reacts' app o t r (about kind.Read m) i (answers reacts' app r m q None i (Only d)) ≡ true)
      (λ i. Leads reacts' o t (about kind.Read m) i r (λ new. Stays (λ k. m == k) (λ k. d == k) r new × IsAnswered reacts' app r m q None i new))
      (λ i g. leads_met (about kind.Read m) i (answers reacts' app r m q None i (Only d)) (λ new. Stays (λ k. m == k) (λ k. d == k) r new × IsAnswered reacts' app r m q None i new)
      (λ new w. (w.stays, answered reacts' app r new m q None i (Only d) w)) g) (at r.readings d)
      (each_true (λ i. leads_on reacts' app o t r (about kind.Read m) i (answers reacts' app r m q None i (Only d))) (at r.readings d) k)

  takes_shut : (c : ℕ) (l : Link) (part : Option PartTree) (q : PartTree) → part ≡ Some q → takes_on reacts' app o t r c l part ≡ true
      → Each (λ i. Leads reacts' o t (about kind.Take c) i r (λ new. Stays (λ k. l.to == k) none r new × IsAnswered reacts' app r l.to q (Some l.input) i new)) (at r.words c)
  takes_shut c l None q e h = absurd cc
  takes_shut c l (Some z) q e h =
      let k : each (λ i. leads_on reacts' app o t r (about kind.Take c) i (answers reacts' app r l.to q (Some l.input) i Nobody)) (at r.words c) ≡ true =
      subst (λ q. takes_on reacts' app o t r c l (Some q) ≡ true) (same_Some z q e) h in
      each_map (λ i. leads_on reacts' app o t r (about kind.Take c) i (answers reacts' app r l.to q (Some l.input) i Nobody) ≡ true)
      (λ i. Leads reacts' o t (about kind.Take c) i r (λ new. Stays (λ k. l.to == k) none r new × IsAnswered reacts' app r l.to q (Some l.input) i new))
      (λ i g. leads_met (about kind.Take c) i (answers reacts' app r l.to q (Some l.input) i Nobody) (λ new. Stays (λ k. l.to == k) none r new × IsAnswered reacts' app r l.to q (Some l.input) i new)
      (λ new w. (w.stays, answered reacts' app r new l.to q (Some l.input) i Nobody w)) g) (at r.words c)
      (each_true (λ i. leads_on reacts' app o t r (about kind.Take c) i (answers reacts' app r l.to q (Some l.input) i Nobody)) (at r.words c) k)

  writes_shut : (m : ℕ) (box owed : List Interval) → writes_on reacts' app o t r m box owed ≡ true → (i : Interval) (rest : List Interval) → owed ≡ i ∷ rest
      → Leads reacts' o t (about kind.Out m) i r (λ new. Stays (λ k. m == k) none r new × Fits new m box rest)
  writes_shut m box [] h i rest e = absurd cc
  writes_shut m box (j ∷ more) h i rest e =
      leads_met (about kind.Out m) i (out_demand m box rest) (λ new. Stays (λ k. m == k) none r new × Fits new m box rest) (λ new k. (k.stays, fit_one new m box rest k.places.0))
      (subst (λ owed. writes_on reacts' app o t r m box owed ≡ true) e h)

  shut_at : is_shut_at reacts' app o t r ≡ true → IsClosedAt reacts' app o t r
  shut_at h =
      let p0 = and_parts (each (λ topic. leads_if reacts' app o t r topic (topic_demand topic)) o.topics) _ h in
      let p00 = and_parts (each_from (λ m q. is_some (input_of o (about kind.Reset q.node)) || may_absent r m) 0 app.parts) _ p0.1 in
      let p1 = and_parts (each_from (λ m q. not (may_absent r m) || leads_on reacts' app o t r (about kind.Protect m) nought (protect_demand m q)) 0 app.parts) _ p00.1 in
      let p2 = and_parts (each_from (λ d xs. each (λ i. leads_on reacts' app o t r (about kind.Sense d) i (sense_demand d i)) xs) 0 t.given) _ p1.1 in
      let p3 = and_parts (each_from (λ m q. reads_on reacts' app o t r m q q.device) 0 app.parts) _ p2.1 in
      let p4 = and_parts (each_from (λ c l. takes_on reacts' app o t r c l (slice_get app.parts l.to)) 0 app.links) _ p3.1 in
      let p5 = and_parts (each_from (λ m xs. each (λ p. writes_on reacts' app o t r m p.cells p.owed) xs) 0 r.places) _ p4.1 in
      let heard_of : (topic : Topic) → TopicTrue topic = topic_true o (λ topic. leads_if reacts' app o t r topic (topic_demand topic)) p0.0 in
      record {
        reset = λ n. resets_shut n p00.0 (heard_of (about kind.Reset n));
        protect = λ m q e. protect_shut m q (index_true (λ m q. not (may_absent r m) || leads_on reacts' app o t r (about kind.Protect m) nought (protect_demand m q)) app.parts p1.0 m q e);
        sense = λ d. each_map (λ i. leads_on reacts' app o t r (about kind.Sense d) i (sense_demand d i) ≡ true) _ (sense_shut d) (at t.given d)
            (lists_true (λ d i. leads_on reacts' app o t r (about kind.Sense d) i (sense_demand d i)) t.given p2.0 d);
        read = λ m q d e f. reads_shut m q q.device d f (index_true (λ m q. reads_on reacts' app o t r m q q.device) app.parts p3.0 m q e);
        drain = λ d. drains_shut d (heard_of (about kind.Drain d));
        attested = λ m. attested_shut m (heard_of (about kind.Attested m));
        take = λ c l q e f. takes_shut c l (slice_get app.parts l.to) q f (index_true (λ c l. takes_on reacts' app o t r c l (slice_get app.parts l.to)) app.links p4.0 c l e);
        out = λ m. each_map (λ (p : Place). writes_on reacts' app o t r m p.cells p.owed ≡ true) _ (λ p e. writes_shut m p.cells p.owed e) (at r.places m)
            (lists_true (λ m (p : Place). writes_on reacts' app o t r m p.cells p.owed) r.places p5.0 m);
        raw = λ d. each_map (λ i. leads_on reacts' app o t r (about kind.Raw d) i (frees Nobody Nobody) ≡ true) _
            (λ i e. leads_met (about kind.Raw d) i (frees Nobody Nobody) (Stays none none r) (λ new k. k.stays) e) (at t.given d)
            (lists_true (λ d i. leads_on reacts' app o t r (about kind.Raw d) i (frees Nobody Nobody)) t.given p5.1 d);
      }

pub shut_is_closed : (reacts : Reactions) (app : AppTree) (o : PropertyTree) (t : Table) → is_shut reacts app o t ≡ true → IsClosed reacts app o t
shut_is_closed reacts app o t h =
    let start : Row → Bool = λ r. box_has r.watch (initial_cells o.tree.decls) && each_from (λ m q. may_absent r m) 0 app.parts in
    let k = and_parts (one start t.rows) (each (is_shut_at reacts app o t) t.rows) h in
    record {
      first = one_map (λ r. start r ≡ true) (λ r. AreInside r.watch (initial_cells o.tree.decls) × ((m : ℕ) (q : PartTree) → slice_get app.parts m ≡ Some q → MayBeAbsent r m))
          (λ r e.
          let u = and_parts (box_has r.watch (initial_cells o.tree.decls)) (each_from (λ m q. may_absent r m) 0 app.parts) e in
          (box_has_true r.watch (initial_cells o.tree.decls) u.0, index_true (λ m q. may_absent r m) app.parts u.1)) t.rows (one_true start t.rows k.0);
      rows = each_map (λ r. OneOf (λ u. u ≡ r) t.rows × (is_shut_at reacts app o t r ≡ true)) (IsClosedAt reacts app o t)
          (λ r e. shut_at reacts app o t r e.0 e.1) t.rows
          (each_both (λ r. OneOf (λ u. u ≡ r) t.rows) (λ r. is_shut_at reacts app o t r ≡ true) t.rows (each_there t.rows) (each_true (is_shut_at reacts app o t) t.rows k.1));
    }

pub check_decides : CheckDecides
check_decides reacts app o t = record { shut = shut_is_closed reacts app o t; opens = open_true app o t }
