-- Each item of a legal trace that has a cause has it before, and causes lead to a sensor's value.
use Rattle.std.proofs.Common.{◌≡◌, ℕ, zero, suc, ◌+◌, ◌*◌, ◌/◌, ◌%◌, ◌<◌, ◌==◌, ◌&&◌, Bool, true, false, if◌then◌else◌, List, [], ◌∷◌, ◌++◌, length}
use Rattle.std.proofs.Common.{Option, Some, None, slice_get, append_assoc, add-zero, refl, sym, ap, ◌∙◌, subst, arith}
use Rattle.std.specs.Prelude.{is_some, slice_set, IsSome}
use Rattle.std.specs.List.{cons_option, list_any}
use Rattle.std.proofs.lemmas.Bool.{and_parts, eq-eqb, eqb-true, or_parts}
use Rattle.std.proofs.lemmas.List.{length-append}
use Rattle.std.proofs.lemmas.Option.{same_Some, slice_get_within}
use Rattle.sx_lang.specs.declared.sides.Side.TheVariants.{From, To}
use Rattle.sx_mean.specs.declared.apps.Link.{Link}
use Rattle.sx_mean.specs.declared.events.Act.{Act}
use Rattle.sx_mean.specs.declared.events.Act.TheVariants.{Send}
use Rattle.sx_mean.specs.declared.events.End.{End}
use Rattle.sx_mean.specs.declared.events.SourceEvent.{SourceEvent}
use Rattle.sx_mean.specs.declared.events.SourceEvent.TheVariants as event
use Rattle.sx_mean.specs.Application.{AppTree, PartTree}
use Rattle.sx_mean.specs.Validity.{is_valid}
use Rattle.sx_mean.specs.Ends.{ends_after, ends_of}
use Rattle.sx_mean.specs.React.{react}
use Rattle.sx_mean.proofs.ValidApplications.{valid_applications}
use Rattle.sx_trace.specs.declared.items.Item.{Item}
use Rattle.sx_trace.specs.declared.items.Item.TheVariants.{Sense, Read, Take, Out}
use Rattle.sx_model.specs.State.{EndView, FIELDS, Model, Present, Standing, power_on, contains}
use Rattle.sx_model.specs.Step.{device_of, ◌>>?◌, changed_views, idle, state_if, step}
use Rattle.sx_model.specs.Epochs.{open_epoch}
use Rattle.sx_model.specs.Renewal.{takes}
use Rattle.sx_model.specs.Legal.{Legal, after}
use Rattle.sx_model.specs.Consequences.{begins_event, ends_event, ends_reading, senses}
use Rattle.sx_model.proofs.Along.{some_of, next_of}
use Rattle.sx_model.proofs.Steps.{Cases, by_step}
use Rattle.lemmas.proofs.Lists.{get_same}
use Rattle.sx_model.proofs.ReadsAreSensed.{reads_are_sensed}
use Rattle.sx_model.specs.Changes.{is_from}
use Rattle.sx_model.proofs.Idle.{idle_is}
use Rattle.sx_model.proofs.order.Owners.{field_low}
use Rattle.sx_model.proofs.order.Unsent.{none_first}
use Rattle.sx_explain.specs.Causes.{Among, CausedBy, HasCauses, IsCause, LeadsToSense, OutCaused, TakeCaused, appended, event_of, gives, latest, word_of}
use Rattle.sx_explain.proofs.After.{some_next}
use Rattle.sx_explain.proofs.Emitted.{outs_owed}
use Rattle.sx_explain.proofs.Words.{Grows, SentBy, grows_acts, grows_none, grows_weaker}

-- What a step sends, and with which epochs the ends of the sending module are open then.

pub record StepSends (app : AppTree) (s t : Model) (item : Item) (field v : ℕ) : Type 0 where
  pub part : ℕ
  pub begins : begins_event part item ≡ true
  pub tree : PartTree
  pub tree_is : slice_get app.parts part ≡ Some tree
  pub standing : Standing
  pub standing_is : slice_get s.modules part ≡ Some standing
  pub present : Present
  pub present_is : standing.present ≡ Some present
  pub event : SourceEvent
  pub event_is : event_of app item ≡ Some event
  pub views : List EndView
  pub epochs : (k : ℕ) → open_epoch t part k ≡ (slice_get views k >>? (λ (e : EndView). e.epoch))
  pub sent : SentBy (ends_of app part) views (react tree.tree event present.cells).acts field v

-- the epochs of a module that is present so
epochs_of : (xs : List Standing) (m : ℕ) (x y : Standing) (p : Present) → slice_get xs m ≡ Some x → y.present ≡ Some p → (k : ℕ)
    → (slice_get (slice_set xs m y) m >>? (λ (z : Standing). z.present >>? (λ (p : Present). slice_get p.ends k >>? (λ (e : EndView). e.epoch)))) ≡ (slice_get p.ends k >>? (λ (e : EndView). e.epoch))
epochs_of xs m x y p there is k =
    ap (λ o. o >>? (λ (z : Standing). z.present >>? (λ (p : Present). slice_get p.ends k >>? (λ (e : EndView). e.epoch)))) (get_same xs m y x there)
    ∙ ap (λ o. o >>? (λ (p : Present). slice_get p.ends k >>? (λ (e : EndView). e.epoch))) is

step_cases : (app : AppTree) (s : Model) → Cases app s (λ item t. Grows s.sent t.sent (λ k v. StepSends app s t item k v))
step_cases app s = record {
  reset = λ n cause boot _. grows_none s.sent _;
  unknown = λ n. grows_none s.sent _;
  protect = λ n k q x _ _. grows_none s.sent _;
  sense = λ d v. grows_none s.sent _;
  read = λ m v q x p d r eq ex ep ed er b.
      grows_weaker s.sent _ _ _ (λ k w h. record {
        part = m;
        begins = eq-eqb m m refl;
        tree = q;
        tree_is = eq;
        standing = x;
        standing_is = ex;
        present = p;
        present_is = idle_is x p ep;
        event = event.Sample v;
        event_is = refl;
        views = p.ends;
        epochs = epochs_of s.modules m x _ _ ex refl;
        sent = h;
      }) (grows_acts (ends_of app m) p.ends (react q.tree (event.Sample v) p.cells).acts (record { sent = s.sent; emits = []; pieces = 0 }));
  drain = λ d r. grows_none s.sent _;
  ask = λ k a x e. grows_none s.sent _;
  attested = λ k b a x e _. grows_none s.sent _;
  denied = λ k. grows_none s.sent _;
  vouch = λ k a q x p boot _ _ _ _. grows_none s.sent _;
  opened = λ k c side epoch q x p boot views _ _ _ _ _ _. grows_none s.sent _;
  take = λ m c i v q x p l views eq ex ep el ev.
      grows_weaker s.sent _ _ _ (λ k w h. record {
        part = m;
        begins = eq-eqb m m refl;
        tree = q;
        tree_is = eq;
        standing = x;
        standing_is = ex;
        present = p;
        present_is = idle_is x p ep;
        event = event.Input l.input v;
        event_is = ap (λ o. o >>? (λ (l : Link). Some (event.Input l.input v))) el;
        views = views;
        epochs = epochs_of s.modules m x _ _ ex refl;
        sent = h;
      }) (grows_acts (ends_of app m) views (react q.tree (event.Input l.input v) p.cells).acts (record { sent = s.sent; emits = []; pieces = 0 }));
  out = λ k v x p owed left e ep eo el. grows_none s.sent _;
  raw = λ d v. grows_none s.sent _;
  done = λ k status n x p _ _. grows_none s.sent _;
  refused = λ k status n x p e ep none. grows_none s.sent _;
  packet = λ k n. grows_none s.sent _;
  forged = λ k. grows_none s.sent _;
  busy = λ n. grows_none s.sent _;
  skip = λ n. grows_none s.sent _;
  budget = λ n. grows_none s.sent _;
}

pub step_grows : (app : AppTree) (s : Model) (item : Item) (t : Model) → step app s item ≡ Some t → Grows s.sent t.sent (λ k v. StepSends app s t item k v)
step_grows app s item t e =
    some_of (step app s item) t (λ t. Grows s.sent t.sent (λ k v. StepSends app s t item k v))
    (by_step app s (λ item t. Grows s.sent t.sent (λ k v. StepSends app s t item k v)) (step_cases app s) item) e

-- Along a run.

words_stay : (app : AppTree) (k j v : ℕ) (items : List Item) (s t : Model) → after app s items ≡ Some t → word_of s.sent k j ≡ Some v → word_of t.sent k j ≡ Some v
words_stay app k j v [] s t e h = subst (λ (t : Model). word_of t.sent k j ≡ Some v) (same_Some s t e) h
words_stay app k j v (i ∷ is) s t e h =
    let n = some_next (step app s i) (λ t. after app t is) t e in
    words_stay app k j v is n.0 t n.2 ((step_grows app s i n.0 n.1).stays k j v h)

record Found (app : AppTree) (k j v n : ℕ) (s : Model) (items : List Item) : Type 0 where
  front : List Item
  by : Item
  rest : List Item
  place : items ≡ front ++ by ∷ rest
  before : Model
  ran : after app s front ≡ Some before
  next : Model
  sends_it : StepSends app before next by k v
  number : appended app k j n s items ≡ Some (n + length front)

found : (app : AppTree) (k j v n : ℕ) (items : List Item) (s t : Model) → after app s items ≡ Some t → word_of s.sent k j ≡ None → word_of t.sent k j ≡ Some v → Found app k j v n s items
found app k j v n [] s t e none some = absurd (let same : s ≡ t = same_Some s t e in let z : None ≡ Some v = (sym none ∙ ap (λ (s : Model). word_of s.sent k j) same ∙ some) in cc)
found app k j v n (i ∷ is) s t e none some =
    let x = some_next (step app s i) (λ t. after app t is) t e in
    at x.0 x.1 x.2 (word_of x.0.sent k j) refl (λ u a b. found app k j v (n + 1) is u t a b some)
  where
    at : (u : Model) → step app s i ≡ Some u → after app u is ≡ Some t → (o : Option ℕ) → word_of u.sent k j ≡ o
        → ((u : Model) → after app u is ≡ Some t → word_of u.sent k j ≡ None → Found app k j v (n + 1) u is)
        → Found app k j v n s (i ∷ is)
    at u here rest None w more =
        let f = more u rest w in
        let m : n + 1 + length f.front ≡ n + suc (length f.front) = omega arith in
        record {
          front = i ∷ f.front;
          by = f.by;
          rest = f.rest;
          place = ap (λ (xs : List Item). i ∷ xs) f.place;
          before = f.before;
          ran = ap (λ o. o >>? (λ t. after app t f.front)) here ∙ f.ran;
          next = f.next;
          sends_it = f.sends_it;
          number = rw (here, w) (f.number ∙ ap (λ (n : ℕ). Some n) m);
        }
    at u here rest (Some x) w more =
        let same : x ≡ v = same_Some x v (sym (words_stay app k j x is u t rest w) ∙ some) in
        let value : word_of u.sent k j ≡ Some v = (w ∙ ap (λ (x : ℕ). Some x) same) in
        record {
          front = [];
          by = i;
          rest = is;
          place = refl;
          before = s;
          ran = refl;
          next = u;
          sends_it = (step_grows app s i u here).comes k j v none value;
          number = rw (here, w) (ap (λ (n : ℕ). Some n) (sym (add-zero n)));
        }

-- The connection of a sending end.

pub record SendingLink (ls : List Link) (n p : ℕ) (e : End) : Type 0 where
  pub place : ℕ
  pub link : Link
  pub there : slice_get ls place ≡ Some link
  pub number : e.link ≡ n + place
  pub from : link.from ≡ p
  pub port : link.output ≡ e.port

later_link : (l : Link) (ls : List Link) (n p : ℕ) (e : End) → SendingLink ls (n + 1) p e → SendingLink (l ∷ ls) n p e
later_link l ls n p e h = record { place = suc h.place; link = h.link; there = h.there; number = (let m = h.number in omega (arith, m)); from = h.from; port = h.port }

pub sending_link : (ls : List Link) (n p i : ℕ) (e : End) → slice_get (ends_after n p ls) i ≡ Some e → is_from e.side ≡ true → SendingLink ls n p e
sending_link [] n p i e h f = absurd cc
sending_link (l ∷ ls) n p i e h f = go (l.from == p) (l.to == p) refl i h (λ i h. sending_link ls (n + 1) p i e h f)
  where
    rest : (b : Bool) (i : ℕ) → slice_get (cons_option (if b then Some (record { link = n; side = To; port = l.input }) else None) (ends_after (n + 1) p ls)) i ≡ Some e
        → ((i : ℕ) → slice_get (ends_after (n + 1) p ls) i ≡ Some e → SendingLink ls (n + 1) p e) → SendingLink (l ∷ ls) n p e
    rest true zero h more = absurd (let s : To ≡ e.side = ap (λ (e : End). e.side) (same_Some (record { link = n; side = To; port = l.input }) e h) in let z : false ≡ true = (ap is_from s ∙ f) in cc)
    rest true (suc i) h more = later_link l ls n p e (more i h)
    rest false i h more = later_link l ls n p e (more i h)

    go : (a b : Bool) → (l.from == p) ≡ a → (i : ℕ)
        → slice_get (cons_option (if a then Some (record { link = n; side = From; port = l.output }) else None)
        (cons_option (if b then Some (record { link = n; side = To; port = l.input }) else None) (ends_after (n + 1) p ls))) i ≡ Some e
        → ((i : ℕ) → slice_get (ends_after (n + 1) p ls) i ≡ Some e → SendingLink ls (n + 1) p e) → SendingLink (l ∷ ls) n p e
    go true b t zero h more =
        let same : record { link = n; side = From; port = l.output } ≡ e = same_Some (record { link = n; side = From; port = l.output }) e h in
        record { place = 0; link = l; there = refl; number = sym (ap (λ (e : End). e.link) same) ∙ sym (add-zero n); from = eqb-true l.from p t; port = ap (λ (e : End). e.port) same }
    go true b t (suc i) h more = rest b i h more
    go false b t i h more = rest b i h more

-- the sending of a word at the field of a connection is over this connection
sent_over_link : (app : AppTree) (p c epoch v : ℕ) (views : List EndView) (acts : List Act) (l : Link) → is_valid app ≡ true → slice_get app.links c ≡ Some l
    → SentBy (ends_of app p) views acts (c + 256 * epoch) v → (l.from ≡ p) × Among (Send l.output v) acts
sent_over_link app p c epoch v views acts l valid there h =
    let at = h.sends_at in
    let a = and_parts (is_from at.end.side) ((at.end.port == h.output) && is_some at.view.epoch) at.sends_to in
    let b = and_parts (at.end.port == h.output) (is_some at.view.epoch) a.1 in
    let k = sending_link app.links 0 p at.place at.end at.end_is a.0 in
    let field = field_low at.end.link at.view.epoch b.1 in
    let few = (valid_applications app valid).few_links in
    let low : c < 64 = (let w = slice_get_within app.links c l there in omega (arith, w, few)) in
    let mine : at.end.link < 64 = (let w = slice_get_within app.links k.place k.link k.there in let n = k.number in omega (arith, w, few, n)) in
    let same_field : at.end.link + 256 * field.0 ≡ c + 256 * epoch = (sym field.1 ∙ at.at) in
    let same : at.end.link ≡ c = omega (arith, low, mine, same_field) in
    let place : k.place ≡ c = (let n = k.number in omega (arith, n, same)) in
    let link : k.link ≡ l = same_Some k.link l (sym k.there ∙ ap (λ (i : ℕ). slice_get app.links i) place ∙ there) in
    let out : l.output ≡ h.output = (ap (λ (l : Link). l.output) (sym link) ∙ k.port ∙ eqb-true at.end.port h.output b.0) in
    (ap (λ (l : Link). l.from) (sym link) ∙ k.from, record { place = h.act.place; there = h.act.there ∙ ap (λ (o : ℕ). Some (Send o v)) (sym out) })

-- What is there where a word is taken.

pub word_is : (v : ℕ) (o : Option ℕ) → contains o v ≡ true → o ≡ Some v
word_is v None h = absurd cc
word_is v (Some w) h = ap (λ (w : ℕ). Some w) (eqb-true w v h)

pub if_state : (b : Bool) (s t : Model) → state_if b s ≡ Some t → b ≡ true
if_state true s t h = refl
if_state false s t h = absurd cc

taken_word : (app : AppTree) (s t : Model) (m c i v : ℕ) → step app s (Take m c i v) ≡ Some t
    → (l : Link) × (slice_get app.links c ≡ Some l) × (word_of s.sent (c + 256 * (i / 65536)) (i % 65536) ≡ Some v)
taken_word app s t m c i v h =
    let q = some_next (slice_get app.parts m) _ t h in
    let x = some_next (slice_get s.modules m) _ t q.2 in
    let p = some_next (idle x.0) _ t x.2 in
    let l = some_next (slice_get app.links c) _ t p.2 in
    let words = some_next (slice_get s.sent (c + 256 * (i / 65536))) _ t l.2 in
    let views = some_next (changed_views (takes (i / 65536) (i % 65536)) c To (ends_of app m) p.0.ends) _ t words.2 in
    let test = if_state (contains (slice_get words.0 (i % 65536)) v) _ t views.2 in
    (l.0, l.1, ap (λ o. o >>? (λ ws. slice_get ws (i % 65536))) words.1 ∙ word_is v (slice_get words.0 (i % 65536)) test)

-- Where a legal trace is before an item.

pub record At (app : AppTree) (s : Model) (before : List Item) (item : Item) : Type 0 where
  pub from : Model
  pub to : Model
  pub ran : after app s before ≡ Some from
  pub is : step app from item ≡ Some to

pub at_item : (app : AppTree) (before : List Item) (item : Item) (behind : List Item) (s : Model) → IsSome (after app s (before ++ item ∷ behind)) → At app s before item
at_item app [] item behind s h = let n = next_of (step app s item) (λ t. after app t behind) h in record { from = s; to = n.0; ran = refl; is = n.1 }
at_item app (x ∷ before) item behind s h =
    let n = next_of (step app s x) (λ t. after app t (before ++ item ∷ behind)) h in
    let a = at_item app before item behind n.0 n.2 in
    record { from = a.from; to = a.to; ran = ap (λ o. o >>? (λ t. after app t before)) n.1 ∙ a.ran; is = a.is }

-- The latest item of a kind.

latest_none : (test ends : Item → Bool) → ((i : Item) → ends i ≡ false → test i ≡ false) → (n : ℕ) (items : List Item) → list_any ends items ≡ false → latest test n items ≡ None
latest_none test ends quiet n [] h = refl
latest_none test ends quiet n (i ∷ is) h =
    let b = or_parts (ends i) (list_any ends is) h in
    let none = latest_none test ends quiet (n + 1) is b.1 in
    let no : test i ≡ false = quiet i b.0 in
    rw (none, no) refl

latest_at : (test ends : Item → Bool) → ((i : Item) → ends i ≡ false → test i ≡ false) → (n : ℕ) (front : List Item) (x : Item) (rest : List Item) → test x ≡ true → list_any ends rest ≡ false
    → latest test n (front ++ x ∷ rest) ≡ Some (n + length front)
latest_at test ends quiet n [] x rest t h =
    let none = latest_none test ends quiet (n + 1) rest h in
    rw (none, t) (ap (λ (n : ℕ). Some n) (sym (add-zero n)))
latest_at test ends quiet n (y ∷ front) x rest t h =
    let more = latest_at test ends quiet (n + 1) front x rest t h in
    let m : n + 1 + length front ≡ n + suc (length front) = omega arith in
    rw more (ap (λ (n : ℕ). Some n) m)

quiet_reading : (app : AppTree) (d : ℕ) (i : Item) → ends_reading app d i ≡ false → gives d i ≡ false
quiet_reading app d (Sense e v) h = h
quiet_reading app d _ h = refl

quiet_event : (app : AppTree) (m : ℕ) (i : Item) → ends_event app m i ≡ false → begins_event m i ≡ false
quiet_event app m (Read k v) h = h
quiet_event app m (Take k c i v) h = h
quiet_event app m _ h = refl

senses_gives : (d v : ℕ) (i : Item) → senses d v i ≡ true → gives d i ≡ true
senses_gives d v (Sense e w) h = (and_parts (e == d) (w == v) h).0
senses_gives d v _ h = absurd cc

one_more : (n : ℕ) → 1 + n ≡ n + 1
one_more n = omega arith

-- The causes.

module _ (app : AppTree) (items : List Item) (valid : is_valid app ≡ true) (legal : Legal app items) where
  reads_caused : (before behind : List Item) (m v : ℕ) → items ≡ before ++ Read m v ∷ behind → (d : ℕ) × (device_of app m ≡ Some d) × CausedBy app before (Read m v) (senses d v)
  reads_caused before behind m v place =
      let r = reads_are_sensed app items legal before behind m v place in
      let d = r.0 in
      let w = r.2 in
      let number : latest (gives d) 1 before ≡ Some (length w.before + 1) =
      (ap (λ is. latest (gives d) 1 is) w.place ∙ latest_at (gives d) (ends_reading app d) (quiet_reading app d) 1 w.before w.item w.behind (senses_gives d v w.item w.begun) w.unended
      ∙ ap (λ (n : ℕ). Some n) (one_more (length w.before))) in (
        d,
        r.1,
        record {
          front = w.before;
          by = w.item;
          is = record { rest = w.behind; place = w.place; number = ap (λ o. o >>? (λ d. latest (gives d) 1 before)) r.1 ∙ number };
          kind = w.begun;
        },
      )

  outs_caused : (before behind : List Item) (m v : ℕ) → items ≡ before ++ Out m v ∷ behind → OutCaused app before m v
  outs_caused before behind m v place =
      let owed = outs_owed app items legal before behind m v place in
      let w = owed.1 in
      record {
        front = w.front;
        by = w.by;
        is = record {
          rest = w.rest;
          place = w.place;
          number = ap (λ is. latest (begins_event m) 1 is) w.place ∙ latest_at (begins_event m) (ends_event app m) (quiet_event app m) 1 w.front w.by w.rest w.emits.begins w.unended
              ∙ ap (λ (n : ℕ). Some n) (one_more (length w.front));
        };
        later = owed.0;
        emits = w.emits;
      }

  takes_caused : (before behind : List Item) (m c i v : ℕ) → items ≡ before ++ Take m c i v ∷ behind → TakeCaused app before m c i v
  takes_caused before behind m c i v place =
      let a = at_item app before (Take m c i v) behind (power_on app) (subst (λ xs. Legal app xs) place legal) in
      let w = taken_word app a.from a.to m c i v a.is in
      let field = c + 256 * (i / 65536) in
      let f = found app field (i % 65536) v 1 before (power_on app) a.from a.ran (none_first FIELDS field (i % 65536)) w.2 in
      let x = f.sends_it in
      let s = sent_over_link app x.part c (i / 65536) v x.views (react x.tree.tree x.event x.present.cells).acts w.0 valid w.1 x.sent in
      record {
        link = w.0;
        link_is = w.1;
        front = f.front;
        by = f.by;
        is = record { rest = f.rest; place = f.place; number = f.number ∙ ap (λ (n : ℕ). Some n) (one_more (length f.front)) };
        sent = record {
          begins = ap (λ p. begins_event p f.by) s.0 ∙ x.begins;
          before = f.before;
          ran = f.ran;
          part = x.tree;
          part_is = ap (λ p. slice_get app.parts p) s.0 ∙ x.tree_is;
          standing = x.standing;
          standing_is = ap (λ p. slice_get f.before.modules p) s.0 ∙ x.standing_is;
          present = x.present;
          present_is = x.present_is;
          event = x.event;
          event_is = x.event_is;
          acts = s.1;
        };
      }

  -- an item that has a cause, or is one
  abbrev has_part : Item → Bool
  has_part (Sense d v) = true
  has_part (Read m v) = true
  has_part (Take m c i v) = true
  has_part (Out m v) = true
  has_part _ = false

  sense_part : (d v : ℕ) (i : Item) → senses d v i ≡ true → has_part i ≡ true
  sense_part d v (Sense e w) h = refl
  sense_part d v _ h = absurd cc

  event_part : (m : ℕ) (i : Item) → begins_event m i ≡ true → has_part i ≡ true
  event_part m (Read k v) h = refl
  event_part m (Take k c i v) h = refl
  event_part m _ h = absurd cc

  abbrev Leads : ℕ → Type 0
  Leads n = (before behind : List Item) (item : Item) → items ≡ before ++ item ∷ behind → length before < n → has_part item ≡ true → LeadsToSense app before item

  through_cause : (n : ℕ) → Leads n → (before behind : List Item) (item : Item) → items ≡ before ++ item ∷ behind → length before < suc n
      → (front : List Item) (by : Item) → IsCause app before item front by
      → has_part by ≡ true → LeadsToSense app before item
  through_cause n more before behind item place lt front by is part =
      let where_it_is : items ≡ front ++ by ∷ (is.rest ++ item ∷ behind) =
      (place ∙ ap (λ xs. xs ++ item ∷ behind) is.place ∙ append_assoc front (by ∷ is.rest) (item ∷ behind)) in
      let low : length front < n = (let l = ap (λ (xs : List Item). length xs) is.place in let m = length-append front (by ∷ is.rest) in omega (arith, lt, l, m)) in
      LeadsToSense.through before item front by is (more front (is.rest ++ item ∷ behind) by where_it_is low part)

  leads_all : (n : ℕ) → Leads n
  leads_all zero before behind item place lt part = absurd (omega (arith, lt))
  leads_all (suc n) before behind (Sense d v) place lt part = LeadsToSense.begins before d v
  leads_all (suc n) before behind (Read m v) place lt part =
      let c = reads_caused before behind m v place in
      through_cause n (leads_all n) before behind (Read m v) place lt c.2.front c.2.by c.2.is (sense_part c.0 v c.2.by c.2.kind)
  leads_all (suc n) before behind (Take m c i v) place lt part =
      let t = takes_caused before behind m c i v place in
      through_cause n (leads_all n) before behind (Take m c i v) place lt t.front t.by t.is (event_part t.link.from t.by t.sent.begins)
  leads_all (suc n) before behind (Out m v) place lt part =
      let c = outs_caused before behind m v place in
      through_cause n (leads_all n) before behind (Out m v) place lt c.front c.by c.is (event_part m c.by c.emits.begins)
  leads_all (suc n) before behind _ place lt part = absurd cc

  leads_out : (before behind : List Item) (m v : ℕ) → items ≡ before ++ Out m v ∷ behind → LeadsToSense app before (Out m v)
  leads_out before behind m v place = leads_all (suc (length before)) before behind (Out m v) place (omega arith) refl

pub legal_has_causes : (app : AppTree) (items : List Item) → is_valid app ≡ true → Legal app items → HasCauses app items
legal_has_causes app items valid legal = record {
  reads = reads_caused app items valid legal;
  takes = takes_caused app items valid legal;
  outs = outs_caused app items valid legal;
  leads = leads_out app items valid legal;
}
