-- What a handler emits before it sends was put out before the word is taken.
use Rattle.std.proofs.Common.{◌≡◌, ℕ, zero, suc, ◌+◌, ◌*◌, ◌/◌, ◌%◌, ◌<◌, ◌≤◌, ◌==◌, ◌&&◌, Bool, true, false, List, [], ◌∷◌, ◌++◌, length, Option, Some, None, refl, sym, ◌∙◌, ap, subst, arith, append_assoc}
use Rattle.std.specs.Prelude.{slice_get, is_some, IsSome, map}
use Rattle.std.proofs.lemmas.Bool.{and_parts, eq-eqb, eqb-true}
use Rattle.std.proofs.lemmas.List.{append-nil}
use Rattle.std.proofs.lemmas.Option.{same_Some, slice_get_within, none-some}
use Rattle.sx_lang.specs.declared.sides.Side.TheVariants.{To}
use Rattle.sx_mean.specs.declared.apps.Link.{Link}
use Rattle.sx_mean.specs.declared.events.SourceEvent.TheVariants as event
use Rattle.sx_mean.specs.Application.{AppTree, PartTree}
use Rattle.sx_mean.specs.Ends.{ends_of}
use Rattle.sx_trace.specs.declared.items.Item.{Item}
use Rattle.sx_trace.specs.declared.items.Item.TheVariants.{Reset, Protect, Sense, Read, Drain, Ask, Attested, Denied, Vouch, Open, Take, Raw, Done, Packet, Forged, Busy, Skip, Budget}
use Rattle.sx_model.specs.Changes.{is_from}
use Rattle.sx_model.specs.Renewal.{takes}
use Rattle.sx_explain.specs.Causes.{word_of, out_of}
use Rattle.sx_explain.proofs.After.{some_next}
use Rattle.sx_explain.proofs.Caused.{sending_link, word_is}
use Rattle.sx_model.specs.State.{FIELDS, contains}
use Rattle.sx_model.specs.order.State.{Model, Pending, Present, Standing, power_on}
use Rattle.sx_model.specs.Step.{◌>>?◌, changed_views}
use Rattle.sx_model.specs.order.Step.{step, idle, state_if}
use Rattle.sx_model.specs.order.Legal.{after, LegalInOrder}
use Rattle.sx_explain.specs.Sending.{SentBehind}
use Rattle.sx_explain.specs.Laws.{InOrderTakesBehind}
use Rattle.sx_model.proofs.order.Idle.{idle_is}
use Rattle.sx_model.proofs.order.Steps.{Cases, by_step}
use Rattle.sx_model.proofs.Along.{some_of, next_of}
use Rattle.sx_model.proofs.order.Owners.{field_low}
use Rattle.sx_model.proofs.order.Unsent.{none_first}
use Rattle.sx_explain.proofs.Origins.{Origin, Words, Owing, Holds, later_words, still, settled, kept, absent, begun_words, begun_owing, out_words, out_owing}

pub if_state : (b : Bool) (s t : Model) → state_if b s ≡ Some t → b ≡ true
if_state true s t h = refl
if_state false s t h = absurd cc

module _ (app : AppTree) where
  abbrev Kept : List Item → Item → Model → Type 0
  Kept items i t = Words app (items ++ i ∷ []) t.sent × Owing app (items ++ i ∷ []) t.modules

  no_acts : (r : Present) (k : ℕ) → r.pending ≡ Some (record { acts = []; pieces = k }) → (p : Present) (owed : Pending) → ◌≡◌ {A = Option Present} (Some r) (Some p) → p.pending ≡ Some owed → owed.acts ≡ []
  no_acts r k re p owed pe oe =
      sym (ap (λ (z : Pending). z.acts) (same_Some (record { acts = []; pieces = k }) owed (sym re ∙ ap (λ (z : Present). z.pending) (same_Some r p pe) ∙ oe)))

  no_event : (r : Present) → r.pending ≡ None → (p : Present) (owed : Pending) → ◌≡◌ {A = Option Present} (Some r) (Some p) → p.pending ≡ Some owed → owed.acts ≡ []
  no_event r re p owed pe oe = absurd (none-some owed (sym re ∙ ap (λ (z : Present). z.pending) (same_Some r p pe) ∙ oe))

  cases : (items : List Item) (s : Model) → Holds app items s → Cases app s (λ i t. Kept items i t)
  cases items s h =
      let xs = s.modules in
      let words : (i : Item) → Words app (items ++ i ∷ []) s.sent = λ i. later_words app items i s.sent h.words in
      let same : (i : Item) → ((m : ℕ) → out_of m i ≡ []) → Kept items i s = λ i q. (words i, still app items i xs h.owing q) in
      record {
        reset = λ n cause boot _. (words (Reset n cause), absent app items (Reset n cause) xs h.owing n (λ m. refl));
        unknown = λ n. same (Protect n None) (λ m. refl);
        protect = λ n k q x _ _. (words (Protect n (Some k)), settled app items (Protect n (Some k)) xs h.owing k _ (λ m. refl) (no_event _ refl));
        sense = λ d v. (words (Sense d v), still app items (Sense d v) xs h.owing (λ m. refl));
        read = λ m v q x p d r eq ex ep ed er b. (
          begun_words app items s h (Read m v) m q x p p (event.Sample v) (eq-eqb m m refl) eq ex (idle_is x p ep) refl refl (λ k. refl),
          begun_owing app items s h (Read m v) m q x p p (event.Sample v) (eq-eqb m m refl) eq ex (idle_is x p ep) refl refl (λ k. refl) _ _ _ refl refl,
        );
        drain = λ d r. (words (Drain d), still app items (Drain d) xs h.owing (λ m. refl));
        ask = λ k a x e. (words (Ask k a), kept app items (Ask k a) xs h.owing k x _ e refl (λ m. refl));
        attested = λ k b a x e _. (words (Attested k b), kept app items (Attested k b) xs h.owing k x _ e refl (λ m. refl));
        denied = λ k. same (Denied k) (λ m. refl);
        vouch = λ k a q x p boot _ _ _ _. (words (Vouch k a), settled app items (Vouch k a) xs h.owing k _ (λ m. refl) (no_acts _ 1 refl));
        opened = λ k c side epoch q x p boot views _ _ _ _ _ _. (words (Open k c side epoch), settled app items (Open k c side epoch) xs h.owing k _ (λ m. refl) (no_acts _ 0 refl));
        take = λ m c i v q x p l views eq ex ep el ev. (
          begun_words app items s h (Take m c i v) m q x p (record p { ends = views }) (event.Input l.input v) (eq-eqb m m refl) eq ex (idle_is x p ep) refl (ap (λ o. o >>? (λ (l : Link). Some (event.Input l.input v))) el) (λ k. refl),
          begun_owing app items s h (Take m c i v) m q x p (record p { ends = views }) (event.Input l.input v) (eq-eqb m m refl) eq ex (idle_is x p ep) refl (ap (λ o. o >>? (λ (l : Link). Some (event.Input l.input v))) el) (λ k. refl) _ _ _ refl refl,
        );
        out = λ m v x p owed acts ex ep eo ea. (out_words app items s h m v x p owed acts ex ep eo ea, out_owing app items s h m v x p owed acts ex ep eo ea _ _ _ refl refl);
        raw = λ d v. same (Raw d v) (λ m. refl);
        done = λ k status n x p _ _. (words (Done k status n), settled app items (Done k status n) xs h.owing k _ (λ m. refl) (no_event _ refl));
        refused = λ k status n x p e ep none. same (Done k status n) (λ m. refl);
        packet = λ k n. same (Packet k n) (λ m. refl);
        forged = λ k. same (Forged k) (λ m. refl);
        busy = λ n. same (Busy n) (λ m. refl);
        skip = λ n. same (Skip n) (λ m. refl);
        budget = λ n. same (Budget n) (λ m. refl);
      }

  after_last : (s t u : Model) (items : List Item) (i : Item) → after app s items ≡ Some t → step app t i ≡ Some u → after app s (items ++ i ∷ []) ≡ Some u
  after_last s t u [] i e f = ap (λ o. o >>? (λ z. Some z)) (ap (λ z. step app z i) (same_Some s t e) ∙ f)
  after_last s t u (x ∷ items) i e f =
      let n = some_next (step app s x) (λ z. after app z items) t e in
      ap (λ o. o >>? (λ z. after app z (items ++ i ∷ []))) n.1 ∙ after_last n.0 t u items i n.2 f

  pub holds_on : (items : List Item) (s : Model) → Holds app items s → (i : Item) (t : Model) → step app s i ≡ Some t → Holds app (items ++ i ∷ []) t
  holds_on items s h i t e =
      let k = some_of (step app s i) t (Kept items i) (by_step app s (λ i t. Kept items i t) (cases items s h) i) e in
      record { ran = after_last (power_on app) s t items i h.ran e; words = k.0; owing = k.1 }

  absent_first : (qs : List PartTree) (m : ℕ) (x : Standing) → slice_get (map (λ p. record { present = None; asked = None; vouched = []; attested = None }) qs) m ≡ Some x → x.present ≡ None
  absent_first [] m x e = absurd cc
  absent_first (q ∷ qs) zero x e = sym (ap (λ (x : Standing). x.present) (same_Some _ x e))
  absent_first (q ∷ qs) (suc m) x e = absent_first qs m x e

  pub holds_first : Holds app [] (power_on app)
  holds_first = record {
    ran = refl;
    words = λ k j v e. absurd (none-some v (sym (none_first FIELDS k j) ∙ e));
    owing = λ m x p owed a bs e pe oe ae. absurd (none-some p (sym (absent_first app.parts m x e) ∙ pe));
  }

  record At (before : List Item) (item : Item) : Type 0 where
    pub from : Model
    pub to : Model
    pub holds : Holds app before from
    pub is : step app from item ≡ Some to

  along : (front before : List Item) (item : Item) (behind : List Item) (s : Model) → Holds app front s → IsSome (after app s (before ++ item ∷ behind)) → At (front ++ before) item
  along front [] item behind s p h =
      let r = next_of (step app s item) (λ t. after app t behind) h in
      record { from = s; to = r.0; holds = subst (λ xs. Holds app xs s) (sym (append-nil front)) p; is = r.1 }
  along front (x ∷ before) item behind s p h =
      let r = next_of (step app s x) (λ t. after app t (before ++ item ∷ behind)) h in
      subst (λ xs. At xs item) (append_assoc front (x ∷ []) before)
      (along (front ++ x ∷ []) before item behind r.0 (holds_on front s p x r.0 r.1) r.2)

  taken_word : (s t : Model) (m c i v : ℕ) → step app s (Take m c i v) ≡ Some t
      → (l : Link) × (slice_get app.links c ≡ Some l) × (word_of s.sent (c + 256 * (i / 65536)) (i % 65536) ≡ Some v)
  taken_word s t m c i v h =
      let q = some_next (slice_get app.parts m) _ t h in
      let x = some_next (slice_get s.modules m) _ t q.2 in
      let p = some_next (idle x.0) _ t x.2 in
      let l = some_next (slice_get app.links c) _ t p.2 in
      let words = some_next (slice_get s.sent (c + 256 * (i / 65536))) _ t l.2 in
      let views = some_next (changed_views (takes (i / 65536) (i % 65536)) c To (ends_of app m) p.0.ends) _ t words.2 in
      let test = if_state (contains (slice_get words.0 (i % 65536)) v) _ t views.2 in
      (l.0, l.1, ap (λ o. o >>? (λ ws. slice_get ws (i % 65536))) words.1 ∙ word_is v (slice_get words.0 (i % 65536)) test)

  -- the sending of a word at the field of a connection is over this connection
  over_link : (few : length app.links ≤ 256) (items : List Item) (c epoch v : ℕ) (l : Link) → slice_get app.links c ≡ Some l → Origin app items (c + 256 * epoch) v → SentBehind app items l.from l.output v
  over_link few items c epoch v l there o =
      let at = o.sends_at in
      let a = and_parts (is_from at.end.side) ((at.end.port == o.output) && is_some at.view.epoch) at.sends_to in
      let b = and_parts (at.end.port == o.output) (is_some at.view.epoch) a.1 in
      let k = sending_link app.links 0 o.m at.place at.end at.end_is a.0 in
      let field = field_low at.end.link at.view.epoch b.1 in
      let low : c < 256 = (let w = slice_get_within app.links c l there in omega (arith, w, few)) in
      let mine : at.end.link < 256 = (let w = slice_get_within app.links k.place k.link k.there in let n = k.number in omega (arith, w, few, n)) in
      let same_field : at.end.link + 256 * field.0 ≡ c + 256 * epoch = (sym field.1 ∙ at.at) in
      let same : at.end.link ≡ c = omega (arith, low, mine, same_field) in
      let place : k.place ≡ c = (let n = k.number in omega (arith, n, same)) in
      let link : k.link ≡ l = same_Some k.link l (sym k.there ∙ ap (λ (i : ℕ). slice_get app.links i) place ∙ there) in
      let out : o.output ≡ l.output = sym (ap (λ (l : Link). l.output) (sym link) ∙ k.port ∙ eqb-true at.end.port o.output b.0) in
      let from : o.m ≡ l.from = sym (ap (λ (l : Link). l.from) (sym link) ∙ k.from) in
      subst (λ p. SentBehind app items p l.output v) from (subst (λ p. SentBehind app items o.m p v) out o.sent)

pub in_order_takes_behind : InOrderTakesBehind
in_order_takes_behind app items few legal before behind m c i v place =
    let a = along app [] before (Take m c i v) behind (power_on app) (holds_first app) (subst (λ xs. LegalInOrder app xs) place legal) in
    let w = taken_word app a.from a.to m c i v a.is in
    (w.0, w.1, over_link app few before c (i / 65536) v w.0 w.1 (a.holds.words (c + 256 * (i / 65536)) (i % 65536) v w.2))
