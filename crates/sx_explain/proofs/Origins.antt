-- Where each word that was sent comes from.
use Rattle.std.proofs.Common.{◌≡◌, ℕ, zero, suc, inl, inr, ◌==◌, Bool, true, false, if◌then◌else◌, List, [], ◌∷◌, ◌++◌, Option, Some, None, refl, sym, ◌∙◌, ap, subst, append_assoc}
use Rattle.std.specs.Prelude.{slice_get, slice_set}
use Rattle.std.proofs.lemmas.Bool.{eq-eqb, eqb-true, ne_eqb}
use Rattle.std.proofs.lemmas.List.{append-nil}
use Rattle.std.proofs.lemmas.Option.{same_Some, none-some}
use Rattle.sx_mean.specs.declared.events.Act.{Act}
use Rattle.sx_mean.specs.declared.events.Act.TheVariants.{Send, Emit}
use Rattle.sx_mean.specs.declared.events.End.{End}
use Rattle.sx_mean.specs.declared.events.SourceEvent.{SourceEvent}
use Rattle.sx_mean.specs.Application.{AppTree, PartTree}
use Rattle.sx_mean.specs.Ends.{ends_of}
use Rattle.sx_mean.specs.React.{react}
use Rattle.sx_trace.specs.declared.items.Item.{Item}
use Rattle.sx_trace.specs.declared.items.Item.TheVariants.{Out}
use Rattle.sx_model.specs.Reaction.{Flow, sent_to}
use Rattle.sx_model.specs.Consequences.{begins_event}
use Rattle.sx_model.proofs.Written.{at_set}
use Rattle.sx_explain.specs.Causes.{word_of, event_of, emits_of, out_of, outs_of}
use Rattle.sx_explain.proofs.Words.{SendsAt, Grows, grows_none, grows_on, grows_weaker, grows_acts}
use Rattle.sx_model.specs.State.{EndView}
use Rattle.sx_model.specs.order.State.{Model, Pending, Present, Standing, power_on}
use Rattle.sx_model.specs.order.Reaction.{sent_first, from_emit, flowing}
use Rattle.sx_model.specs.order.Step.{absent_at, behind_emit}
use Rattle.sx_model.specs.order.Legal.{after}
use Rattle.sx_explain.specs.Sending.{EventOf, acts_of, SentBehind}
use Rattle.sx_explain.proofs.Emitted.{outs_append}

-- what is sent before the first emit
pub record FirstSent (es : List End) (views : List EndView) (acts : List Act) (field v : ℕ) : Type 0 where
  pub output : ℕ
  pub sends_at : SendsAt es views output field
  pub first : List Act
  pub later : List Act
  pub whole : acts ≡ first ++ Send output v ∷ later
  pub none : emits_of first ≡ []

only_act : (a b : Act) (k : ℕ) → slice_get (a ∷ []) k ≡ Some b → a ≡ b
only_act a b zero e = same_Some a b e
only_act a b (suc k) e = absurd cc

grows_first : (es : List End) (views : List EndView) (acts : List Act) (f : Flow) → Grows f.sent (sent_first es views acts f).sent (λ k v. FirstSent es views acts k v)
grows_first es views [] f = grows_none f.sent _
grows_first es views (Emit v ∷ acts) f = grows_none f.sent _
grows_first es views (Send output v ∷ acts) f =
    let g = sent_to es views output v f in
    grows_on f.sent g.sent (sent_first es views acts g).sent (λ k w. FirstSent es views (Send output v ∷ acts) k w)
    (grows_weaker f.sent g.sent _ _
    (λ k w h. record { output = h.output; sends_at = h.sends_at; first = []; later = acts; whole = ap (λ z. z ∷ acts) (only_act (Send output v) (Send h.output w) h.act.place h.act.there); none = refl })
    (grows_acts es views (Send output v ∷ []) f))
    (grows_weaker g.sent (sent_first es views acts g).sent _ _
    (λ k w h. record { output = h.output; sends_at = h.sends_at; first = Send output v ∷ h.first; later = h.later; whole = ap (λ z. Send output v ∷ z) h.whole; none = h.none }) (grows_first es views acts g))

-- the acts before the first emit
pub first_part : (acts : List Act) → (first : List Act) × (acts ≡ first ++ from_emit acts) × (emits_of first ≡ [])
first_part [] = ([], refl, refl)
first_part (Emit v ∷ acts) = ([], refl, refl)
first_part (Send output v ∷ acts) = let h = first_part acts in (Send output v ∷ h.0, ap (λ z. Send output v ∷ z) h.1, h.2)

pub emits_append : (xs ys : List Act) → emits_of (xs ++ ys) ≡ emits_of xs ++ emits_of ys
emits_append [] ys = refl
emits_append (Emit v ∷ xs) ys = ap (λ z. v ∷ z) (emits_append xs ys)
emits_append (Send output v ∷ xs) ys = emits_append xs ys

pub outs_last : (m : ℕ) (xs : List Item) (i : Item) → outs_of m (xs ++ i ∷ []) ≡ outs_of m xs ++ out_of m i
outs_last m xs i = outs_append m xs (i ∷ []) ∙ ap (λ z. outs_of m xs ++ z) (append-nil (out_of m i))

module _ (app : AppTree) where
  -- an event goes on
  abbrev pub later_event : (items : List Item) (i : Item) (m : ℕ) → EventOf app items m → EventOf app (items ++ i ∷ []) m
  later_event items i m e = record {
    front = e.front;
    by = e.by;
    rest = e.rest ++ i ∷ [];
    place = ap (λ z. z ++ i ∷ []) e.place ∙ append_assoc e.front (e.by ∷ e.rest) (i ∷ []);
    begins = e.begins;
    before = e.before;
    ran = e.ran;
    part = e.part;
    part_is = e.part_is;
    standing = e.standing;
    standing_is = e.standing_is;
    present = e.present;
    present_is = e.present_is;
    event = e.event;
    event_is = e.event_is;
  }

  later_sent : (items : List Item) (i : Item) (m output v : ℕ) → SentBehind app items m output v → SentBehind app (items ++ i ∷ []) m output v
  later_sent items i m output v h = record {
    event = later_event items i m h.event;
    first = h.first;
    later = h.later;
    acts = h.acts;
    more = h.more ++ out_of m i;
    shown = outs_last m h.event.rest i ∙ ap (λ z. z ++ out_of m i) h.shown ∙ append_assoc (emits_of h.first) h.more (out_of m i);
  }

  -- an event of the module whose handler's acts end with these, after all that it emits before
  pub record Doing (items : List Item) (m : ℕ) (acts : List Act) : Type 0 where
    pub event : EventOf app items m
    pub first : List Act
    pub whole : acts_of event ≡ first ++ acts
    pub shown : outs_of m event.rest ≡ emits_of first

  later_doing : (items : List Item) (i : Item) (m : ℕ) (acts : List Act) → out_of m i ≡ [] → Doing items m acts → Doing (items ++ i ∷ []) m acts
  later_doing items i m acts quiet h = record {
    event = later_event items i m h.event;
    first = h.first;
    whole = h.whole;
    shown = outs_last m h.event.rest i ∙ ap (λ z. outs_of m h.event.rest ++ z) quiet ∙ append-nil (outs_of m h.event.rest) ∙ h.shown;
  }

  -- a word at a field is of an end of the module that sent it
  pub record Origin (items : List Item) (field v : ℕ) : Type 0 where
    pub m : ℕ
    pub output : ℕ
    pub views : List EndView
    pub sends_at : SendsAt (ends_of app m) views output field
    pub sent : SentBehind app items m output v

  abbrev pub Words : List Item → List (List ℕ) → Type 0
  Words items sent = (k j v : ℕ) → word_of sent k j ≡ Some v → Origin items k v

  abbrev pub Owing : List Item → List Standing → Type 0
  Owing items xs = (m : ℕ) (x : Standing) (p : Present) (owed : Pending) (a : Act) (bs : List Act) → slice_get xs m ≡ Some x → x.present ≡ Some p → p.pending ≡ Some owed
      → owed.acts ≡ a ∷ bs → Doing items m (a ∷ bs)

  pub record Holds (items : List Item) (s : Model) : Type 0 where
    pub ran : after app (power_on app) items ≡ Some s
    pub words : Words items s.sent
    pub owing : Owing items s.modules

  pub later_words : (items : List Item) (i : Item) (sent : List (List ℕ)) → Words items sent → Words (items ++ i ∷ []) sent
  later_words items i sent h k j v e =
      let o = h k j v e in record { m = o.m; output = o.output; views = o.views; sends_at = o.sends_at; sent = later_sent items i o.m o.output v o.sent }

  more_words : (items : List Item) (i : Item) (a b : List (List ℕ)) (New : ℕ → ℕ → Type 0) → Words items a → Grows a b New → ((k v : ℕ) → New k v → Origin (items ++ i ∷ []) k v) → Words (items ++ i ∷ []) b
  more_words items i a b New h g new k j v e = by (word_of a k j) refl
    where
      by : (o : Option ℕ) → word_of a k j ≡ o → Origin (items ++ i ∷ []) k v
      by None n = new k v (g.comes k j v n e)
      by (Some w) n = later_words items i a h k j v (n ∙ ap (λ z. Some z) (same_Some w v (sym (g.stays k j w n) ∙ e)))

  module _ (items : List Item) (i : Item) (xs : List Standing) (h : Owing items xs) where
    pub still : ((m : ℕ) → out_of m i ≡ []) → Owing (items ++ i ∷ []) xs
    still quiet m x p owed a bs e pe oe ae = later_doing items i m (a ∷ bs) (quiet m) (h m x p owed a bs e pe oe ae)

    pub changed : (k : ℕ) (y : Standing) → ((m : ℕ) → (k ≡ m → ⊥) → out_of m i ≡ [])
        → ((p : Present) (owed : Pending) (a : Act) (bs : List Act) → y.present ≡ Some p → p.pending ≡ Some owed → owed.acts ≡ a ∷ bs → Doing (items ++ i ∷ []) k (a ∷ bs))
        → Owing (items ++ i ∷ []) (slice_set xs k y)
    changed k y quiet own m x p owed a bs e pe oe ae = elim (at_set xs k m y x e) [
      | inl same ↦ subst (λ j. Doing (items ++ i ∷ []) j (a ∷ bs)) same.0 (own p owed a bs (ap (λ (z : Standing). z.present) same.1 ∙ pe) oe ae)
      | inr other ↦ later_doing items i m (a ∷ bs) (quiet m other.0) (h m x p owed a bs other.1 pe oe ae)
    ]

    -- it owes no act
    pub settled : (k : ℕ) (y : Standing) → ((m : ℕ) → out_of m i ≡ []) → ((p : Present) (owed : Pending) → y.present ≡ Some p → p.pending ≡ Some owed → owed.acts ≡ []) → Owing (items ++ i ∷ []) (slice_set xs k y)
    settled k y quiet none = changed k y (λ m ne. quiet m) (λ p owed a bs pe oe ae. absurd (nothing_some a bs (sym (none p owed pe oe) ∙ ae)))
      where
        nothing_some : (a : Act) (bs : List Act) → [] ≡ a ∷ bs → ⊥
        nothing_some a bs e = cc

    -- it owes what it owed
    pub kept : (k : ℕ) (x y : Standing) → slice_get xs k ≡ Some x → y.present ≡ x.present → ((m : ℕ) → out_of m i ≡ []) → Owing (items ++ i ∷ []) (slice_set xs k y)
    kept k x y e same quiet = changed k y (λ m ne. quiet m) (λ p owed a bs pe oe ae. later_doing items i k (a ∷ bs) (quiet k) (h k x p owed a bs e (sym same ∙ pe) oe ae))

    pub absent : (n : ℕ) → ((m : ℕ) → out_of m i ≡ []) → Owing (items ++ i ∷ []) (absent_at n app.parts xs)
    absent n quiet m x p owed a bs e pe oe ae = still quiet m x p owed a bs (elsewhere app.parts xs m e) pe oe ae
      where
        here : (b : Bool) (y : Standing) → Some (if b then record y { present = None } else y) ≡ Some x → Some y ≡ Some x
        here true y e = absurd (none-some p (ap (λ (z : Standing). z.present) (same_Some (record y { present = None }) x e) ∙ pe))
        here false y e = e

        elsewhere : (qs : List PartTree) (xs : List Standing) (m : ℕ) → slice_get (absent_at n qs xs) m ≡ Some x → slice_get xs m ≡ Some x
        elsewhere [] xs m e = e
        elsewhere (q ∷ qs) [] m e = absurd cc
        elsewhere (q ∷ qs) (y ∷ xs) zero e = here (q.node == n) y e
        elsewhere (q ∷ qs) (y ∷ xs) (suc m) e = elsewhere qs xs m e

  -- an event begins
  module _ (items : List Item) (s : Model) (h : Holds items s) (i : Item) (m : ℕ) (q : PartTree) (x : Standing) (old p : Present) (ev : SourceEvent)
      (begins : begins_event m i ≡ true) (part : slice_get app.parts m ≡ Some q) (there : slice_get s.modules m ≡ Some x) (present : x.present ≡ Some old) (cells : p.cells ≡ old.cells)
      (is : event_of app i ≡ Some ev) (quiet : (k : ℕ) → out_of k i ≡ []) where
    abbrev acts : List Act
    acts = (react q.tree ev p.cells).acts

    abbrev pub here : EventOf app (items ++ i ∷ []) m
    here = record {
      front = items;
      by = i;
      rest = [];
      place = refl;
      begins = begins;
      before = s;
      ran = h.ran;
      part = q;
      part_is = part;
      standing = x;
      standing_is = there;
      present = old;
      present_is = present;
      event = ev;
      event_is = is;
    }

    acts_here : acts_of here ≡ acts
    acts_here = ap (λ c. (react q.tree ev c).acts) (sym cells)

    pub begun_words : Words (items ++ i ∷ []) (sent_first (ends_of app m) p.ends acts (flowing s.sent 0)).sent
    begun_words = more_words items i s.sent (sent_first (ends_of app m) p.ends acts (flowing s.sent 0)).sent _ h.words (grows_first (ends_of app m) p.ends acts (flowing s.sent 0)) (λ k v n. record {
      m = m;
      output = n.output;
      views = p.ends;
      sends_at = n.sends_at;
      sent = record { event = here; first = n.first; later = n.later; acts = acts_here ∙ n.whole; more = []; shown = sym (append-nil (emits_of n.first) ∙ n.none) };
    })

    pub begun_owing : (y : Standing) (r : Present) (k : ℕ) → y.present ≡ Some r → r.pending ≡ Some (record { acts = from_emit acts; pieces = k }) → Owing (items ++ i ∷ []) (slice_set s.modules m y)
    begun_owing y r k ye re = changed items i s.modules h.owing m y (λ j ne. quiet j) (λ p2 owed a bs pe oe ae.
        let same : r ≡ p2 = same_Some r p2 (sym ye ∙ pe) in
        let owes : from_emit acts ≡ owed.acts = ap (λ (z : Pending). z.acts) (same_Some _ owed (sym re ∙ ap (λ (z : Present). z.pending) same ∙ oe)) in
        let f = first_part acts in
        record { event = here; first = f.0; whole = acts_here ∙ f.1 ∙ ap (λ z. f.0 ++ z) (owes ∙ ae); shown = sym f.2 })

  -- an emit is written
  pub emitted : (v : ℕ) (acts left : List Act) → behind_emit v acts ≡ Some left → acts ≡ Emit v ∷ left
  emitted v [] left e = absurd cc
  emitted v (Send o w ∷ acts) left e = absurd cc
  emitted v (Emit w ∷ acts) left e = by (w == v) refl e
    where
      by : (b : Bool) → (w == v) ≡ b → (if b then Some acts else None) ≡ Some left → Emit w ∷ acts ≡ Emit v ∷ left
      by true t g = ap (λ z. Emit z ∷ acts) (eqb-true w v t) ∙ ap (λ z. Emit v ∷ z) (same_Some acts left g)
      by false t g = absurd (none-some left g)

  module _ (items : List Item) (s : Model) (h : Holds items s) (m v : ℕ) (x : Standing) (p : Present) (owed : Pending) (acts : List Act)
      (there : slice_get s.modules m ≡ Some x) (present : x.present ≡ Some p) (pending : p.pending ≡ Some owed) (behind : behind_emit v owed.acts ≡ Some acts) where
    abbrev i : Item
    i = Out m v

    was : Doing items m (Emit v ∷ acts)
    was = h.owing m x p owed (Emit v) acts there present pending (emitted v owed.acts acts behind)

    out_here : outs_of m (was.event.rest ++ i ∷ []) ≡ emits_of was.first ++ v ∷ []
    out_here = outs_last m was.event.rest i ∙ ap (λ z. z ++ out_of m i) was.shown ∙ ap (λ (b : Bool). emits_of was.first ++ (if b then v ∷ [] else [])) (eq-eqb m m refl)

    -- the acts up to a place after the emit
    up_to : (mid later : List Act) → acts ≡ mid ++ later → emits_of mid ≡ []
        → (first : List Act) × (acts_of was.event ≡ first ++ later) × (outs_of m (was.event.rest ++ i ∷ []) ≡ emits_of first)
    up_to mid later e none = (
      was.first ++ Emit v ∷ mid,
      was.whole ∙ ap (λ z. was.first ++ Emit v ∷ z) e ∙ sym (append_assoc was.first (Emit v ∷ mid) later),
      out_here ∙ ap (λ z. emits_of was.first ++ v ∷ z) (sym none) ∙ sym (emits_append was.first (Emit v ∷ mid)),
    )

    pub out_words : Words (items ++ i ∷ []) (sent_first (ends_of app m) p.ends acts (flowing s.sent owed.pieces)).sent
    out_words = more_words items i s.sent (sent_first (ends_of app m) p.ends acts (flowing s.sent owed.pieces)).sent _ h.words (grows_first (ends_of app m) p.ends acts (flowing s.sent owed.pieces)) (λ k w n.
        let u = up_to n.first (Send n.output w ∷ n.later) n.whole n.none in
        record {
          m = m;
          output = n.output;
          views = p.ends;
          sends_at = n.sends_at;
          sent = record { event = later_event items i m was.event; first = u.0; later = n.later; acts = u.1; more = []; shown = u.2 ∙ sym (append-nil (emits_of u.0)) };
        })

    pub out_owing : (y : Standing) (r : Present) (k : ℕ) → y.present ≡ Some r → r.pending ≡ Some (record { acts = from_emit acts; pieces = k }) → Owing (items ++ i ∷ []) (slice_set s.modules m y)
    out_owing y r k ye re = changed items i s.modules h.owing m y (λ j ne. ap (λ (b : Bool). if b then v ∷ [] else []) (ne_eqb m j ne)) (λ p2 o a bs pe oe ae.
        let same : r ≡ p2 = same_Some r p2 (sym ye ∙ pe) in
        let owes : from_emit acts ≡ o.acts = ap (λ (z : Pending). z.acts) (same_Some _ o (sym re ∙ ap (λ (z : Present). z.pending) same ∙ oe)) in
        let f = first_part acts in
        let u = up_to f.0 (from_emit acts) f.1 f.2 in
        record { event = later_event items i m was.event; first = u.0; whole = u.1 ∙ ap (λ z. u.0 ++ z) (owes ∙ ae); shown = u.2 })
