-- Events are finished.
use Rattle.std.proofs.Common.{◌≡◌, ℕ, zero, suc, inl, inr, ◌==◌, ◌&&◌, ◌||◌, Bool, true, false, if◌then◌else◌, List, [], ◌∷◌, ◌++◌, Option, Some, None, refl, sym, ◌∙◌, ap, subst, append_assoc}
use Rattle.std.specs.Prelude.{slice_get, slice_set, IsSome, is_none, nat_le, not}
use Rattle.std.specs.List.{list_any}
use Rattle.std.proofs.lemmas.Bool.{true≢false, and_parts, cases_eq, eq-eqb, eqb-true, ne_eqb, or_parts, cases_Bool, false≢true}
use Rattle.std.proofs.lemmas.List.{append-nil}
use Rattle.std.proofs.lemmas.Option.{same_Some, none-some}
use Rattle.lemmas.proofs.Lists.{get_same}
use Rattle.sx_mean.specs.declared.apps.Link.{Link}
use Rattle.sx_mean.specs.declared.events.Act.{Act}
use Rattle.sx_mean.specs.declared.events.Act.TheVariants.{Emit}
use Rattle.sx_mean.specs.declared.events.SourceEvent.{SourceEvent}
use Rattle.sx_mean.specs.declared.events.SourceEvent.TheVariants as event
use Rattle.sx_mean.specs.Application.{AppTree, PartTree}
use Rattle.sx_mean.specs.React.{react}
use Rattle.sx_mean.specs.Ends.{ends_of}
use Rattle.sx_trace.specs.declared.items.Item.{Item}
use Rattle.sx_trace.specs.declared.items.Item.TheVariants.{Reset, Protect, Sense, Read, Drain, Ask, Attested, Denied, Vouch, Open, Take, Out, Raw, Done, Packet, Forged, Busy, Skip, Budget}
use Rattle.sx_model.specs.Consequences.{begins_event, is_part_at}
use Rattle.sx_model.proofs.Written.{get_other}
use Rattle.sx_explain.specs.Causes.{out_of, outs_of, emits_of}
use Rattle.sx_model.specs.order.State.{Model, Pending, Present, Standing, power_on}
use Rattle.sx_model.specs.order.Reaction.{from_emit, sent_first, flowing}
use Rattle.sx_model.specs.Step.{◌>>?◌, waits}
use Rattle.sx_model.specs.order.Step.{step, idle, absent_at, is_nothing, state_if, with_present}
use Rattle.sx_model.specs.order.Legal.{after, LegalInOrder}
use Rattle.sx_explain.specs.Sending.{EventOf, acts_of}
use Rattle.sx_model.specs.order.Turns.{begins, ends}
use Rattle.sx_explain.specs.Finished.{resets}
use Rattle.sx_explain.specs.Laws.{InOrderFinishes}
use Rattle.sx_model.proofs.order.Idle.{idle_is}
use Rattle.sx_model.proofs.order.Steps.{Cases, by_step}
use Rattle.sx_model.proofs.Along.{some_of, next_of}
use Rattle.sx_model.proofs.order.Sides.{nothing_is}
use Rattle.sx_explain.proofs.Origins.{Holds, later_event, here, first_part, emitted, emits_append, outs_last}
use Rattle.sx_explain.proofs.After.{some_next}
use Rattle.sx_explain.proofs.TakesBehind.{holds_first, holds_on, if_state}

-- a reset leaves what isn't at its node
pub absent_other : (n : ℕ) (qs : List PartTree) (xs : List Standing) (m : ℕ) (x : Standing) → is_part_at n (slice_get qs m) ≡ false → slice_get xs m ≡ Some x → slice_get (absent_at n qs xs) m ≡ Some x
absent_other n [] xs m x f e = e
absent_other n (q ∷ qs) [] m x f e = absurd cc
absent_other n (q ∷ qs) (y ∷ xs) zero x f e = ap (λ (b : Bool). Some (if b then record y { present = None } else y)) f ∙ e
absent_other n (q ∷ qs) (y ∷ xs) (suc m) x f e = absent_other n qs xs m x f e

module _ (app : AppTree) (m : ℕ) where
  -- an event of the module is pending, which began before these items and did so much
  record Track (items : List Item) (s : Model) (mid : List Item) : Type 0 where
    pub x : Standing
    pub p : Present
    pub owed : Pending
    pub there : slice_get s.modules m ≡ Some x
    pub present : x.present ≡ Some p
    pub pending : p.pending ≡ Some owed
    pub event : EventOf app items m
    pub alone : event.rest ≡ mid
    pub first : List Act
    pub whole : acts_of event ≡ first ++ owed.acts
    pub shown : outs_of m mid ≡ emits_of first

  module _ (items : List Item) (s : Model) (mid : List Item) (h : Track items s mid) (i : Item) where
    -- another state in which the same is owed
    track_as : (t : Model) (x : Standing) (p : Present) (owed : Pending) → slice_get t.modules m ≡ Some x → x.present ≡ Some p → p.pending ≡ Some owed → owed.acts ≡ h.owed.acts
        → out_of m i ≡ [] → Track (items ++ i ∷ []) t (mid ++ i ∷ [])
    track_as t x p owed there present pending same quiet = record {
      x = x;
      p = p;
      owed = owed;
      there = there;
      present = present;
      pending = pending;
      event = later_event app items i m h.event;
      alone = ap (λ z. z ++ i ∷ []) h.alone;
      first = h.first;
      whole = h.whole ∙ ap (λ z. h.first ++ z) (sym same);
      shown = outs_last m mid i ∙ ap (λ z. outs_of m mid ++ z) quiet ∙ append-nil (outs_of m mid) ∙ h.shown;
    }

    same : (t : Model) → t.modules ≡ s.modules → out_of m i ≡ [] → Track (items ++ i ∷ []) t (mid ++ i ∷ [])
    same t e quiet = track_as t h.x h.p h.owed (ap (λ z. slice_get z m) e ∙ h.there) h.present h.pending refl quiet

    other : (t : Model) (k : ℕ) (y : Standing) → t.modules ≡ slice_set s.modules k y → (k ≡ m → ⊥) → out_of m i ≡ [] → Track (items ++ i ∷ []) t (mid ++ i ∷ [])
    other t k y e ne quiet = track_as t h.x h.p h.owed (ap (λ z. slice_get z m) e ∙ get_other s.modules k m y ne ∙ h.there) h.present h.pending refl quiet

    -- another module, since this one isn't idle
    idle_other : (t : Model) (k : ℕ) (x y : Standing) (p : Present) → t.modules ≡ slice_set s.modules k y → slice_get s.modules k ≡ Some x → idle x ≡ Some p → out_of m i ≡ [] → Track (items ++ i ∷ []) t (mid ++ i ∷ [])
    idle_other t k x y p e there rests quiet = other t k y e (λ q. busy (same_Some x h.x (sym there ∙ ap (λ j. slice_get s.modules j) q ∙ h.there))) quiet
      where
        idle_by : (o : Option Present) → o ≡ Some h.p → (o >>? (λ p. if is_none p.pending then Some p else None)) ≡ None
        idle_by o g = rw (g, h.pending) refl

        busy : x ≡ h.x → ⊥
        busy q = none-some p (sym (idle_by x.present (ap (λ (z : Standing). z.present) q ∙ h.present)) ∙ rests)

    kept_present : (t : Model) (k : ℕ) (x y : Standing) → t.modules ≡ slice_set s.modules k y → slice_get s.modules k ≡ Some x → y.present ≡ x.present → out_of m i ≡ [] → Track (items ++ i ∷ []) t (mid ++ i ∷ [])
    kept_present t k x y e there q quiet = elim (cases_eq k m) [
      | inl one ↦
          let xm : x ≡ h.x = same_Some x h.x (sym there ∙ ap (λ j. slice_get s.modules j) one ∙ h.there) in
          track_as t y h.p h.owed (ap (λ z. slice_get z m) e ∙ subst (λ j. slice_get (slice_set s.modules k y) j ≡ Some y) one (get_same s.modules k y x there))
          (q ∙ ap (λ (z : Standing). z.present) xm ∙ h.present) h.pending refl quiet
      | inr ne ↦ other t k y e ne quiet
    ]

  abbrev Stays : List Item → List Item → Item → Model → Type 0
  Stays items mid i t = ends app m i ≡ false → Track (items ++ i ∷ []) t (mid ++ i ∷ [])

  stays : (items : List Item) (s : Model) (mid : List Item) → Track items s mid → Cases app s (λ i t. Stays items mid i t)
  stays items s mid h = record {
    reset = λ n cause boot _ f. track_as items s mid h (Reset n cause) _ h.x h.p h.owed (absent_other n app.parts s.modules m h.x f h.there) h.present h.pending refl refl;
    unknown = λ n f. same items s mid h (Protect n None) s refl refl;
    protect = λ n k q x e none f. other items s mid h (Protect n (Some k)) _ k _ refl (λ g. absent x none (ap (λ (z : Standing). z.present) (same_Some x h.x (sym e ∙ ap (λ j. slice_get s.modules j) g ∙ h.there)) ∙ h.present)) refl;
    sense = λ d v f. same items s mid h (Sense d v) _ refl refl;
    read = λ k v q x p d r _ e j _ _ _ f. idle_other items s mid h (Read k v) _ k x _ p refl e j refl;
    drain = λ d r f. same items s mid h (Drain d) _ refl refl;
    ask = λ k a x e f. kept_present items s mid h (Ask k a) _ k x _ refl e refl refl;
    attested = λ k b a x e _ f. kept_present items s mid h (Attested k b) _ k x _ refl e refl refl;
    denied = λ k f. same items s mid h (Denied k) s refl refl;
    vouch = λ k a q x p boot _ e j _ f. idle_other items s mid h (Vouch k a) _ k x _ p refl e j refl;
    opened = λ k c side epoch q x p boot views _ e j _ _ _ f. idle_other items s mid h (Open k c side epoch) _ k x _ p refl e j refl;
    take = λ k c i v q x p l views _ e j _ _ f. idle_other items s mid h (Take k c i v) _ k x _ p refl e j refl;
    out = λ k v x p owed acts e ep eo ea f. out k v x p owed acts e ep eo ea;
    raw = λ d v f. same items s mid h (Raw d v) s refl refl;
    done = λ k status n x p e ep f. other items s mid h (Done k status n) _ k _ refl (λ g. true≢false (sym (eq-eqb k m g) ∙ f)) refl;
    refused = λ k status n x p e ep none f. same items s mid h (Done k status n) s refl refl;
    packet = λ k n f. same items s mid h (Packet k n) s refl refl;
    forged = λ k f. same items s mid h (Forged k) s refl refl;
    busy = λ n f. same items s mid h (Busy n) s refl refl;
    skip = λ n f. same items s mid h (Skip n) s refl refl;
    budget = λ n f. same items s mid h (Budget n) s refl refl;
  }
    where
      absent : (x : Standing) → is_none x.present ≡ true → x.present ≡ Some h.p → ⊥
      absent x none e = true≢false (sym none ∙ ap is_none e)

      out : (k v : ℕ) (x : Standing) (p : Present) (owed : Pending) (acts : List Act) → slice_get s.modules k ≡ Some x → x.present ≡ Some p → p.pending ≡ Some owed
          → Rattle.sx_model.specs.order.Step.behind_emit v owed.acts ≡ Some acts → Track (items ++ Out k v ∷ []) (Rattle.sx_model.specs.order.Step.goes_on app s k x p acts owed.pieces) (mid ++ Out k v ∷ [])
      out k v x p owed acts e ep eo ea = elim (cases_eq k m) [
        | inl one ↦
            let xm : x ≡ h.x = same_Some x h.x (sym e ∙ ap (λ j. slice_get s.modules j) one ∙ h.there) in
            let pm : p ≡ h.p = same_Some p h.p (sym ep ∙ ap (λ (z : Standing). z.present) xm ∙ h.present) in
            let om : owed ≡ h.owed = same_Some owed h.owed (sym eo ∙ ap (λ (z : Present). z.pending) pm ∙ h.pending) in
            let was : h.owed.acts ≡ Emit v ∷ acts = ap (λ (z : Pending). z.acts) (sym om) ∙ emitted app v owed.acts acts ea in
            let f = first_part acts in
            let o2 : Pending = record { acts = from_emit acts; pieces = (sent_first (ends_of app k) p.ends acts (flowing s.sent owed.pieces)).pieces } in
            let p2 : Present = record { cells = p.cells; ends = p.ends; pending = Some o2 } in
            let x2 : Standing = record { present = Some p2; asked = x.asked; vouched = x.vouched; attested = x.attested } in
            record {
              x = x2;
              p = p2;
              owed = o2;
              there = subst (λ j. slice_get (slice_set s.modules k x2) j ≡ Some x2) one (get_same s.modules k x2 x e);
              present = refl;
              pending = refl;
              event = later_event app items (Out k v) m h.event;
              alone = ap (λ z. z ++ Out k v ∷ []) h.alone;
              first = h.first ++ Emit v ∷ f.0;
              whole = h.whole ∙ ap (λ z. h.first ++ z) (was ∙ ap (λ z. Emit v ∷ z) f.1) ∙ sym (append_assoc h.first (Emit v ∷ f.0) (from_emit acts));
              shown = outs_last m mid (Out k v) ∙ ap (λ z. z ++ out_of m (Out k v)) h.shown ∙ ap (λ (b : Bool). emits_of h.first ++ (if b then v ∷ [] else [])) (eq-eqb k m one)
                  ∙ ap (λ z. emits_of h.first ++ v ∷ z) (sym f.2) ∙ sym (emits_append h.first (Emit v ∷ f.0));
            }
        | inr ne ↦ other items s mid h (Out k v) _ k _ refl ne (ap (λ (b : Bool). if b then v ∷ [] else []) (ne_eqb k m ne))
      ]

  abbrev Starts : List Item → Item → Model → Type 0
  Starts items i t = begins_event m i ≡ true → Track (items ++ i ∷ []) t []

  starts : (items : List Item) (s : Model) → Holds app items s → Cases app s (λ i t. Starts items i t)
  starts items s h = record {
    reset = λ n cause boot _ f. absurd (false≢true f);
    unknown = λ n f. absurd (false≢true f);
    protect = λ n k q x e none f. absurd (false≢true f);
    sense = λ d v f. absurd (false≢true f);
    read = λ k v q x p d r eq e j _ _ _ f. started (Read k v) k q x p p (event.Sample v) _ _ _ _ eq e (idle_is x p j) refl refl (λ z. refl) refl refl refl (eqb-true k m f) f;
    drain = λ d r f. absurd (false≢true f);
    ask = λ k a x e f. absurd (false≢true f);
    attested = λ k b a x e _ f. absurd (false≢true f);
    denied = λ k f. absurd (false≢true f);
    vouch = λ k a q x p boot _ e i _ f. absurd (false≢true f);
    opened = λ k c side epoch q x p boot views _ e i _ _ _ f. absurd (false≢true f);
    take = λ k c i v q x p l views eq e j el _ f. started (Take k c i v) k q x p (record p { ends = views }) (event.Input l.input v) _ _ _ _ eq e (idle_is x p j) refl (ap (λ o. o >>? (λ (l : Link). Some (event.Input l.input v))) el) (λ z. refl) refl refl refl (eqb-true k m f) f;
    out = λ k v x p owed acts e ep eo ea f. absurd (false≢true f);
    raw = λ d v f. absurd (false≢true f);
    done = λ k status n x p e ep f. absurd (false≢true f);
    refused = λ k status n x p e ep none f. absurd (false≢true f);
    packet = λ k n f. absurd (false≢true f);
    forged = λ k f. absurd (false≢true f);
    busy = λ n f. absurd (false≢true f);
    skip = λ n f. absurd (false≢true f);
    budget = λ n f. absurd (false≢true f);
  }
    where
      started : (i : Item) (k : ℕ) (q : PartTree) (x : Standing) (old p : Present) (ev : SourceEvent) (t : Model) (y : Standing) (r : Present) (pieces : ℕ)
          → slice_get app.parts k ≡ Some q → slice_get s.modules k ≡ Some x → x.present ≡ Some old → p.cells ≡ old.cells → Rattle.sx_explain.specs.Causes.event_of app i ≡ Some ev → ((z : ℕ) → out_of z i ≡ [])
          → t.modules ≡ slice_set s.modules k y → y.present ≡ Some r → r.pending ≡ Some (record { acts = from_emit (react q.tree ev p.cells).acts; pieces = pieces })
          → k ≡ m → begins_event m i ≡ true → Track (items ++ i ∷ []) t []
      started i k q x old p ev t y r pieces part there present cells is quiet mods ye re one f =
          let c = first_part (react q.tree ev p.cells).acts in
          record {
            x = y;
            p = r;
            owed = record { acts = from_emit (react q.tree ev p.cells).acts; pieces = pieces };
            there = ap (λ z. slice_get z m) mods ∙ subst (λ j. slice_get (slice_set s.modules k y) j ≡ Some y) one (get_same s.modules k y x there);
            present = ye;
            pending = re;
            event = here app items s h i m q x old p ev f (subst (λ j. slice_get app.parts j ≡ Some q) one part) (subst (λ j. slice_get s.modules j ≡ Some x) one there) present cells is quiet;
            alone = refl;
            first = c.0;
            whole = ap (λ c. (react q.tree ev c).acts) (sym cells) ∙ c.1;
            shown = sym c.2;
          }

  -- the event is done only where nothing is owed
  module _ (items : List Item) (s : Model) (mid : List Item) (h : Track items s mid) (status n : ℕ) (t : Model) where
    abbrev Ends : Type 0
    Ends = (status ≡ 1) × (outs_of m mid ≡ emits_of (acts_of h.event))

    ended : (owed : Pending) → owed ≡ h.owed → is_nothing owed.acts ≡ true → outs_of m mid ≡ emits_of (acts_of h.event)
    ended owed same e =
        let none : h.owed.acts ≡ [] = ap (λ (z : Pending). z.acts) (sym same) ∙ nothing_is owed.acts e in
        h.shown ∙ ap emits_of (sym (append-nil h.first) ∙ ap (λ z. h.first ++ z) (sym none) ∙ sym h.whole)

    by_status : (q : PartTree) (x : Standing) (p : Present) → p ≡ h.p → (b : Bool) → (status == 1) ≡ b
        → (if b then (p.pending >>? (λ owed. state_if (is_nothing owed.acts && (n == owed.pieces)) (with_present s m x (record p { pending = None }))))
        else state_if ((nat_le 2 status && nat_le status 8) && ((n == 0) && (is_none p.pending && (not (status == 8) || waits app s.devices q.device)))) s) ≡ Some t → Ends
    by_status q x p same true b e =
        let o = some_next p.pending _ t e in
        let is : o.0 ≡ h.owed = same_Some o.0 h.owed (sym o.1 ∙ ap (λ (z : Present). z.pending) same ∙ h.pending) in
        let test = if_state (is_nothing o.0.acts && (n == o.0.pieces)) (with_present s m x (record p { pending = None })) t o.2 in
        (eqb-true status 1 b, ended o.0 is (and_parts (is_nothing o.0.acts) (n == o.0.pieces) test).0)
    by_status q x p same false b e =
        let test = if_state ((nat_le 2 status && nat_le status 8) && ((n == 0) && (is_none p.pending && (not (status == 8) || waits app s.devices q.device)))) s t e in
        let one = (and_parts (nat_le 2 status && nat_le status 8) ((n == 0) && (is_none p.pending && (not (status == 8) || waits app s.devices q.device))) test).1 in
        let two = (and_parts (n == 0) (is_none p.pending && (not (status == 8) || waits app s.devices q.device)) one).1 in
        let idle = (and_parts (is_none p.pending) (not (status == 8) || waits app s.devices q.device) two).0 in
        absurd (true≢false (sym idle ∙ ap is_none (ap (λ (z : Present). z.pending) same ∙ h.pending)))

    done_pending : step app s (Done m status n) ≡ Some t → Ends
    done_pending e =
        let q = some_next (slice_get app.parts m) _ t e in
        let x = some_next (slice_get s.modules m) _ t q.2 in
        let p = some_next x.0.present _ t x.2 in
        let xs : x.0 ≡ h.x = same_Some x.0 h.x (sym x.1 ∙ h.there) in
        let ps : p.0 ≡ h.p = same_Some p.0 h.p (sym p.1 ∙ ap (λ (z : Standing). z.present) xs ∙ h.present) in
        by_status q.0 x.0 p.0 ps (status == 1) refl p.2

  -- the first item that ends the event is that it is done, where the node isn't reset
  record Found (before : List Item) (first : Item) (done between : List Item) : Type 0 where
    pub mid : List Item
    pub pieces : ℕ
    pub rest : List Item
    pub place : done ++ between ≡ mid ++ Done m 1 pieces ∷ rest
    pub event : EventOf app (before ++ first ∷ mid) m
    pub alone : event.rest ≡ mid
    pub shown : outs_of m mid ≡ emits_of (acts_of event)

  ending : (i : Item) → ends app m i ≡ true → resets app m i ≡ false → (status : ℕ) × (n : ℕ) × (i ≡ Done m status n)
  ending (Done k status n) e r = (status, n, ap (λ j. Done j status n) (eqb-true k m e))
  ending (Reset n cause) e r = absurd (true≢false (sym e ∙ r))
  ending _ e r = absurd (false≢true e)

  finds : (before : List Item) (first : Item) (done between behind : List Item) (s : Model) → Track (before ++ first ∷ done) s done → IsSome (after app s (between ++ behind))
      → list_any (ends app m) between ≡ true → list_any (resets app m) between ≡ false → Found before first done between
  finds before first done [] behind s h legal e r = absurd (false≢true e)
  finds before first done (i ∷ between) behind s h legal e r =
      let n = next_of (step app s i) (λ t. after app t (between ++ behind)) legal in
      let rs = or_parts (resets app m i) (list_any (resets app m) between) r in
      by (λ t h3 g any r2. finds before first (done ++ i ∷ []) between behind t h3 g any r2) (ends app m i) refl n.0 n.1 n.2 rs.0 rs.1
    where
      by : ((t : Model) → Track (before ++ first ∷ (done ++ i ∷ [])) t (done ++ i ∷ []) → IsSome (after app t (between ++ behind)) → list_any (ends app m) between ≡ true
          → list_any (resets app m) between ≡ false → Found before first (done ++ i ∷ []) between)
          → (b : Bool) → ends app m i ≡ b → (t : Model) → step app s i ≡ Some t → IsSome (after app t (between ++ behind)) → resets app m i ≡ false → list_any (resets app m) between ≡ false
          → Found before first done (i ∷ between)
      by more true b t st legal r1 r2 =
          let d = ending i b r1 in
          let k = done_pending (before ++ first ∷ done) s done h d.0 d.1 t (subst (λ z. step app s z ≡ Some t) d.2 st) in
          record {
            mid = done;
            pieces = d.1;
            rest = between;
            place = ap (λ z. done ++ z ∷ between) (d.2 ∙ ap (λ z. Done m z d.1) k.0);
            event = h.event;
            alone = h.alone;
            shown = k.1;
          }
      by more false b t st legal r1 r2 =
          let h2 = some_of (step app s i) t (Stays (before ++ first ∷ done) done i) (by_step app s (λ i t. Stays (before ++ first ∷ done) done i t) (stays (before ++ first ∷ done) s done h) i) st b in
          let h3 : Track (before ++ first ∷ (done ++ i ∷ [])) t (done ++ i ∷ []) = subst (λ z. Track z t (done ++ i ∷ [])) (append_assoc before (first ∷ done) (i ∷ [])) h2 in
          let any : list_any (ends app m) between ≡ true = sym (ap (λ (z : Bool). z || list_any (ends app m) between) b) ∙ e in
          let f = more t h3 legal any r2 in
          record { mid = f.mid; pieces = f.pieces; rest = f.rest; place = sym (append_assoc done (i ∷ []) between) ∙ f.place; event = f.event; alone = f.alone; shown = f.shown }

  start : (front before : List Item) (first : Item) (between behind : List Item) (s : Model) → Holds app front s → IsSome (after app s (before ++ first ∷ between ++ behind)) → begins_event m first ≡ true
      → list_any (ends app m) between ≡ true → list_any (resets app m) between ≡ false → Found (front ++ before) first [] between
  start front [] first between behind s p h b e r =
      let n = next_of (step app s first) (λ t. after app t (between ++ behind)) h in
      let t = some_of (step app s first) n.0 (Starts front first) (by_step app s (λ i t. Starts front i t) (starts front s p) first) n.1 b in
      subst (λ xs. Found xs first [] between) (sym (append-nil front)) (finds front first [] between behind n.0 t n.2 e r)
  start front (x ∷ before) first between behind s p h b e r =
      let n = next_of (step app s x) (λ t. after app t (before ++ first ∷ between ++ behind)) h in
      subst (λ xs. Found xs first [] between) (append_assoc front (x ∷ []) before)
      (start (front ++ x ∷ []) before first between behind n.0 (holds_on app front s p x n.0 n.1) n.2 b e r)

event_begins : (m : ℕ) (i : Item) → begins_event m i ≡ true → begins m i ≡ true
event_begins m (Read k v) h = h
event_begins m (Take k c i v) h = h
event_begins m _ h = absurd (true≢false (sym h))

pub in_order_finishes : InOrderFinishes
in_order_finishes app items legal one before between behind first item m q place part b at off resets_none =
    let any : list_any (ends app m) between ≡ true = elim (cases_Bool (list_any (ends app m) between)) [
      | inl yes_ ↦ yes_
      | inr no_ ↦ absurd (true≢false (sym (one before between behind first item m q place part (event_begins m first b) no_ at) ∙ off))
    ] in
    let f = start app m [] before first between (item ∷ behind) (power_on app) (holds_first app) (subst (λ xs. LegalInOrder app xs) place legal) b any resets_none in
    record { mid = f.mid; pieces = f.pieces; rest = f.rest; place = f.place; event = f.event; alone = f.alone; shown = f.shown }
