-- With a closed table no legal run breaks the property.
use Rattle.std.proofs.Common.{◌≡◌, ℕ, ◌+◌, ◌*◌, ◌/◌, ◌%◌, ◌<◌, ◌≤◌, inl, inr, ◌==◌, Bool, true, false, List, [], ◌∷◌, length, Option, Some, None, refl, sym, ap}
use Rattle.std.proofs.Common.{◌∙◌, subst, arith}
use Rattle.std.specs.Prelude.{IfSome, slice_get}
use Rattle.std.proofs.lemmas.Bool.{and_parts, eqb-true}
use Rattle.std.proofs.lemmas.Option.{same_Some}
use Rattle.sx_lang.specs.declared.sides.Side.{Side}
use Rattle.sx_lang.specs.declared.sides.Side.TheVariants.{To}
use Rattle.sx_mean.specs.declared.apps.Link.{Link}
use Rattle.sx_mean.specs.Application.{AppTree, PartTree}
use Rattle.sx_mean.specs.Ends.{ends_of}
use Rattle.sx_mean.specs.Places.{initial_cells}
use Rattle.sx_mean.specs.React.{react}
use Rattle.sx_trace.specs.declared.items.Cause.{Cause}
use Rattle.sx_trace.specs.declared.items.Item.{Item}
use Rattle.sx_trace.specs.declared.items.Item.TheVariants.{Reset, Protect, Sense, Read, Drain, Ask, Attested, Denied, Vouch, Open, Take, Out, Raw, Done, Packet}
use Rattle.sx_trace.specs.declared.items.Item.TheVariants.{Forged, Busy, Skip, Budget}
use Rattle.sx_model.specs.State.{FIELDS, Model, Present, Standing, power_on}
use Rattle.sx_model.specs.Reaction.{Flow, after_event, flow_of}
use Rattle.sx_model.specs.Renewal.{takes}
use Rattle.sx_model.specs.Step.{first_present, reacts, reset_at, step, with_device, with_present}
use Rattle.sx_model.specs.Changes.{with_pending}
use Rattle.sx_model.proofs.Along.{some_of}
use Rattle.sx_model.proofs.EndViews.{changed_at, link_of_end}
use Rattle.sx_model.proofs.Idle.{idle_is}
use Rattle.sx_model.proofs.Steps.{on_open, on_out, on_read}
use Rattle.sx_model.proofs.OutsAreCaused.{first_owed}
use Rattle.law_never.specs.Rules.{Each, IsInvariant}
use Rattle.law_never.specs.Intervals.{Interval, IsInside, AreInside, OneOf, Reactions, IsSoundFor, event_of, nought}
use Rattle.law_never.specs.Tables.{Place, Row, Table, Shows, at, IsAtPlace, IsGiven, HasPlace, HasPlaces, HasReading, HasReadings, HasWord, HasWords}
use Rattle.law_never.specs.Tables.{MayBeAbsent, owed_of}
use Rattle.law_never.specs.Closed.{IsClosed, IsClosedAt, IsAnswered, IsMade, Leads, Stays, none}
use Rattle.law_never.specs.Laws.{AreSound, ClosedKeeps}
use Rattle.law_never.proofs.Rules.{invariant_keeps}
use Rattle.law_never.proofs.Lists.{one_map, one_with}
use Rattle.law_never.proofs.Ways.{led, went}
use Rattle.law_never.proofs.Cases.{attested_at, on_ask, on_attested, on_done, on_drain, on_protect, on_raw, on_sense, on_taken, on_vouch, vouched_at}
use Rattle.law_never.proofs.Carried.{emits_done, own_ends, words_done}
use Rattle.law_never.proofs.Kept.{absent_shown, each_there, first_places, first_readings, first_words, idle_owes, inside_none, inside_one}
use Rattle.law_never.proofs.Kept.{nothing_owed, place_like, place_of_present, places_but, places_like, places_reset}
use Rattle.law_never.proofs.Kept.{places_stay, shown_stays, readings_reset, readings_set, readings_stay, words_stay}
use Rattle.sx_watch.specs.declared.topics.TopicKind.TheVariants as kind
use Rattle.sx_watch.specs.Watching.{about, hears}
use Rattle.sx_watch.specs.declared.topics.Topic.{Topic}
use Rattle.sx_watch.specs.Watched.{PropertyTree, input_of, watched}
use Rattle.law_never.specs.Kept.{AreQuiet}
use Rattle.spec_run.proofs.tie.Lists.{get_within}

-- a row has what a state has
abbrev Has : Row → Model → Type 0
Has r s = HasPlaces r s.modules × HasReadings r s.devices × HasWords r s.sent

module _ (reacts' : Reactions) (app : AppTree) (o : PropertyTree) (t : Table) (few : length app.links ≤ 256) (sound : AreSound reacts' app o) (closed : IsClosed reacts' app o t) where
  -- a row shows where the source and the property are
  abbrev Inv : Model → List ℕ → Type 0
  Inv s cells = OneOf (λ r. Shows r s cells) t.rows

  -- the property emits nothing at the item, and a row shows where both are then
  abbrev Fine : List ℕ → Item → Model → Type 0
  Fine cells item s = AreQuiet (watched o cells item).acts × Inv s (watched o cells item).cells

  -- the same at a notice
  abbrev FineAt : List ℕ → Topic → ℕ → Model → Type 0
  FineAt cells topic v s = AreQuiet (hears o.tree cells (input_of o topic) v).acts × Inv s (hears o.tree cells (input_of o topic) v).cells

  shown : (r : Row) (s : Model) (cells : List ℕ) → Shows r s cells → (topic : Topic) (i : Interval) (v : ℕ) (Q : Row → Type 0) (to : Model)
      → Leads reacts' o t topic i r Q → IsInside i v → ((new : Row) → Q new → Has new to) → FineAt cells topic v to
  shown r s cells h topic i v Q to leads iv has =
      let l = led reacts' o t topic i r Q sound.property leads v cells iv h.watch in (
        l.0,
        one_map (λ new. AreInside new.watch (hears o.tree cells (input_of o topic) v).cells × Q new) (λ new. Shows new to (hears o.tree cells (input_of o topic) v).cells)
            (λ new k. let g = has new k.1 in record { watch = k.0; places = g.0; readings = g.1; words = g.2 }) t.rows l.1,
      )

  zero_in : IsInside nought 0
  zero_in = record { low = omega arith; high = omega arith }

  -- what an event makes of a module
  module _ (r new : Row) (s : Model) (m : ℕ) (q : PartTree) (input : Option ℕ) (i : Interval) (v : ℕ) (x : Standing) (p : Present) where
    reacted : (ms ds : ℕ → Bool) → IsSoundFor reacts' q.tree → IsInside i v → HasPlace r m p → owed_of p.pending ≡ [] → HasPlaces r s.modules → HasWords r s.sent
        → Stays (λ k. m == k) ds r new → IsAnswered reacts' app r m q input i new
        → HasPlaces new (reacts app s m q x p (event_of input v)).modules × HasWords new (reacts app s m q x p (event_of input v)).sent
    reacted ms ds ok iv place owes hp hw st answered =
        let w = one_with (λ (place : Place). place.owed ≡ [] → Each (IsMade app new m) (reacts' q.tree input i place.cells)) (λ place. IsAtPlace place p) (at r.places m) answered place in
        let empty : w.0.owed ≡ [] = inside_none w.0.owed (subst (AreInside w.0.owed) owes w.2.owed) in
        let k = went reacts' q.tree input i w.0.cells (IsMade app new m) ok (w.1 empty) v p.cells iv w.2.cells in
        let f0 : Flow = record { sent = s.sent; emits = []; pieces = 0 } in
        let acts = (react q.tree (event_of input v) p.cells).acts in (
          places_but r new ds s.modules m _ hp st
              (k.1.place (after_event q.tree (event_of input v) (flow_of q.tree (ends_of app m) (event_of input v) p s.sent) p) k.2.cells
              (emits_done (ends_of app m) p.ends k.0.acts acts [] f0 k.2.acts tt)),
          words_done app new m few (ends_of app m) p.ends k.0.acts acts f0 (own_ends app m) k.2.acts k.1.sent (words_stay r new (λ k. m == k) ds s.sent hw st),
        )

  module _ (s : Model) (cells : List ℕ) (inv : Inv s cells) where
    -- with the row that shows where they are, and what it leads to
    from : (P : Type 0) → ((r : Row) → IsClosedAt reacts' app o t r → Shows r s cells → P) → P
    from P f = let w = one_with (IsClosedAt reacts' app o t) (λ r. Shows r s cells) t.rows closed.rows inv in f w.0 w.1 w.2

    -- the property hears nothing, and each row shows it still
    silent : (to : Model) → ((r : Row) → Shows r s cells → Has r to) → AreQuiet [] × Inv to cells
    silent to f = (
      tt,
      one_map (λ r. Shows r s cells) (λ r. Shows r to cells)
          (λ r h. let g = f r h in record { watch = h.watch; places = g.0; readings = g.1; words = g.2 }) t.rows inv,
    )

    -- a module is where it was
    moved : (m : ℕ) (x : Standing) (p q : Present) (r : Row) → Shows r s cells → slice_get s.modules m ≡ Some x → x.present ≡ Some p → p.cells ≡ q.cells
        → owed_of p.pending ≡ owed_of q.pending → HasPlace r m q
    moved m x p q r h ex ep c owed = place_like r m p q c owed (place_of_present r m x p ep (h.places m x ex))

    resets : (n : ℕ) (cause : Cause) → IfSome (step app s (Reset n cause)) (Fine cells (Reset n cause))
    resets n cause = any (slice_get s.boots n)
      where
        here : (boot : ℕ) → Fine cells (Reset n cause) (reset_at app s n boot)
        here boot =
            from _ (λ r c h. shown r s cells h (about kind.Reset n) nought 0 _ (reset_at app s n boot) (c.reset n) zero_in
            (λ new st. (places_reset app r new _ n s.modules h.places st.0 st.1, readings_reset app r new _ n s.devices h.readings st.0, words_stay r new _ _ s.sent h.words st.0)))

        any : (o : Option ℕ) → IfSome (Rattle.sx_model.specs.Step.◌>>?◌ o (λ boot. Some (reset_at app s n boot))) (Fine cells (Reset n cause))
        any None = tt
        any (Some boot) = here boot

    protects : (n m : ℕ) → IfSome (step app s (Protect n (Some m))) (Fine cells (Protect n (Some m)))
    protects n m =
        on_protect app s (Fine cells (Protect n (Some m))) n m (λ q x eq ex none'.
        from _ (λ r c h. shown r s cells h (about kind.Protect m) nought 0 _ (with_present s m x (first_present q.tree (ends_of app m)))
        (c.protect m q eq (absent_shown r m x.present none' (h.places m x ex))) zero_in
        (λ new st. (
          places_but r new none s.modules m _ h.places st.0 st.1,
          readings_stay r new _ s.devices h.readings st.0,
          words_stay r new _ _ s.sent h.words st.0,
        ))))

    senses : (d v : ℕ) → IsGiven o t (Sense d v) → IfSome (step app s (Sense d v)) (Fine cells (Sense d v))
    senses d v given =
        on_sense app s (Fine cells (Sense d v)) d v
        (from _ (λ r c h.
        let w = one_with _ (λ i. IsInside i v) (at t.given d) (c.sense d) given in
        shown r s cells h (about kind.Sense d) w.0 v _ (with_device s d (record { value = v; fresh = true })) w.1 w.2
        (λ new st. (
          places_stay r new _ s.modules h.places st.0,
          readings_set r new _ s.devices d (record { value = v; fresh = true }) h.readings st.0 (λ f. st.1 v w.2),
          words_stay r new _ _ s.sent h.words st.0,
        ))))

    drains : (d : ℕ) → IfSome (step app s (Drain d)) (Fine cells (Drain d))
    drains d =
        on_drain app s (Fine cells (Drain d)) d (λ y.
        from _ (λ r c h. shown r s cells h (about kind.Drain d) nought 0 _ (with_device s d (record y { fresh = false })) (c.drain d) zero_in
        (λ new st. (
          places_stay r new _ s.modules h.places st,
          readings_set r new _ s.devices d (record y { fresh = false }) h.readings st (λ f. absurd cc),
          words_stay r new _ _ s.sent h.words st,
        ))))

    attests : (m b : ℕ) → IfSome (step app s (Attested m b)) (Fine cells (Attested m b))
    attests m b =
        on_attested app s (Fine cells (Attested m b)) m b (λ x ex.
        from _ (λ r c h. shown r s cells h (about kind.Attested m) nought 0 _ (attested_at app s m b x) (c.attested m) zero_in
        (λ new st. (
          places_like new s.modules m x _ ex (places_stay r new _ s.modules h.places st) (shown_stays r new none none m x.present st refl (h.places m x ex)),
          readings_stay r new _ s.devices h.readings st,
          words_stay r new _ _ s.sent h.words st,
        ))))

    unheard : (input : Option ℕ) (v : ℕ) → input ≡ None → AreQuiet (hears o.tree cells input v).acts × Inv s (hears o.tree cells input v).cells
    unheard None v e = (tt, inv)
    unheard (Some j) v e = absurd cc

    raws : (d v : ℕ) → IsGiven o t (Raw d v) → IfSome (step app s (Raw d v)) (Fine cells (Raw d v))
    raws d v given =
        on_raw app s (Fine cells (Raw d v)) d v
        (elim given [
          | inl e ↦ unheard (input_of o (about kind.Raw d)) (v % 65536) e
          | inr g ↦ from (Fine cells (Raw d v) s) (λ r c h.
              let w = one_with (λ i. Leads reacts' o t (about kind.Raw d) i r (Stays none none r)) (λ i. IsInside i (v % 65536)) (at t.given d) (c.raw d) g in
              shown r s cells h (about kind.Raw d) w.0 (v % 65536) (Stays none none r) s w.1 w.2
              (λ new st. (places_stay r new none s.modules h.places st, readings_stay r new none s.devices h.readings st, words_stay r new none none s.sent h.words st)))
        ])

    asks : (m a : ℕ) → IfSome (step app s (Ask m a)) (Fine cells (Ask m a))
    asks m a =
        on_ask app s (Fine cells (Ask m a)) m a (λ x ex.
        silent _ (λ r h. (places_like r s.modules m x _ ex h.places (h.places m x ex), h.readings, h.words)))

    vouches : (m a : ℕ) → IfSome (step app s (Vouch m a)) (Fine cells (Vouch m a))
    vouches m a =
        on_vouch app s (Fine cells (Vouch m a)) m a (λ x p boot ex ep.
        silent (vouched_at s m a x p boot) (λ r h. (
          places_like r s.modules m x _ ex h.places
              (moved m x p (with_pending p (Some (record { emits = []; pieces = 1 }))) r h ex (idle_is x p ep) refl (idle_owes x p ep)),
          h.readings,
          h.words,
        )))

    opens_end : (m c : ℕ) (side : Side) (epoch : ℕ) → IfSome (step app s (Open m c side epoch)) (Fine cells (Open m c side epoch))
    opens_end m c side epoch =
        on_open app s (Fine cells (Open m c side epoch)) m c side epoch (λ q x p boot views _ ex ep _ _ _.
        silent _ (λ r h. (
          places_like r s.modules m x _ ex h.places
              (moved m x p (record p { ends = views; pending = Some (record { emits = []; pieces = 0 }) }) r h ex (idle_is x p ep) refl (idle_owes x p ep)),
          h.readings,
          h.words,
        )))

    is_done : (m status k : ℕ) → IfSome (step app s (Done m status k)) (Fine cells (Done m status k))
    is_done m status k =
        on_done app s (Fine cells (Done m status k)) m status k
        (λ x p owed ex ep eo b. silent _ (λ r h. (
          places_like r s.modules m x _ ex h.places
              (moved m x p (record p { pending = None }) r h ex ep refl (ap (λ o. owed_of o) eo ∙ nothing_owed owed.emits b)),
          h.readings,
          h.words,
        )))
        (silent s (λ r h. (h.places, h.readings, h.words)))

    writes : (m v : ℕ) → IfSome (step app s (Out m v)) (Fine cells (Out m v))
    writes m v =
        on_out app s (Fine cells (Out m v)) m v (λ x p owed left ex ep eo el.
        from _ (λ r c h.
        let w = one_with _ (λ place. IsAtPlace place p) (at r.places m) (c.out m) (place_of_present r m x p ep (h.places m x ex)) in
        let are : owed_of p.pending ≡ v ∷ left.emits = ap (λ o. owed_of o) eo ∙ first_owed v owed.emits owed.pieces left el in
        let one = inside_one w.0.owed v left.emits (subst (AreInside w.0.owed) are w.2.owed) in
        shown r s cells h (about kind.Out m) one.first v _ (with_present s m x (with_pending p (Some left))) (w.1 one.first one.rest one.are) one.one
        (λ new st. (
          places_but r new none s.modules m _ h.places st.0 (st.1 (with_pending p (Some left)) w.2.cells one.more),
          readings_stay r new _ s.devices h.readings st.0,
          words_stay r new _ _ s.sent h.words st.0,
        ))))

    reads : (m v : ℕ) → IfSome (step app s (Read m v)) (Fine cells (Read m v))
    reads m v =
        on_read app s (Fine cells (Read m v)) m v (λ q x p d y eq ex ep ed ey b.
        from _ (λ r c h.
        let fresh = and_parts y.fresh (y.value == v) b in
        let w = one_with _ (λ i. IsInside i v) (at r.readings d) (c.read m q d eq ed) (subst (HasReading r d) (eqb-true y.value v fresh.1) (h.readings d y ey fresh.0)) in
        let s1 = with_device s d (record y { fresh = false }) in
        shown r s cells h (about kind.Read m) w.0 v _ (reacts app s1 m q x p (event_of None v)) w.1 w.2
        (λ new st.
        let k = reacted r new s1 m q None w.0 v x p none (λ k. d == k) (sound.parts m q eq) w.2 (place_of_present r m x p (idle_is x p ep) (h.places m x ex))
        (idle_owes x p ep) h.places h.words st.0 st.1 in
        (k.0, readings_set r new _ s.devices d (record y { fresh = false }) h.readings st.0 (λ f. absurd cc), k.1))))

    abbrev TakesAt : Row → ℕ → Link → PartTree → ℕ → Interval → Type 0
    TakesAt r c l q m i = Leads reacts' o t (about kind.Take c) i r (λ new. Stays (λ n. m == n) none r new × IsAnswered reacts' app r m q (Some l.input) i new)

    takes_word : (m c i v : ℕ) → IfSome (step app s (Take m c i v)) (Fine cells (Take m c i v))
    takes_word m c i v =
        on_taken app s (Fine cells (Take m c i v)) m c i v (λ q x p l words views eq ex ep el ew ev b.
        from _ (λ r k h.
        let g = changed_at (takes (i / 65536) (i % 65536)) c To (ends_of app m) p.ends views ev in
        let own = link_of_end app c To m p.ends g.old g.was in
        let to : l.to ≡ m = ap (λ (l : Link). l.to) (same_Some l own.0 (sym el ∙ own.1)) ∙ own.2 in
        let small : c < 256 = let w = get_within app.links c l el in omega (arith, few, w) in
        let link : (c + 256 * (i / 65536)) % 256 ≡ c = omega (arith, small) in
        let word : HasWord r c v = subst (λ n. HasWord r n v) link (each_there (λ v. HasWord r ((c + 256 * (i / 65536)) % 256) v) words (i % 65536) v (h.words (c + 256 * (i / 65536)) words ew) b) in
        let w = one_with (TakesAt r c l q m) (λ j. IsInside j v) (at r.words c)
        (subst (λ z. Each (TakesAt r c l q z) (at r.words c)) to (k.take c l q el (subst (λ z. slice_get app.parts z ≡ Some q) (sym to) eq))) word in
        let p1 : Present = record p { ends = views } in
        shown r s cells h (about kind.Take c) w.0 v (λ new. Stays (λ n. m == n) none r new × IsAnswered reacts' app r m q (Some l.input) w.0 new) (reacts app s m q x p1 (event_of (Some l.input) v)) w.1 w.2
        (λ new st.
        let z = reacted r new s m q (Some l.input) w.0 v x p1 none none (sound.parts m q eq) w.2
        (place_like r m p p1 refl refl (place_of_present r m x p (idle_is x p ep) (h.places m x ex))) (idle_owes x p ep) h.places h.words st.0 st.1 in
        (z.0, readings_stay r new _ s.devices h.readings st.0, z.1))))

    same : AreQuiet [] × Inv s cells
    same = (tt, inv)

    fine : (item : Item) → IsGiven o t item → IfSome (step app s item) (Fine cells item)
    fine (Reset n cause) g = resets n cause
    fine (Protect n None) g = same
    fine (Protect n (Some m)) g = protects n m
    fine (Sense d v) g = senses d v g
    fine (Read m v) g = reads m v
    fine (Drain d) g = drains d
    fine (Ask m a) g = asks m a
    fine (Attested m b) g = attests m b
    fine (Denied m) g = same
    fine (Vouch m a) g = vouches m a
    fine (Open m c side epoch) g = opens_end m c side epoch
    fine (Take m c i v) g = takes_word m c i v
    fine (Out m v) g = writes m v
    fine (Raw d v) g = raws d v g
    fine (Done m status k) g = is_done m status k
    fine (Packet k n) g = same
    fine (Forged m) g = same
    fine (Busy n) g = same
    fine (Skip n) g = same
    fine (Budget n) g = same

  pub is_invariant : IsInvariant app o (IsGiven o t) Inv
  is_invariant = record {
    first = one_map (λ r. AreInside r.watch (initial_cells o.tree.decls) × ((m : ℕ) (q : PartTree) → slice_get app.parts m ≡ Some q → MayBeAbsent r m))
        (λ r. Shows r (power_on app) (initial_cells o.tree.decls))
        (λ r w. record { watch = w.0; places = first_places r app.parts w.1; readings = first_readings r app.devices; words = first_words r FIELDS }) t.rows closed.first;
    kept = λ s cells inv item to given e. some_of (step app s item) to (Fine cells item) (fine s cells inv item given) e;
  }

pub closed_keeps : ClosedKeeps
closed_keeps reacts app o t few sound closed items given legal =
    invariant_keeps app o (IsGiven o t) (Inv reacts app o t few sound closed) (is_invariant reacts app o t few sound closed) items given legal
