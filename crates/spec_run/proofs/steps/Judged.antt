-- Each mark of a module that is under way is an item that the source allows, or it is forged.
use Rattle.std.proofs.Common.{◌≡◌, ℕ, zero, suc, ◌+◌, ◌*◌, ◌/◌, ◌%◌, ◌<◌, ◌≤◌, ◌⊎◌, inl, inr, ◌==◌}
use Rattle.std.proofs.Common.{◌&&◌, ◌||◌, not, Bool, true, false, if◌then◌else◌, List, [], ◌∷◌}
use Rattle.std.proofs.Common.{◌++◌, length, Option, Some, None, refl, sym, ◌∙◌, ap, subst, arith}
use Rattle.std.specs.Prelude.{slice_get, slice_set, slice_index, is_some, nat_le}
use Rattle.std.proofs.lemmas.Bool.{le-leb, ltb-true, true≢false, and_parts, eqb-true, cases_eq, or_cases, or_left, or_right, and_left, and_right, and_from, false_from_ne_true, ne_eqb, eq-eqb}
use Rattle.lemmas.proofs.Lists.{get_some}
use Rattle.sx_lang.specs.declared.sides.Side.{Side}
use Rattle.sx_lang.specs.declared.sides.Side.TheVariants.{From, To}
use Rattle.sx_mean.specs.declared.apps.Link.{Link}
use Rattle.sx_mean.specs.declared.events.End.{End}
use Rattle.sx_mean.specs.declared.events.Act.{Act}
use Rattle.sx_mean.specs.declared.events.Act.TheVariants.{Send, Emit}
use Rattle.sx_mean.specs.declared.events.SourceEvent.{SourceEvent}
use Rattle.sx_mean.specs.declared.events.SourceEvent.TheVariants as event
use Rattle.sx_mean.specs.React.{react}
use Rattle.sx_trace.specs.declared.items.Item.{Item}
use Rattle.sx_trace.specs.declared.items.Item.TheVariants as item
use Rattle.sx_ledger.specs.declared.entry.Maker.TheVariants as maker
use Rattle.sx_bus.specs.declared.devices.Window.{Window}
use Rattle.spec_invocation.specs.ModuleState.{EndState, ModuleState, end_of, with_end, epoch_of, link_of}
use Rattle.spec_invocation.specs.Marks.{Mark, Wrapped, Unwrapped, Sampled, Actuated}
use Rattle.spec_invocation.specs.Progress.{Progress, Invoked, Returns, Violates}
use Rattle.spec_invocation.specs.Entries.{end_found}
use Rattle.sx_mean.specs.Application.{PartTree, AppTree, is_sensor}
use Rattle.sx_mean.specs.Ends.{ends_of}
use Rattle.sx_model.specs.State.{Reading, EndView, Vouched as Vow, Attestation, FIELDS, contains}
use Rattle.sx_model.specs.order.State.{Pending, Present, Standing, Model}
use Rattle.sx_model.specs.order.Reaction.{flow_of, after_event, sent_first, from_emit, flowing}
use Rattle.sx_model.specs.Step.{changed_views, kind_is, waits, is_vouched}
use Rattle.sx_model.specs.order.Step.{idle, step}
use Rattle.sx_model.specs.Renewal.{takes, opens, is_below, may_open}
use Rattle.spec_run.specs.Setting.{device_number}
use Rattle.sx_wire.specs.Headers.{begins, is_ask, is_set_key_header, is_event_header, challenge_in, link_in, epoch_in, last_in, value_in}
use Rattle.spec_run.specs.Ledger.{Made, NO_TARGET, made_entry, is_made}
use Rattle.spec_run.specs.Observation.{Observed, is_driver, read_item, write_item, side_in, has_end, sender_of, unless_made, has_wrapped, has_unwrapped}
use Rattle.spec_run.proofs.tie.Lists.{some_inj}
use Rattle.spec_run.proofs.tie.Ends.{found_at, renumbered, takes_at, opens_at, below_at, open_stays, opens_stays, open_same, takes_leaves, newly_open, open_small, EndOf, has_link, linked, has_end-found}
use Rattle.spec_run.proofs.tie.Flows.{Flows, flows_same, flows_first, AllSending}
use Rattle.sx_model.specs.Legal.{is_forged}
use Rattle.sx_model.proofs.order.Idle.{idle_as}
use Rattle.spec_run.proofs.tie.Unique.{distinct, sending_open}
use Rattle.spec_run.proofs.tie.Verdicts.{judge, Fares}
use Rattle.spec_run.proofs.tie.Tied.{place_in, HasLength, SameEnds, SameState, WasSent, Settled}
use Rattle.spec_run.proofs.tie.Tied.{Settles, idle_with, Reacts, OwnSensor, Vouched, Begun, Refuses}
use Rattle.spec_run.proofs.tie.Tied.{Opens, Vouches, Takes, Samples, OwnActs, own_acts, Owes, Yet, Now, KnownKey, Known}
use Rattle.spec_run.proofs.tie.Tied.{open_at, AtLeast, IsSane, DeviceTied}
use Rattle.spec_run.proofs.tie.Entries.{made_behind}
use Rattle.spec_run.proofs.tie.Moves.{readings_after, IsOwn, Moved, same_module, known_moved, sane_moved}

-- what is seen of a mark of a deployed module
abbrev pub mark_seen : AppTree → ℕ → ℕ → ℕ → Mark → List Made → Observed
mark_seen app n m boot (Wrapped header body own) ledger = has_wrapped m boot header body own ledger
mark_seen app n m boot (Unwrapped header body own) ledger = record { items = has_unwrapped app m boot header body ledger; ledger = ledger }
mark_seen app n m boot (Sampled k v) ledger = record { items = read_item app (Some m) (device_number app n k) v ∷ []; ledger = ledger }
mark_seen app n m boot (Actuated k v) ledger = record { items = write_item app (Some m) (device_number app n k) v ∷ []; ledger = ledger }

-- where the source follows the mark
pub record Next (app : AppTree) (m : ℕ) (q : PartTree) (x : Standing) (mo : Model) (mark : Mark) (ledger : List Made) (rest : List Mark) (result : Invoked) (mo' : Model) : Type 0 where
  pub y : Standing
  pub moved : Moved app q.node m mark x y mo mo'
  pub pr : Present
  pub present : y.present ≡ Some pr
  pub owes : (devices : List Window) → Owes app q.node m q devices pr mo'.sent rest result
  pub sane : IsSane app mo'
  pub known : (e : Made) → is_made ledger e ≡ true → Known app mo' e.maker e

flows_weaken : (P Q : ℕ → Type 0) (a b : List (List ℕ)) → ((c : ℕ) → P c → Q c) → Flows P a b → Flows Q a b
flows_weaken P Q a b f h = record { size = h.size; grown = h.grown; only = λ c. elim (h.only c) [ inl e ↦ inl e | inr p ↦ inr (f c p) ] }

module _ (app : AppTree) (m : ℕ) (q : PartTree) (x : Standing) (pr : Present) (boot : ℕ) (mo : Model) (ledger : List Made)
    (part : slice_get app.parts m ≡ Some q) (there : slice_get mo.modules m ≡ Some x) (boots : slice_get mo.boots q.node ≡ Some boot) (present : x.present ≡ Some pr)
    (sane : IsSane app mo) (known : (e : Made) → is_made ledger e ≡ true → Known app mo e.maker e) where
  -- the model after an event
  abbrev behind : List EndView → SourceEvent → List Reading → Model
  behind views e devices =
      let f = flow_of q.tree (ends_of app m) e (idle_with pr.cells views) mo.sent in
      record {
        boots = mo.boots;
        devices = devices;
        modules = slice_set mo.modules m (record { present = Some (after_event q.tree e f (idle_with pr.cells views)); asked = x.asked; vouched = x.vouched; attested = x.attested });
        epochs = mo.epochs;
        sent = f.sent;
        asks = mo.asks;
      }

  abbrev OwnOpen : List EndView → ℕ → Type 0
  OwnOpen views f = (open_at (link_of f) From (ends_of app m) views ≡ Some (epoch_of f)) × IsOwn app m f

  own_open : (st : ModuleState) (views : List EndView) → SameEnds (ends_of app m) st.ends views mo.sent → AllSending (OwnOpen views) (ends_of app m) views
  own_open st views same =
      sending_open (ends_of app m) views (OwnOpen views) (distinct 0 m app.links) (λ c k o e h a s.
      let l = has_link 0 m app.links e h in
      let at : l.place ≡ c = sym (omega (arith, l.at)) ∙ a in
      let small = open_small c k From (ends_of app m) st.ends views mo.sent same o in
      let link : link_of (c + 256 * k) ≡ c = omega (arith, small) in
      let epoch : epoch_of (c + 256 * k) ≡ k = omega (arith, small) in (
        subst (λ j. open_at j From (ends_of app m) views ≡ Some (epoch_of (c + 256 * k))) (sym link) (o ∙ ap Some (sym epoch)),
        (l.link, subst (λ j. slice_get app.links j ≡ Some l.link) (at ∙ sym link) l.there, (subst (λ t. EndOf m t e.port l.link) s l.ends).0),
      ))

  at_least_same : (k : ℕ) → k ≤ k
  at_least_same k = omega arith

  boot_same : (q2 : PartTree) (b : ℕ) → slice_get app.parts m ≡ Some q2 → slice_get mo.boots q2.node ≡ Some b → boot ≡ b
  boot_same q2 b pk bk =
      let qq : q ≡ q2 = some_inj q q2 (sym part ∙ pk) in
      some_inj boot b (sym boots ∙ subst (λ (z : PartTree). slice_get mo.boots z.node ≡ Some b) (sym qq) bk)

  -- with another presence of the module, and more that it sent
  abbrev sent_with : Present → List (List ℕ) → List Reading → Model
  sent_with p2 sent2 devices = record {
    boots = mo.boots;
    devices = devices;
    modules = slice_set mo.modules m (record { present = Some p2; asked = x.asked; vouched = x.vouched; attested = x.attested });
    epochs = mo.epochs;
    sent = sent2;
    asks = mo.asks;
  }

  -- the module sends over its own open ends
  sent_next : (mark : Mark) (p2 : Present) (sent2 : List (List ℕ)) (devices : List Reading) (ms : List Mark) (result : Invoked)
      → devices ≡ readings_after app q.node mark mo.devices → Flows (OwnOpen p2.ends) mo.sent sent2
      → ((c : ℕ) (side : Side) → open_at c side (ends_of app m) p2.ends ≡ open_at c side (ends_of app m) pr.ends)
      → ((devices : List Window) → Owes app q.node m q devices p2 sent2 ms result) → Next app m q x mo mark ledger ms result (sent_with p2 sent2 devices)
  sent_next mark p2 sent2 devices ms result de flows opens owes =
      let y : Standing = record { present = Some p2; asked = x.asked; vouched = x.vouched; attested = x.attested } in
      let moved : Moved app q.node m mark x y mo (sent_with p2 sent2 devices) =
      record {
        boots = refl;
        asks = refl;
        epochs = refl;
        modules = refl;
        asked = refl;
        attested = refl;
        vouched = λ a b t. t;
        devices = de;
        sent = flows_weaken (OwnOpen p2.ends) (IsOwn app m) mo.sent sent2 (λ c o. o.1) flows;
      } in
      record {
        y = y;
        moved = moved;
        pr = p2;
        present = refl;
        owes = owes;
        sane = sane_moved app q.node m mark x y mo (sent_with p2 sent2 devices) there moved sane
            (λ q2 b pk bk.
            let t = sane.timely m q2 x b pk there bk in
            record {
              vouched = λ a k v. elim (t.vouched a k v) [ inl lt ↦ inl lt | inr r ↦ inr (r.0, refl) ];
              attested = λ k v. elim (t.attested k v) [ inl lt ↦ inl lt | inr r ↦ inr (r.0, refl) ];
              opened = λ p3 c side n pe o.
                  let pp : p2 ≡ p3 = some_inj p2 p3 pe in
                  let o2 : open_at c side (ends_of app m) p2.ends ≡ Some n = subst (λ (z : Present). open_at c side (ends_of app m) z.ends ≡ Some n) (sym pp) o in
                  t.opened pr c side n present (sym (opens c side) ∙ o2);
            })
            (λ c l q2 b words lk own pk bk wk.
            let t = sane.timely m q2 x b pk there bk in
            elim (flows.only c) [
              | inl old ↦
                  elim (sane.unsent c l q2 x b words lk (subst (λ j. slice_get app.parts j ≡ Some q2) (sym own) pk) (subst (λ j. slice_get mo.modules j ≡ Some x) (sym own) there) bk (sym old ∙ wk)) [
                    | inl none ↦ inl none
                    | inr hs ↦ inr (
                      hs.0,
                      hs.1,
                      hs.2,
                      elim hs.3 [
                        | inl lt ↦ inl lt
                        | inr o ↦ inr (
                          p2,
                          refl,
                          subst (λ z. AtLeast (epoch_of c) z)
                              (sym (opens (link_of c) From ∙ ap (λ (z : Present). open_at (link_of c) From (ends_of app m) z.ends)
                              (some_inj pr o.0 (sym present ∙ o.1))))
                              (subst (λ j. AtLeast (epoch_of c) (open_at (link_of c) From (ends_of app j) o.0.ends)) own o.2),
                        )
                      ],
                    )
                  ]
              | inr now ↦
                  let a = t.opened pr (link_of c) From (epoch_of c) present (sym (opens (link_of c) From) ∙ now.0) in
                  inr (a.0, a.1, a.3, inr (p2, refl, subst (λ z. AtLeast (epoch_of c) z) (sym now.0) (at_least_same (epoch_of c))))
            ]);
        known = λ k h. known_moved app q.node m mark x y mo (sent_with p2 sent2 devices) there moved k.maker k (known k h);
      }

  -- an event in the source, of which the mark tells
  reacted : (mark : Mark) (st : ModuleState) (views : List EndView) (e : SourceEvent) (devices : List Reading) (ms : List Mark) (result : Invoked)
      → devices ≡ readings_after app q.node mark mo.devices → st.cells ≡ pr.cells → SameEnds (ends_of app m) st.ends views mo.sent
      → ((c : ℕ) (side : Side) → open_at c side (ends_of app m) views ≡ open_at c side (ends_of app m) pr.ends)
      → Reacts app q.node m q st e result ms → Next app m q x mo mark ledger ms result (behind views e devices)
  reacted mark st views e devices ms result de ce same opens h =
      let p = idle_with pr.cells views in
      let f = flow_of q.tree (ends_of app m) e p mo.sent in
      let acts = (react q.tree e pr.cells).acts in
      let flows : Flows (OwnOpen views) mo.sent f.sent =
      flows_first (OwnOpen views) (ends_of app m) views acts (flowing mo.sent 0) (own_open st views same) in
      sent_next mark (after_event q.tree e f p) f.sent devices ms result de flows opens
      (λ devices. Now (from_emit acts) f.pieces refl (own_acts app m views (from_emit acts) (own_open st views same)) (subst (λ cells. Settles app q.node m q.device
      (after_event q.tree e (flow_of q.tree (ends_of app m) e (idle_with cells views) mo.sent) (idle_with cells views)).cells views
      (flow_of q.tree (ends_of app m) e (idle_with cells views) mo.sent).sent
      (flow_of q.tree (ends_of app m) e (idle_with cells views) mo.sent).pieces result ms
      (from_emit (react q.tree e cells).acts)) ce (h views mo.sent same)))

  fares_one : (i : Item) (t : Model) (good : Model → Type 0) → is_forged i ≡ false → step app mo i ≡ Some t → good t → Fares (judge app mo (i ∷ [])) good
  fares_one i t good f e g = rw (f, e) g

  fares_unless : (who : Option ℕ) (b : Bool) (i : Item) (good : Model → Type 0) → (b ≡ true → Fares (judge app mo (i ∷ [])) good) → Fares (judge app mo (unless_made who b i)) good
  fares_unless who true i good f = f refl
  fares_unless who false i good f = tt

  event_not_key : (header : List ℕ) → is_event_header header ≡ true → is_set_key_header header ≡ false
  event_not_key header h =
      let three = eqb-true (slice_index header 0) 3 (and_parts (slice_index header 0 == 3) (slice_index header 1 == 0) (and_parts (length header == 6) (begins 3 header) h).1).0 in
      let one : (slice_index header 0 == 1) ≡ false = rw three refl in
      and_right (length header == 6) _ (and_left (begins 1 header) _ (and_left (slice_index header 0 == 1) _ one))

  if_first : (b c : Bool) (x y z : List Item) → b ≡ false → c ≡ true → (if b then x else if c then y else z) ≡ y
  if_first b c x y z e f = rw (e, f) refl

  if_true : (b : Bool) (x y : List Item) → b ≡ true → (if b then x else y) ≡ x
  if_true b x y e = rw e refl

  is_word_same : (v : ℕ) (o : Option ℕ) → o ≡ Some v → contains o v ≡ true
  is_word_same v o e = rw e (eq-eqb v v refl)

  taken_step : (link epoch last value place i : ℕ) (l : Link) (words : List ℕ) (views : List EndView) → i / 65536 ≡ epoch → i % 65536 ≡ last → place ≡ link + 256 * epoch → pr.pending ≡ None
      → slice_get app.links link ≡ Some l → slice_get mo.sent place ≡ Some words → slice_get words last ≡ Some value → changed_views (takes epoch last) link To (ends_of app m) pr.ends ≡ Some views
      → step app mo (item.Take m link i value) ≡ Some (behind views (event.Input l.input value) mo.devices)
  taken_step link epoch last value place i l words views ie il pe pend lk wk word ch =
      let there2 : slice_get mo.sent (link + 256 * epoch) ≡ Some words = subst (λ f. slice_get mo.sent f ≡ Some words) pe wk in
      rw (part, there, idle_as x pr present pend, lk, ie, il, there2, ch, is_word_same value (slice_get words last) word) refl

  take_fares : (devices : List Window) (st : ModuleState) (k : ℕ) (e : End) (header body : List ℕ) (ms : List Mark) (result : Invoked)
      → pr.pending ≡ None → SameState (ends_of app m) st pr.cells pr.ends mo.sent
      → is_event_header header ≡ true → end_found (link_in header) To 0 (ends_of app m) ≡ Some (k, e) → (end_of st.ends k).is_open ≡ true → epoch_of (end_of st.ends k).field ≡ epoch_in header
      → (end_of st.ends k).number ≤ last_in header → last_in header < 65536
      → Reacts app q.node m q (record { cells = st.cells; ends = with_end st.ends k (renumbered (end_of st.ends k) (last_in header + 1)) }) (event.Input e.port (value_in body)) result ms
      → Fares (judge app mo (has_unwrapped app m boot header body ledger)) (Next app m q x mo (Unwrapped header body false) ledger ms result)
  take_fares devices st k e header body ms result pend same ev found isopen epo le lt h =
      let link = link_in header in
      let epoch = epoch_in header in
      let last = last_in header in
      let fa = found_at link To (ends_of app m) k e found in
      let has : has_end app m link To ≡ true = has_end-found link To (ends_of app m) k e fa in
      let sender = sender_of app link in
      let i = item.Take m link (65536 * epoch + last) (value_in body) in
      let entry : Made = made_entry (maker.Module sender) NO_TARGET 0 header body in
      let bit = is_made ledger entry in
      let good = Next app m q x mo (Unwrapped header body false) ledger ms result in
      let seen : has_unwrapped app m boot header body ledger ≡ unless_made (Some m) bit i =
      if_first _ _ _ _ _ (and_left (is_set_key_header header) _ (event_not_key header ev)) (and_from (is_event_header header) _ ev has) in
      subst (λ items. Fares (judge app mo items) good) (sym seen) (fares_unless (Some m) bit i good (λ was.
      let ws : WasSent app sender mo.sent header body = (known entry was).1 ev in
      let t = takes_at link epoch last (ends_of app m) st.ends pr.ends mo.sent k e same.each fa isopen epo le in
      let lk = linked app m link To k e fa in
      let views = t.0 in
      let st2 : ModuleState = record { cells = st.cells; ends = with_end st.ends k (renumbered (end_of st.ends k) (last + 1)) } in
      let h2 : Reacts app q.node m q st2 (event.Input lk.l.input (value_in body)) result ms = subst (λ p. Reacts app q.node m q st2 (event.Input p (value_in body)) result ms) lk.ends.1 h in
      fares_one i (behind views (event.Input lk.l.input (value_in body)) mo.devices) good refl
      (taken_step link epoch last (value_in body) (place_in header) (65536 * epoch + last) lk.l ws.words views (omega (arith, lt)) (omega (arith, lt)) refl pend lk.there ws.there ws.word t.1)
      (reacted (Unwrapped header body false) st2 views (event.Input lk.l.input (value_in body)) mo.devices ms result refl same.same t.2
      (λ c side. open_same (takes epoch last) c link side To (ends_of app m) pr.ends views (takes_leaves epoch last) t.1) h2)))

  -- with the module's state and the readings replaced
  abbrev with_end_of : Present → Model
  with_end_of p = record {
    boots = mo.boots;
    devices = mo.devices;
    modules = slice_set mo.modules m
        (record { present = Some p; asked = x.asked; vouched = x.vouched; attested = x.attested });
    epochs = mo.epochs;
    sent = mo.sent;
    asks = mo.asks;
  }

  open_before : (c : ℕ) (p2 : Present) → x.present ≡ Some p2 → AtLeast (epoch_of c) (open_at (link_of c) From (ends_of app m) p2.ends)
      → AtLeast (epoch_of c) (open_at (link_of c) From (ends_of app m) pr.ends)
  open_before c p2 e h = subst (λ (z : Present). AtLeast (epoch_of c) (open_at (link_of c) From (ends_of app m) z.ends)) (some_inj p2 pr (sym e ∙ present)) h

  -- a change of the module's presence alone
  stood : (mark : Mark) (p : Present) (ms : List Mark) (result : Invoked) → readings_after app q.node mark mo.devices ≡ mo.devices
      → ((k c : ℕ) → AtLeast k (open_at c From (ends_of app m) pr.ends) → AtLeast k (open_at c From (ends_of app m) p.ends))
      → ((c : ℕ) (side : Side) (k : ℕ) → open_at c side (ends_of app m) p.ends ≡ Some k → (a : Attestation) × (x.attested ≡ Some a) × (a.boot ≡ boot) × (k ≤ slice_index mo.epochs c))
      → ((devices : List Window) → Owes app q.node m q devices p mo.sent ms result) → Next app m q x mo mark ledger ms result (with_end_of p)
  stood mark p ms result de stays att owes =
      let y : Standing = record { present = Some p; asked = x.asked; vouched = x.vouched; attested = x.attested } in
      let moved : Moved app q.node m mark x y mo (with_end_of p) =
      record { boots = refl; asks = refl; epochs = refl; modules = refl; asked = refl; attested = refl; vouched = λ a b t. t; devices = sym de; sent = flows_same (IsOwn app m) mo.sent } in
      record {
        y = y;
        moved = moved;
        pr = p;
        present = refl;
        owes = owes;
        sane = sane_moved app q.node m mark x y mo (with_end_of p) there moved sane
            (λ q2 b pk bk.
            let t = sane.timely m q2 x b pk there bk in
            record {
              vouched = λ a k v. elim (t.vouched a k v) [ inl lt ↦ inl lt | inr r ↦ inr (r.0, refl) ];
              attested = λ k v. elim (t.attested k v) [ inl lt ↦ inl lt | inr r ↦ inr (r.0, refl) ];
              opened = λ p2 c side k pe o.
                  let g = att c side k (subst (λ (z : Present). open_at c side (ends_of app m) z.ends ≡ Some k) (sym (some_inj p p2 pe)) o) in
                  (g.0, g.1, g.2 ∙ boot_same q2 b pk bk, g.3);
            })
            (λ c l q2 b words lk own pk bk wk.
            elim (sane.unsent c l q2 x b words lk (subst (λ j. slice_get app.parts j ≡ Some q2) (sym own) pk) (subst (λ j. slice_get mo.modules j ≡ Some x) (sym own) there) bk wk) [
              | inl none ↦ inl none
              | inr hs ↦ inr (
                hs.0,
                hs.1,
                hs.2,
                elim hs.3 [
                  | inl lt ↦ inl lt
                  | inr o ↦ inr (p, refl, stays (epoch_of c) (link_of c) (open_before c o.0 o.1 (subst (λ j. AtLeast (epoch_of c) (open_at (link_of c) From (ends_of app j) o.0.ends)) own o.2)))
                ],
              )
            ]);
        known = λ k h. known_moved app q.node m mark x y mo (with_end_of p) there moved k.maker k (known k h);
      }

  may_open_from : (o : Option Attestation) (a : Attestation) (c epoch now : ℕ) → o ≡ Some a → a.boot ≡ boot → slice_index a.floors c ≤ epoch → epoch ≤ now → may_open o boot c epoch now ≡ true
  may_open_from o a c epoch now e at floor le =
      rw (e, at, eq-eqb boot boot refl, le-leb (slice_index a.floors c) epoch floor, le-leb epoch now le) refl

  not_both : (o : Option ℕ) (k : ℕ) → is_below o k ≡ true → AtLeast k o → ⊥
  not_both None k b h = h
  not_both (Some old) k b h = absurd (omega (arith, ltb-true old k b, h))

  -- nothing was sent yet over an end that opens
  unsent_here : (f : ℕ) (l : Link) (words : List ℕ) (a : Attestation) → slice_get app.links (link_of f) ≡ Some l → l.from ≡ m → slice_get mo.sent f ≡ Some words → x.attested ≡ Some a → a.boot ≡ boot
      → slice_index a.floors (link_of f) ≤ epoch_of f → is_below (open_at (link_of f) From (ends_of app m) pr.ends) (epoch_of f) ≡ true → words ≡ []
  unsent_here f l words a lk own wk at now floor below =
      elim (sane.unsent f l q x boot words lk (subst (λ j. slice_get app.parts j ≡ Some q) (sym own) part) (subst (λ j. slice_get mo.modules j ≡ Some x) (sym own) there) boots wk) [
        | inl e ↦ e
        | inr hs ↦
            let same : hs.0 ≡ a = some_inj hs.0 a (sym hs.1 ∙ at) in
            elim hs.3 [
              | inl past ↦ elim past [
                | inl lt ↦ absurd (too_low hs.0 same lt)
                | inr lt ↦ absurd (too_old hs.0 same lt)
              ]
              | inr o ↦ absurd (not_both (open_at (link_of f) From (ends_of app m) pr.ends) (epoch_of f) below
                  (open_before f o.0 o.1 (subst (λ j. AtLeast (epoch_of f) (open_at (link_of f) From (ends_of app j) o.0.ends)) own o.2)))
            ]
      ]
    where
      too_low : (b : Attestation) → b ≡ a → epoch_of f < slice_index b.floors (link_of f) → ⊥
      too_low b e lt = let lt2 = subst (λ (z : Attestation). epoch_of f < slice_index z.floors (link_of f)) e lt in absurd (omega (arith, lt2, floor))

      too_old : (b : Attestation) → b ≡ a → b.boot < boot → ⊥
      too_old b e lt = let lt2 = subst (λ (z : Attestation). z.boot < boot) e lt in absurd (omega (arith, lt2, now))

  abbrev opened_with : List EndView → Present
  opened_with views = record { cells = pr.cells; ends = views; pending = Some (record { acts = []; pieces = 0 }) }

  opened_step : (link epoch : ℕ) (side : Side) (views : List EndView) → pr.pending ≡ None → changed_views (opens epoch) link side (ends_of app m) pr.ends ≡ Some views
      → may_open x.attested boot link epoch (slice_index mo.epochs link) ≡ true
      → step app mo (item.Open m link side epoch) ≡ Some (with_end_of (opened_with views))
  opened_step link epoch side views pend ch may = rw (part, there, idle_as x pr present pend, boots, ch, may) refl

  -- a key that the deployer gave for the module at this boot
  pub record Given (link epoch : ℕ) : Type 0 where
    pub a : Attestation
    pub attested : x.attested ≡ Some a
    pub now : a.boot ≡ boot
    pub floor : slice_index a.floors link ≤ epoch
    pub reached : epoch ≤ slice_index mo.epochs link

  given : (header key : List ℕ) → is_made ledger (made_entry maker.Deployer m boot header key) ≡ true → Given (link_in header) (epoch_in header)
  given header key was =
      let ke : KnownKey app mo (made_entry maker.Deployer m boot header key) = known (made_entry maker.Deployer m boot header key) was in
      let xs : ke.x ≡ x = some_inj ke.x x (sym ke.there ∙ there) in
      let at : x.attested ≡ Some ke.a = sym (ap (λ (z : Standing). z.attested) xs) ∙ ke.attested in
      let now : ke.a.boot ≡ boot = same_boot ke.a ke.older ((sane.timely m q x boot part there boots).attested ke.a at) in
      let link : link_in header ≡ ke.«end».link = ap link_in ke.header in
      let epoch : epoch_in header ≡ ke.epoch = ap epoch_in ke.header in
      record {
        a = ke.a;
        attested = at;
        now = now;
        floor = subst (λ e. slice_index ke.a.floors (link_in header) ≤ e) (sym epoch) (subst (λ c. slice_index ke.a.floors c ≤ ke.epoch) (sym link) (ke.floor (sym now)));
        reached = subst (λ e. e ≤ slice_index mo.epochs (link_in header)) (sym epoch) (subst (λ c. ke.epoch ≤ slice_index mo.epochs c) (sym link) ke.given);
      }
    where
      same_boot : (a : Attestation) → boot ≤ a.boot → ((a.boot < boot) ⊎ ((a.boot ≡ boot) × (is_some x.present ≡ true))) → a.boot ≡ boot
      same_boot a le (inl lt) = absurd (omega (arith, le, lt))
      same_boot a le (inr e) = e.0

  field_small : (link epoch : ℕ) → link < 256 → epoch ≤ 255 → link + 256 * epoch < FIELDS
  unfolding FIELDS
  field_small link epoch l e = omega (arith, l, e)

  opens_fares : (sizes : length mo.sent ≡ FIELDS) (devices : List Window) (st : ModuleState) (p : Progress) (k : ℕ) (e : End) (header key : List ℕ)
      → pr.pending ≡ None → SameState (ends_of app m) st pr.cells pr.ends mo.sent
      → is_set_key_header header ≡ true → end_found (link_in header) (side_in header) 0 (ends_of app m) ≡ Some (k, e)
      → link_in header < 256 → ((end_of st.ends k).is_open ≡ true → epoch_of (end_of st.ends k).field < epoch_in header) → length p.pieces ≡ 0
      → (p.state ≡ record { cells = st.cells; ends = with_end st.ends k (record { is_open = true; field = link_in header + 256 * epoch_in header; number = 0; key = key }) })
      → Fares (judge app mo (has_unwrapped app m boot header key ledger)) (Next app m q x mo (Unwrapped header key true) ledger [] (Returns 1 p))
  opens_fares sizes devices st p k e header key pend same isk found lt below pieces pst =
      let link = link_in header in
      let epoch = epoch_in header in
      let side = side_in header in
      let field = link + 256 * epoch in
      let fa = found_at link side (ends_of app m) k e found in
      let has : has_end app m link side ≡ true = has_end-found link side (ends_of app m) k e fa in
      let i = item.Open m link side epoch in
      let entry : Made = made_entry maker.Deployer m boot header key in
      let bit = is_made ledger entry in
      let good = Next app m q x mo (Unwrapped header key true) ledger [] (Returns 1 p) in
      let seen : has_unwrapped app m boot header key ledger ≡ unless_made (Some m) bit i = if_true _ _ _ (and_from (is_set_key_header header) _ isk has) in
      subst (λ items. Fares (judge app mo items) good) (sym seen) (fares_unless (Some m) bit i good (λ was.
      let g = given header key was in
      let lf : link_of field ≡ link = omega (arith, lt) in
      let ef : epoch_of field ≡ epoch = omega (arith, lt) in
      let under = below_at link epoch side (ends_of app m) st.ends pr.ends mo.sent k e same.each fa below in
      let lk = linked app m link side k e fa in
      let within : (words : List ℕ) × (slice_get mo.sent field ≡ Some words) =
      get_some mo.sent field (subst (λ n. field < n) (sym sizes) (field_small link epoch lt (most epoch (slice_index mo.epochs link) g.reached (sane.small link)))) in
      let long : side ≡ From → HasLength (slice_get mo.sent field) 0 = λ s.
      let empty : within.0 ≡ [] = unsent_here field lk.l within.0 g.a (subst (λ c. slice_get app.links c ≡ Some lk.l) (sym lf) lk.there)
      (subst (λ t. EndOf m t e.port lk.l) s lk.ends).0 within.1 g.attested g.now
      (subst (λ c. slice_index g.a.floors c ≤ epoch_of field) (sym lf) (subst (λ n. slice_index g.a.floors link ≤ n) (sym ef) g.floor))
      (subst (λ c. is_below (open_at c From (ends_of app m) pr.ends) (epoch_of field) ≡ true) (sym lf) (subst (λ n. is_below (open_at link From (ends_of app m) pr.ends) n ≡ true) (sym ef)
      (subst (λ t. is_below (open_at link t (ends_of app m) pr.ends) epoch ≡ true) s under))) in
      subst (λ o. HasLength o 0) (sym (within.1 ∙ ap Some empty)) refl in
      let new : EndState = record { is_open = true; field = field; number = 0; key = key } in
      let t = opens_at link epoch side (ends_of app m) st.ends pr.ends mo.sent k e new same.each fa below refl lf ef refl long in
      let views = t.0 in
      let pr2 = opened_with views in
      fares_one i (with_end_of pr2) good refl (opened_step link epoch side views pend t.1 (may_open_from x.attested g.a link epoch (slice_index mo.epochs link) g.attested g.now g.floor g.reached))
      (stood (Unwrapped header key true) pr2 [] (Returns 1 p) refl
      (λ n c o. open_stays (opens epoch) n c link From side (ends_of app m) pr.ends views (opens_stays epoch) t.1 o)
      (λ c s n o. elim (newly_open epoch n c link s side (ends_of app m) pr.ends views t.1 o) [
        | inl old ↦ (sane.timely m q x boot part there boots).opened pr c s n present old
        | inr new_ ↦ (g.a, g.attested, g.now, subst (λ z. n ≤ slice_index mo.epochs z) (sym new_.0) (subst (λ z. z ≤ slice_index mo.epochs link) (sym new_.1) g.reached))
      ])
      (λ devices. Now [] 0 refl tt (
        refl,
        refl,
        pieces,
        record {
          same = ap (λ (z : ModuleState). z.cells) pst ∙ same.same;
          each = subst (λ (z : ModuleState). SameEnds (ends_of app m) z.ends views mo.sent) (sym pst) t.2;
        },
      )))))
    where
      most : (a b : ℕ) → a ≤ b → b ≤ 255 → a ≤ 255
      most a b h g = omega (arith, h, g)

  ask_not_event : (header : List ℕ) → is_ask header ≡ true → is_event_header header ≡ true → ⊥
  ask_not_event header a e =
      let x = eqb-true (length header) 18 (and_parts (length header == 18) (begins 2 header) a).0 in
      let y = eqb-true (length header) 6 (and_parts (length header == 6) (begins 3 header) e).0 in
      absurd (omega (arith, x, y))

  vouched_there : (xs : List Vow) (a b : ℕ) → is_vouched a b (xs ++ record { challenge = a; boot = b } ∷ []) ≡ true
  vouched_there [] a b = rw (eq-eqb a a refl, eq-eqb b b refl) refl
  vouched_there (v ∷ xs) a b = or_right _ _ (vouched_there xs a b)

  vouched_more : (xs : List Vow) (v : Vow) (a b : ℕ) → is_vouched a b xs ≡ true → is_vouched a b (xs ++ v ∷ []) ≡ true
  vouched_more [] v a b h = absurd (true≢false (sym h))
  vouched_more (u ∷ xs) v a b h = elim (or_cases ((u.challenge == a) && (u.boot == b)) (is_vouched a b xs) h) [
    | inl t ↦ or_left _ _ t
    | inr t ↦ or_right _ _ (vouched_more xs v a b t)
  ]

  vouched_new : (xs : List Vow) (c d a b : ℕ) → is_vouched a b (xs ++ record { challenge = c; boot = d } ∷ []) ≡ true → (is_vouched a b xs ≡ true) ⊎ (d ≡ b)
  vouched_new [] c d a b h = elim (or_cases ((c == a) && (d == b)) false h) [
    | inl t ↦ inr (eqb-true d b (and_parts (c == a) (d == b) t).1)
    | inr f ↦ absurd (true≢false (sym f))
  ]
  vouched_new (u ∷ xs) c d a b h = elim (or_cases ((u.challenge == a) && (u.boot == b)) (is_vouched a b (xs ++ record { challenge = c; boot = d } ∷ [])) h) [
    | inl t ↦ inl (or_left _ _ t)
    | inr t ↦ elim (vouched_new xs c d a b t) [ inl o ↦ inl (or_right _ _ o) | inr e ↦ inr e ]
  ]

  vouched_settled : (st : ModuleState) (result : Invoked) → SameState (ends_of app m) st pr.cells pr.ends mo.sent → Vouched st result
      → Settled (ends_of app m) pr.cells pr.ends mo.sent 1 [] result
  vouched_settled st (Violates v p) same h = tt
  vouched_settled st (Returns status p) same h = (refl, h.0, h.1, subst (λ z. SameState (ends_of app m) z pr.cells pr.ends mo.sent) (sym h.2) same)

  abbrev pending_one : Present
  pending_one = record { cells = pr.cells; ends = pr.ends; pending = Some (record { acts = []; pieces = 1 }) }

  abbrev vouched_as : ℕ → Standing
  vouched_as a = record { present = Some pending_one; asked = x.asked; vouched = x.vouched ++ record { challenge = a; boot = boot } ∷ []; attested = x.attested }

  abbrev vouched_model : ℕ → Model
  vouched_model a = record { boots = mo.boots; devices = mo.devices; modules = slice_set mo.modules m (vouched_as a); epochs = mo.epochs; sent = mo.sent; asks = mo.asks }

  vouched_step : (a : ℕ) → pr.pending ≡ None → step app mo (item.Vouch m a) ≡ Some (vouched_model a)
  vouched_step a pend = rw (part, there, idle_as x pr present pend, boots) refl

  vouch_fares : (st : ModuleState) (header : List ℕ) (result : Invoked) → pr.pending ≡ None → SameState (ends_of app m) st pr.cells pr.ends mo.sent → is_ask header ≡ true → Vouched st result
      → (let o = has_wrapped m boot header [] true ledger in Fares (judge app mo o.items) (Next app m q x mo (Wrapped header [] true) o.ledger [] result))
  vouch_fares st header result pend same ask h =
      let mark = Wrapped header [] true in
      let entry : Made = made_entry (maker.Module m) NO_TARGET boot header [] in
      let a = challenge_in header in
      let mo2 = vouched_model a in
      let y = vouched_as a in
      let moved : Moved app q.node m mark x y mo mo2 =
      record {
        boots = refl;
        asks = refl;
        epochs = refl;
        modules = refl;
        asked = refl;
        attested = refl;
        vouched = λ c b t.
            vouched_more x.vouched (record { challenge = a; boot = boot }) c b t;
        devices = refl;
        sent = flows_same (IsOwn app m) mo.sent;
      } in
      let here = same_module app q.node m mark x y mo mo2 there moved in
      let seen : has_wrapped m boot header [] true ledger ≡ record { items = item.Vouch m a ∷ []; ledger = ledger ++ entry ∷ [] } = rw ask refl in
      subst (λ (o : Observed). Fares (judge app mo o.items) (Next app m q x mo mark o.ledger [] result)) (sym seen)
      (fares_one (item.Vouch m a) mo2 (Next app m q x mo mark (ledger ++ entry ∷ []) [] result) refl (vouched_step a pend) (record {
        y = y;
        moved = moved;
        pr = pending_one;
        present = refl;
        owes = λ devices. Now [] 1 refl tt (vouched_settled st result same h);
        sane = sane_moved app q.node m mark x y mo mo2 there moved sane
            (λ q2 b pk bk.
            let t = sane.timely m q2 x b pk there bk in
            record {
              vouched = λ c k v. elim (vouched_new x.vouched a boot c k v) [
                | inl o ↦ elim (t.vouched c k o) [ inl lt ↦ inl lt | inr r ↦ inr (r.0, refl) ]
                | inr e ↦ inr (sym e ∙ boot_same q2 b pk bk, refl)
              ];
              attested = λ k v. elim (t.attested k v) [ inl lt ↦ inl lt | inr r ↦ inr (r.0, refl) ];
              opened = λ p2 c side n pe o. t.opened pr c side n present (subst (λ (z : Present). open_at c side (ends_of app m) z.ends ≡ Some n) (sym (some_inj pending_one p2 pe)) o);
            })
            (λ c l q2 b words lk own pk bk wk.
            elim (sane.unsent c l q2 x b words lk (subst (λ j. slice_get app.parts j ≡ Some q2) (sym own) pk) (subst (λ j. slice_get mo.modules j ≡ Some x) (sym own) there) bk wk) [
              | inl none ↦ inl none
              | inr hs ↦ inr (
                hs.0,
                hs.1,
                hs.2,
                elim hs.3 [
                  | inl lt ↦ inl lt
                  | inr o ↦ inr (pending_one, refl, open_before c o.0 o.1 (subst (λ j. AtLeast (epoch_of c) (open_at (link_of c) From (ends_of app j) o.0.ends)) own o.2))
                ],
              )
            ]);
        known = λ k was. elim (made_behind ledger entry k was) [
          | inl old ↦ known_moved app q.node m mark x y mo mo2 there moved k.maker k (known k old)
          | inr new ↦ subst (λ (z : Made). Known app mo2 z.maker z) (sym new)
              (λ _. record { x = y; there = here; vouched = vouched_there x.vouched a boot }, λ ev. absurd (ask_not_event header ask ev))
        ];
      }))

  set_same : (xs : List Standing) (i : ℕ) (v : Standing) → slice_get xs i ≡ Some v → slice_set xs i v ≡ xs
  set_same [] i v e = refl
  set_same (z ∷ xs) zero v e = ap (λ w. w ∷ xs) (sym (some_inj z v e))
  set_same (z ∷ xs) (suc i) v e = ap (λ w. z ∷ w) (set_same xs i v e)

  -- a word that was sent is wrapped
  wrap_fares : (header body : List ℕ) (own : Bool) (acts : List Act) (pieces : ℕ) (ms : List Mark) (result : Invoked) → pr.pending ≡ Some (record { acts = acts; pieces = pieces }) → OwnActs app m pr.ends acts
      → Settles app q.node m q.device pr.cells pr.ends mo.sent pieces result (Wrapped header body own ∷ ms) acts
      → (let o = has_wrapped m boot header body own ledger in Fares (judge app mo o.items) (Next app m q x mo (Wrapped header body own) o.ledger ms result))
  wrap_fares header body own acts pieces ms result pend mine h =
      let mark = Wrapped header body own in
      let entry : Made = made_entry (maker.Module m) NO_TARGET 0 header body in
      let no_ask : is_ask header ≡ false = false_from_ne_true (is_ask header) (λ a. ask_not_event header a h.0) in
      let two : (length body == 2) ≡ true = subst (λ n. (n == 2) ≡ true) (sym h.1) refl in
      let seen : has_wrapped m boot header body own ledger ≡ record { items = []; ledger = ledger ++ entry ∷ [] } = rw (no_ask, h.0, two) refl in
      let moved : Moved app q.node m mark x x mo mo =
      record {
        boots = refl;
        asks = refl;
        epochs = refl;
        modules = sym
            (set_same mo.modules m x there);
        asked = refl;
        attested = refl;
        vouched = λ a b t. t;
        devices = refl;
        sent = flows_same
            (IsOwn app m) mo.sent;
      } in
      subst (λ (o : Observed). Fares (judge app mo o.items) (Next app m q x mo mark o.ledger ms result)) (sym seen)
      (record {
        y = x;
        moved = moved;
        pr = pr;
        present = present;
        owes = λ devices. Now acts pieces pend mine h.3;
        sane = sane;
        known = λ k was. elim (made_behind ledger entry k was) [
          | inl old ↦ known k old
          | inr new ↦ subst (λ (z : Made). Known app mo z.maker z) (sym new) (λ a. absurd (ask_not_event header a h.0), λ ev. h.2)
        ];
      })

  abbrev pending_with : List Act → ℕ → Present
  pending_with acts pieces = record { cells = pr.cells; ends = pr.ends; pending = Some (record { acts = acts; pieces = pieces }) }

  written_step : (v e : ℕ) (acts : List Act) (pieces : ℕ) → pr.pending ≡ Some (record { acts = Emit e ∷ acts; pieces = pieces })
      → v ≡ e → (let f = sent_first (ends_of app m) pr.ends acts (flowing mo.sent pieces) in step app mo (item.Out m v) ≡ Some (sent_with (pending_with (from_emit acts) f.pieces) f.sent mo.devices))
  written_step v e acts pieces pend same = rw (there, present, pend, same, eq-eqb e e refl) refl

  driver_here : (d : ℕ) → q.device ≡ Some d → is_driver app (Some m) d ≡ true
  driver_here d e = rw (part, e) (eq-eqb d d refl)

  -- an emit that is owed is written, and what comes before the next is sent
  write_fares : (k v : ℕ) (acts : List Act) (pieces : ℕ) (ms : List Mark) (result : Invoked) → pr.pending ≡ Some (record { acts = acts; pieces = pieces }) → OwnActs app m pr.ends acts
      → Settles app q.node m q.device pr.cells pr.ends mo.sent pieces result (Actuated k v ∷ ms) acts
      → Fares (judge app mo (write_item app (Some m) (device_number app q.node k) v ∷ [])) (Next app m q x mo (Actuated k v) ledger ms result)
  write_fares k v [] pieces ms result pend mine h = absurd h
  write_fares k v (Send output w ∷ acts) pieces ms result pend mine h = absurd h
  write_fares k v (Emit e ∷ acts) pieces ms result pend mine h =
      let f = sent_first (ends_of app m) pr.ends acts (flowing mo.sent pieces) in
      let p2 = pending_with (from_emit acts) f.pieces in
      let seen : write_item app (Some m) (device_number app q.node k) v ≡ item.Out m v = rw (driver_here (device_number app q.node k) h.0) refl in
      subst (λ i. Fares (judge app mo (i ∷ [])) (Next app m q x mo (Actuated k v) ledger ms result)) (sym seen)
      (fares_one (item.Out m v) (sent_with p2 f.sent mo.devices) (Next app m q x mo (Actuated k v) ledger ms result) refl (written_step v e acts pieces pend h.1)
      (sent_next (Actuated k v) p2 f.sent mo.devices ms result refl
      (flows_first (OwnOpen pr.ends) (ends_of app m) pr.ends acts (flowing mo.sent pieces) mine) (λ c side. refl)
      (λ devices. Now (from_emit acts) f.pieces refl (own_acts app m pr.ends (from_emit acts) mine) h.2)))

  -- the module reads its sensor
  abbrev stale_devices : ℕ → ℕ → List Reading
  stale_devices d v = slice_set mo.devices d (record { value = v; fresh = false })

  read_step : (d v : ℕ) (r : Reading) → q.device ≡ Some d → slice_get mo.devices d ≡ Some r → kind_is is_sensor (slice_get app.devices d) ≡ true → r.fresh ≡ true → r.value ≡ v → pr.pending ≡ None
      → step app mo (item.Read m v) ≡ Some (behind pr.ends (event.Sample v) (stale_devices d v))
  read_step d v r dev there_r sensor fresh value pend =
      let whole : pr ≡ idle_with pr.cells pr.ends = ap (λ (z : Option Pending). record { cells = pr.cells; ends = pr.ends; pending = z }) pend in
      let idle2 : idle x ≡ Some (idle_with pr.cells pr.ends) = idle_as x pr present pend ∙ ap Some whole in
      rw (part, there, idle2, dev, there_r, sensor, fresh, value, eq-eqb v v refl) refl

  sample_fares : (devices : List Window) (st : ModuleState) (k : ℕ) (w : Window) (ms : List Mark) (result : Invoked) (r : Reading) → pr.pending ≡ None
      → SameState (ends_of app m) st pr.cells pr.ends mo.sent → OwnSensor app q.node q devices k w → w.fresh ≡ true
      → slice_get mo.devices (device_number app q.node k) ≡ Some r → DeviceTied w r → Reacts app q.node m q st (event.Sample w.value) result ms
      → Fares (judge app mo (read_item app (Some m) (device_number app q.node k) w.value ∷ [])) (Next app m q x mo (Sampled k w.value) ledger ms result)
  sample_fares devices st k w ms result r pend same own fresh there_r tied h =
      let d = device_number app q.node k in
      let seen : read_item app (Some m) d w.value ≡ item.Read m w.value = rw (driver_here d own.device) refl in
      subst (λ i. Fares (judge app mo (i ∷ [])) (Next app m q x mo (Sampled k w.value) ledger ms result)) (sym seen)
      (fares_one (item.Read m w.value) (behind pr.ends (event.Sample w.value) (stale_devices d w.value)) (Next app m q x mo (Sampled k w.value) ledger ms result) refl
      (read_step d w.value r own.device there_r own.sensor (tied.fresh ∙ fresh) tied.value pend)
      (reacted (Sampled k w.value) st pr.ends (event.Sample w.value) (stale_devices d w.value) ms result refl same.same same.each (λ c side. refl) h))

  -- the reading that the source has of a sensor
  abbrev pub Readings : List Window → Type 0
  Readings devices = (k : ℕ) (w : Window) → slice_get devices k ≡ Some w → kind_is is_sensor (slice_get app.devices (device_number app q.node k)) ≡ true
      → (r : Reading) × (slice_get mo.devices (device_number app q.node k) ≡ Some r) × DeviceTied w r

  abbrev MarkFares : Mark → List Mark → Invoked → Type 0
  MarkFares mark rest result =
      (let o = mark_seen app q.node m boot mark ledger in Fares (judge app mo o.items) (Next app m q x mo mark o.ledger rest result))

  begun_fares : (sizes : length mo.sent ≡ FIELDS) (devices : List Window) (readings : Readings devices) (st : ModuleState) (mark : Mark) (rest : List Mark) (result : Invoked) → pr.pending ≡ None
      → SameState (ends_of app m) st pr.cells pr.ends mo.sent → Begun app q.node m q devices st (mark ∷ rest) result → MarkFares mark rest result
  begun_fares sizes devices readings st mark rest result pend same (Opens {p = p} k e header key isk found lt below pieces pst) =
      opens_fares sizes devices st p k e header key pend same isk found lt below pieces pst
  begun_fares sizes devices readings st mark rest result pend same (Vouches header ask h) = vouch_fares st header result pend same ask h
  begun_fares sizes devices readings st mark rest result pend same (Takes k e header body ev found isopen epo le lt h) =
      take_fares devices st k e header body rest result pend same ev found isopen epo le lt h
  begun_fares sizes devices readings st mark rest result pend same (Samples k w own fresh h) =
      let r = readings k w own.there own.sensor in
      sample_fares devices st k w rest result r.0 pend same own fresh r.1 r.2 h

  settles_fares : (mark : Mark) (acts : List Act) (pieces : ℕ) (rest : List Mark) (result : Invoked) → pr.pending ≡ Some (record { acts = acts; pieces = pieces }) → OwnActs app m pr.ends acts
      → Settles app q.node m q.device pr.cells pr.ends mo.sent pieces result (mark ∷ rest) acts → MarkFares mark rest result
  settles_fares (Wrapped header body own) acts pieces rest result pend mine h = wrap_fares header body own acts pieces rest result pend mine h
  settles_fares (Unwrapped header body own) acts pieces rest result pend mine h = absurd h
  settles_fares (Sampled k v) acts pieces rest result pend mine h = absurd h
  settles_fares (Actuated k v) acts pieces rest result pend mine h = write_fares k v acts pieces rest result pend mine h

  -- each mark of what is owed is allowed, or forged
  pub mark_fares : (sizes : length mo.sent ≡ FIELDS) (devices : List Window) (readings : Readings devices) (mark : Mark) (rest : List Mark) (result : Invoked)
      → Owes app q.node m q devices pr mo.sent (mark ∷ rest) result → MarkFares mark rest result
  mark_fares sizes devices readings mark rest result (Yet st pend same h) = begun_fares sizes devices readings st mark rest result pend same h
  mark_fares sizes devices readings mark rest result (Now acts pieces pend mine h) = settles_fares mark acts pieces rest result pend mine h

  -- The exit: the module is done, and the source has it idle in the state that its private section then represents.

  pub record Finished (p : Progress) (mo' : Model) : Type 0 where
    pub y : Standing
    pub changed : mo' ≡ record { boots = mo.boots; devices = mo.devices; modules = slice_set mo.modules m y; epochs = mo.epochs; sent = mo.sent; asks = mo.asks }
    pub asked : y.asked ≡ x.asked
    pub attested : y.attested ≡ x.attested
    pub vouched : y.vouched ≡ x.vouched
    pub pr2 : Present
    pub there2 : y.present ≡ Some pr2
    pub idle2 : pr2.pending ≡ None
    pub ends : pr2.ends ≡ pr.ends
    pub state : SameState (ends_of app m) p.state pr2.cells pr2.ends mo.sent

  done_step : (k : ℕ) → pr.pending ≡ Some (record { acts = []; pieces = k }) → step app mo (item.Done m 1 k) ≡ Some (with_end_of (idle_with pr.cells pr.ends))
  done_step k pend = rw (part, there, present, pend, eq-eqb k k refl) refl

  not_one : (status : ℕ) → nat_le 2 status ≡ true → (status == 1) ≡ false
  not_one status h = ne_eqb status 1 (λ e. absurd (true≢false (sym h ∙ ap (λ n. nat_le 2 n) e)))

  refused_step : (status : ℕ) → pr.pending ≡ None → nat_le 2 status ≡ true → nat_le status 8 ≡ true → (not (status == 8) || waits app mo.devices q.device) ≡ true
      → step app mo (item.Done m status 0) ≡ Some mo
  refused_step status pend lo hi w = rw (part, there, present, pend, not_one status lo, lo, hi, w) refl

  waits_stale : (d : ℕ) (r : Reading) → q.device ≡ Some d → kind_is is_sensor (slice_get app.devices d) ≡ true
      → slice_get mo.devices d ≡ Some r → r.fresh ≡ false → waits app mo.devices q.device ≡ true
  waits_stale d r dev sensor there_r f = rw (dev, sensor, there_r, f) refl

  or_waits : (status : ℕ) (b : Bool) → (status ≡ 8 → b ≡ true) → (not (status == 8) || b) ≡ true
  or_waits status b h = elim (cases_eq status 8) [
    | inl e ↦ or_right (not (status == 8)) b (h e)
    | inr ne ↦ or_left (not (status == 8)) b (rw (ne_eqb status 8 ne) refl)
  ]

  pub done_owes : (devices : List Window) (readings : Readings devices) (status : ℕ) (p : Progress) → Owes app q.node m q devices pr mo.sent [] (Returns status p)
      → Fares (judge app mo (item.Done m status (length p.pieces) ∷ [])) (Finished p)
  done_owes devices readings status p (Yet st pend same (Refuses lo hi pieces pst fresh)) =
      let w : (not (status == 8) || waits app mo.devices q.device) ≡ true = or_waits status (waits app mo.devices q.device) (λ e.
      let f = fresh e in
      let r = readings f.0 f.1 f.2.there f.2.sensor in
      waits_stale (device_number app q.node f.0) r.0 f.2.device f.2.sensor r.1 (r.2.fresh ∙ f.3)) in
      fares_one (item.Done m status (length p.pieces)) mo (Finished p) refl (subst (λ k. step app mo (item.Done m status k) ≡ Some mo) (sym pieces) (refused_step status pend lo hi w))
      (record {
        y = x;
        changed = ap (λ z. record { boots = mo.boots; devices = mo.devices; modules = z; epochs = mo.epochs; sent = mo.sent; asks = mo.asks }) (sym (set_same mo.modules m x there));
        asked = refl;
        attested = refl;
        vouched = refl;
        pr2 = pr;
        there2 = present;
        idle2 = pend;
        ends = refl;
        state = subst (λ z. SameState (ends_of app m) z pr.cells pr.ends mo.sent) (sym pst) same;
      })
  done_owes devices readings status p (Now acts pieces pend mine h) =
      let pend2 : pr.pending ≡ Some (record { acts = []; pieces = length p.pieces }) =
      pend ∙ ap (λ (z : List Act). Some (record { acts = z; pieces = pieces })) h.0 ∙ ap (λ k. Some (record { acts = []; pieces = k })) (sym h.2) in
      subst (λ s. Fares (judge app mo (item.Done m s (length p.pieces) ∷ [])) (Finished p)) (sym h.1)
      (fares_one (item.Done m 1 (length p.pieces)) (with_end_of (idle_with pr.cells pr.ends)) (Finished p) refl (done_step (length p.pieces) pend2)
      (record {
        y = record { present = Some (idle_with pr.cells pr.ends); asked = x.asked; vouched = x.vouched; attested = x.attested };
        changed = refl;
        asked = refl;
        attested = refl;
        vouched = refl;
        pr2 = idle_with pr.cells pr.ends;
        there2 = refl;
        idle2 = refl;
        ends = refl;
        state = h.3;
      }))
