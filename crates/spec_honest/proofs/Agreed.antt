-- Each reading and each delivery leads the source model to where the course says.
use Rattle.std.proofs.Common.{◌≡◌, ℕ, ◌+◌, ◌<◌, ◌≤◌, inl, inr, ◌==◌, true, false, if◌then◌else◌, List, [], ◌∷◌, ◌++◌, length, map, Option, Some}
use Rattle.std.proofs.Common.{None, slice_get, append_assoc, refl, sym, ap, ◌∙◌, subst, arith}
use Rattle.std.specs.Prelude.{slice_set, slice_index_or}
use Rattle.std.specs.List.{All}
use Rattle.std.proofs.lemmas.Bool.{cases_eq, eq-eqb}
use Rattle.std.proofs.lemmas.List.Elements.{All-head}
use Rattle.std.proofs.lemmas.List.{get_or-set_other, get_or-set_same, length-append, length-set, set-set}
use Rattle.std.proofs.lemmas.Option.{slice_get_within}
use Rattle.sx_mean.specs.declared.apps.AppDevice.{AppDevice}
use Rattle.sx_mean.specs.declared.events.SourceEvent.{SourceEvent}
use Rattle.sx_mean.specs.declared.events.SourceEvent.TheVariants as event
use Rattle.sx_mean.specs.Application.{AppTree, PartTree, is_sensor}
use Rattle.sx_mean.specs.Validity.{is_valid}
use Rattle.sx_mean.specs.Ends.{ends_of}
use Rattle.sx_mean.proofs.ValidApplications.{valid_applications}
use Rattle.sx_trace.specs.declared.items.Item.{Item}
use Rattle.sx_trace.specs.declared.items.Item.TheVariants as item
use Rattle.sx_model.specs.State.{FIELDS, Model, Present, Reading, Standing, power_on}
use Rattle.sx_model.specs.Reaction.{flow_of}
use Rattle.sx_model.specs.Step.{kind_is, reacts, step, with_device}
use Rattle.sx_model.specs.Legal.{after}
use Rattle.spec_honest.specs.Plain.{Plain, Sampling, Waiting, acts_emit, acts_send, reacted, reaction}
use Rattle.spec_honest.specs.Course.{Course, IsSampling, acts_items, count_over, delivered, packet_items, packets_so_far, sensed, words_over}
use Rattle.spec_honest.proofs.Agreement.{Agrees, IsPresent, present_as, view_of}
use Rattle.spec_honest.proofs.Lists.{words-append, words-few}
use Rattle.spec_honest.proofs.Course.{total}
use Rattle.spec_honest.proofs.AsPlain.{IsLinked, IsTold, driver, goes}
use Rattle.spec_honest.proofs.Sending.{Comes, SentAs, comes}
use Rattle.spec_honest.proofs.Events.{event_done, event_ran, ran_first, ran_on, read_step, small, take_step}
use Rattle.spec_honest.proofs.Views.{other_views, taken_views}
use Rattle.sx_model.proofs.Written.{at_set, get_other}
use Rattle.sx_model.specs.Changes.{is_fresh_with}
use Rattle.sx_model.proofs.Idle.{idle_as}
use Rattle.lemmas.proofs.Lists.{get_same, get_some, get_mid}

-- there are fields for each connection
pub fields_enough : (n : ℕ) → n ≤ 64 → n ≤ FIELDS
unfolding Rattle.sx_model.specs.State.FIELDS
fields_enough n h = omega arith

-- the p-th module is present with what it was, and the other ones as they will be
module _ (app : AppTree) (past : List Waiting) (s : Plain) (m : Model) (p : ℕ) (q : PartTree) (x : Standing) (e : SourceEvent) (part : slice_get app.parts p ≡ Some q)
    (there : slice_get m.modules p ≡ Some x) (long : length s.cells ≡ length app.parts) (links : length app.links ≤ FIELDS) (sent : SentAs FIELDS m.sent (past ++ s.waiting))
    (few : length (past ++ s.waiting) + length (acts_send app.links p (reaction p q e s.cells).acts) ≤ 65535) where
  abbrev pub here : Present
  here = present_as app p past (slice_index_or s.cells p [])

  pub flows : Comes FIELDS app p (reaction p q e s.cells).acts (past ++ s.waiting) (flow_of q.tree (ends_of app p) e here m.sent)
  flows = comes FIELDS app p q.tree e past here m.sent (past ++ s.waiting) sent links few refl

  -- the event is done
  pub done_after : (number : ℕ) (begins : Item) (t : Model) → step app t begins ≡ Some (reacts app m p q x here e)
      → after app t (acts_items app p begins number (reaction p q e s.cells).acts) ≡ Some (event_done app m p q x here e)
  done_after number begins t first =
      let acts = (reaction p q e s.cells).acts in
      let k = length (acts_send app.links p acts) in
      ran_first app begins (map (λ v. item.Out p v) (acts_emit acts) ++ item.Done p 1 k ∷ packet_items number 24 k) t (reacts app m p q x here e) first
      ∙ event_ran app m p number q x x here e (acts_emit acts) k part there flows.emits flows.pieces

  -- and what is there then
  pub agrees_after : ((k : ℕ) → k < length app.parts → (p ≡ k → ⊥) → IsPresent m.modules k (present_as app k past (slice_index_or s.cells k []))) → length m.devices ≡ length app.devices
      → ((d : ℕ) (r : Reading) → slice_get m.devices d ≡ Some r → r.fresh ≡ false) → Agrees app (reacted app p e s q) past (event_done app m p q x here e)
  agrees_after others readings stale =
      let new = (reaction p q e s.cells).cells in
      let y : Standing = record x { present = Some (present_as app p past new) } in
      let within : p < length s.cells = (let w = slice_get_within app.parts p q part in omega (arith, w, long)) in
      record {
        modules = λ k lt. elim (cases_eq p k) [
          | inl same ↦ subst (λ k. IsPresent (slice_set m.modules p y) k (present_as app k past (slice_index_or (slice_set s.cells p new) k []))) same (record {
            standing = y;
            there = get_same m.modules p y x there;
            is = ap (λ cells. Some (present_as app p past cells)) (sym (get_or-set_same s.cells p new [] within));
          })
          | inr apart ↦
              let o = others k lt apart in
              record {
                standing = o.standing;
                there = get_other m.modules p k y apart ∙ o.there;
                is = o.is ∙ ap (λ cells. Some (present_as app k past cells)) (sym (get_or-set_other s.cells p k new [] (λ z. apart (sym z))));
              }
        ];
        sent = λ k lt. flows.sent k lt ∙ ap (λ xs. Some (words_over k xs)) (append_assoc past s.waiting (acts_send app.links p (reaction p q e s.cells).acts));
        readings = readings;
        stale = stale;
      }

-- A course whose items are legal, with where they lead.
pub record Stands (app : AppTree) (c : Course) : Type 0 where
  pub told : IsTold app c
  pub long : length c.plain.cells ≡ length app.parts
  pub model : Model
  pub ran : after app (power_on app) c.items ≡ Some model
  pub agrees : Agrees app c.plain c.past model

-- A reading.

record IsSensor (app : AppTree) (d : ℕ) : Type 0 where
  device : AppDevice
  there : slice_get app.devices d ≡ Some device
  kind : is_sensor device.kind ≡ true

sensor_at : (app : AppTree) (d : ℕ) → kind_is is_sensor (slice_get app.devices d) ≡ true → IsSensor app d
sensor_at app d h = go (slice_get app.devices d) refl h
  where
    go : (o : Option AppDevice) → slice_get app.devices d ≡ o → kind_is is_sensor o ≡ true → IsSensor app d
    go None e h = absurd cc
    go (Some w) e h = record { device = w; there = e; kind = h }

sense_step : (app : AppTree) (s : Model) (d v : ℕ) → IsSensor app d → step app s (item.Sense d v) ≡ Some (with_device s d (record { value = v; fresh = true }))
sense_step app s d v h = rw (h.there, h.kind) refl

-- the reading is sensed and read
sampled_steps : (app : AppTree) (s : Model) (d v p : ℕ) (q : PartTree) (x : Standing) (r : Present) → IsSensor app d → length s.devices ≡ length app.devices → slice_get app.parts p ≡ Some q
    → slice_get s.modules p ≡ Some x → x.present ≡ Some r → r.pending ≡ None → q.device ≡ Some d
    → let t = with_device s d (record { value = v; fresh = true }) in
    let u = with_device s d (record { value = v; fresh = false }) in
    step app t (item.Read p v) ≡ Some (reacts app u p q x r (event.Sample v))
sampled_steps app s d v p q x r sensor long part there is none device =
    let g : Reading = record { value = v; fresh = true } in
    let h : Reading = record { value = v; fresh = false } in
    let t = with_device s d g in
    let within : d < length s.devices = (let w = slice_get_within app.devices d sensor.device sensor.there in omega (arith, w, long)) in
    let old = get_some s.devices d within in
    let read : slice_get t.devices d ≡ Some g = get_same s.devices d g old.0 old.1 in
    let kind : kind_is is_sensor (slice_get app.devices d) ≡ true = (ap (λ o. kind_is is_sensor o) sensor.there ∙ sensor.kind) in
    let fresh : is_fresh_with v g ≡ true = eq-eqb v v refl in
    read_step app t p v d q x r g part there (idle_as x r is none) device read kind fresh
    ∙ ap (λ ds. Some (reacts app (record s { devices = ds }) p q x r (event.Sample v))) (set-set s.devices d g h)

stale_after : (rs : List Reading) (d v : ℕ) → ((k : ℕ) (r : Reading) → slice_get rs k ≡ Some r → r.fresh ≡ false)
    → (k : ℕ) (r : Reading) → slice_get (slice_set rs d (record { value = v; fresh = false })) k ≡ Some r → r.fresh ≡ false
stale_after rs d v h k r e =
    elim (at_set rs d k (record { value = v; fresh = false }) r e) [
      | inl z ↦ sym (ap (λ (r : Reading). r.fresh) z.1)
      | inr z ↦ h k r z.1
    ]

pub sensed_agrees : (app : AppTree) (r : Sampling) (c : Course) → is_valid app ≡ true → IsSampling app r → total (sensed app r c) ≤ 65535
    → IsTold app (sensed app r c) → Stands app c → Stands app (sensed app r c)
sensed_agrees app r c valid is few told h =
    let d = driver app r.device is.driver is.driven in
    let p = is.driver in
    let s = h.model in
    let e = event.Sample r.value in
    let sensor = sensor_at app r.device is.sensor in
    let within : p < length app.parts = slice_get_within app.parts p d.part d.there in
    let m = h.agrees.modules p within in
    let u = with_device s r.device (record { value = r.value; fresh = false }) in
    let t = with_device s r.device (record { value = r.value; fresh = true }) in
    let links : length app.links ≤ FIELDS = fields_enough (length app.links) (valid_applications app valid).few_links in
    let acts = (reaction p d.part e c.plain.cells).acts in
    let next : Course = record {
      plain = reacted app p e c.plain d.part;
      past = c.past;
      items = c.items ++ item.Sense r.device r.value ∷ acts_items app p (item.Read p r.value) (packets_so_far app c) acts;
    } in
    let same : next ≡ sensed app r c = (rw (is.driven, d.there) refl) in
    let room : total next ≤ 65535 = subst (λ c. total c ≤ 65535) (sym same) few in
    let fits : length (c.past ++ c.plain.waiting) + length (acts_send app.links p acts) ≤ 65535 =
    omega (arith, room, length-append c.past c.plain.waiting, length-append c.plain.waiting (acts_send app.links p acts)) in
    let step_read = sampled_steps app s r.device r.value p d.part m.standing
    (present_as app p c.past (slice_index_or c.plain.cells p [])) sensor h.agrees.readings d.there m.there m.is refl d.device in
    let ended = done_after app c.past c.plain u p d.part m.standing e d.there m.there h.long links h.agrees.sent fits (packets_so_far app c) (item.Read p r.value) t step_read in
    let final = event_done app u p d.part m.standing (present_as app p c.past (slice_index_or c.plain.cells p [])) e in
    let stands : Agrees app next.plain next.past final =
    agrees_after app c.past c.plain u p d.part m.standing e d.there m.there h.long links h.agrees.sent fits (λ k lt _. h.agrees.modules k lt)
    (length-set s.devices r.device (record { value = r.value; fresh = false }) ∙ h.agrees.readings) (stale_after s.devices r.device r.value h.agrees.stale) in
    let ran : after app (power_on app) next.items ≡ Some final =
    ran_on app c.items (item.Sense r.device r.value ∷ acts_items app p (item.Read p r.value) (packets_so_far app c) acts) (power_on app) s h.ran
    ∙ ran_first app (item.Sense r.device r.value) (acts_items app p (item.Read p r.value) (packets_so_far app c) acts) s t (sense_step app s r.device r.value sensor)
    ∙ ended in
    record {
      told = told;
      long = subst (λ (c : Course). length c.plain.cells ≡ length app.parts) same (length-set c.plain.cells p (reaction p d.part e c.plain.cells).cells ∙ h.long);
      model = final;
      ran = subst (λ (c : Course). after app (power_on app) c.items ≡ Some final) same ran;
      agrees = subst (λ (c : Course). Agrees app c.plain c.past final) same stands;
    }

-- A delivery.

next_word : (past ws : List Waiting) (w : Waiting) → slice_get (words_over w.link (past ++ w ∷ ws)) (count_over w.link past) ≡ Some w.value
next_word past ws w =
    let same : (w.link == w.link) ≡ true = eq-eqb w.link w.link refl in
    let parts : words_over w.link (past ++ w ∷ ws) ≡ words_over w.link past ++ w.value ∷ words_over w.link ws =
    words-append w.link past (w ∷ ws) ∙ ap (λ b. words_over w.link past ++ (if b then w.value ∷ words_over w.link ws else words_over w.link ws)) same in
    ap (λ zs. slice_get zs (count_over w.link past)) parts ∙ get_mid (words_over w.link past) (words_over w.link ws) w.value

pub delivered_agrees : (app : AppTree) (w : Waiting) (ws : List Waiting) (c : Course) → is_valid app ≡ true → c.plain.waiting ≡ w ∷ ws
    → total (delivered app w ws c) ≤ 65535 → IsTold app (delivered app w ws c)
    → Stands app c → Stands app (delivered app w ws c)
delivered_agrees app w ws c valid waits few told h =
    let linked : All (IsLinked app) (w ∷ ws) = subst (λ xs. All (IsLinked app) xs) waits h.told.linked in
    let g = goes app w.link valid (All-head (IsLinked app) w ws linked) in
    let p = g.link.to in
    let s = h.model in
    let e = event.Input g.link.input w.value in
    let i = count_over w.link c.past in
    let past = c.past ++ w ∷ [] in
    let plain : Plain = record c.plain { waiting = ws } in
    let begins = item.Take p w.link i w.value in
    let acts = (reaction p g.part e c.plain.cells).acts in
    let new = acts_items app p begins (packets_so_far app c) acts in
    let next : Course = record { plain = reacted app p e plain g.part; past = past; items = c.items ++ new } in
    let same : next ≡ delivered app w ws c = (rw (g.there, g.to) refl) in
    let within : p < length app.parts = slice_get_within app.parts p g.part g.to in
    let m = h.agrees.modules p within in
    let cells = slice_index_or c.plain.cells p [] in
    let links : length app.links ≤ FIELDS = fields_enough (length app.links) (valid_applications app valid).few_links in
    let room : total next ≤ 65535 = subst (λ c. total c ≤ 65535) (sym same) few in
    let fits : length (past ++ ws) + length (acts_send app.links p acts) ≤ 65535 =
    omega (arith, room, length-append past ws, length-append ws (acts_send app.links p acts)) in
    let all : c.past ++ c.plain.waiting ≡ past ++ ws = (ap (λ xs. c.past ++ xs) waits ∙ sym (append_assoc c.past (w ∷ []) ws)) in
    let sent : SentAs FIELDS s.sent (past ++ ws) = subst (λ xs. SentAs FIELDS s.sent xs) all h.agrees.sent in
    let low : i < 65536 = (let n = words-few w.link c.past in let l = length-append c.past (w ∷ []) in omega (arith, n, l, room)) in
    let field : w.link < FIELDS = (let lt : w.link < length app.links = All-head (IsLinked app) w ws linked in omega (arith, lt, links)) in
    let words = words_over w.link (c.past ++ w ∷ ws) in
    let there : slice_get s.sent w.link ≡ Some words = (h.agrees.sent w.link field ∙ ap (λ xs. Some (words_over w.link (c.past ++ xs))) waits) in
    let r = present_as app p c.past cells in
    let views = map (view_of past) (ends_of app p) in
    let taken : step app s begins ≡ Some (reacts app s p g.part m.standing (present_as app p past cells) e) =
    take_step app s p w.link i w.value g.part m.standing r g.link words views g.to m.there (idle_as m.standing r m.is refl) g.there (small i low).0 (small i low).1 there
    (taken_views app c.past w g.link g.there) (next_word c.past ws w) in
    let others : (k : ℕ) → k < length app.parts → (p ≡ k → ⊥) → IsPresent s.modules k (present_as app k past (slice_index_or c.plain.cells k [])) =
    (λ k lt apart.
    let o = h.agrees.modules k lt in
    record {
      standing = o.standing;
      there = o.there;
      is = o.is ∙ ap (λ vs. Some (record { cells = slice_index_or c.plain.cells k []; ends = vs; pending = None })) (sym (other_views app c.past w g.link k g.there apart));
    }) in
    let final = event_done app s p g.part m.standing (present_as app p past cells) e in
    let stands : Agrees app next.plain next.past final =
    agrees_after app past plain s p g.part m.standing e g.to m.there h.long links sent fits others h.agrees.readings h.agrees.stale in
    let ran : after app (power_on app) next.items ≡ Some final =
    ran_on app c.items new (power_on app) s h.ran ∙ done_after app past plain s p g.part m.standing e g.to m.there h.long links sent fits (packets_so_far app c) begins s taken in
    record {
      told = told;
      long = subst (λ (c : Course). length c.plain.cells ≡ length app.parts) same (length-set c.plain.cells p (reaction p g.part e c.plain.cells).cells ∙ h.long);
      model = final;
      ran = subst (λ (c : Course). after app (power_on app) c.items ≡ Some final) same ran;
      agrees = subst (λ (c : Course). Agrees app c.plain c.past final) same stands;
    }
