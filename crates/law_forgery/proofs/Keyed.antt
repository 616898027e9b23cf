-- Open ends have the keys of their connections, until a `forged` shows.
use Rattle.std.proofs.Common.{◌≡◌, ℕ, zero, suc, ◌+◌, ◌*◌, ◌%◌, ◌<◌, ◌==◌, ◌⊎◌, inl, inr, Bool, true, false, cond, ◌&&◌, if◌then◌else◌, List, [], ◌∷◌, ◌++◌}
use Rattle.std.proofs.Common.{slice_index, Option, Some, None, refl, sym, ◌∙◌, ap, subst, arith}
use Rattle.std.specs.Prelude.{slice_get}
use Rattle.std.specs.List.{list_any}
use Rattle.std.proofs.lemmas.Bool.{and_parts, eqb-true, or_left, or_right, and_from}
use Rattle.sx_trace.specs.declared.items.Item.{Item}
use Rattle.sx_trace.specs.declared.items.Item.TheVariants as item
use Rattle.sx_lang.specs.declared.sides.Side.{Side}
use Rattle.sx_lang.specs.declared.sides.Side.TheVariants.{From, To}
use Rattle.sx_mean.specs.declared.events.End.{End}
use Rattle.sx_mean.specs.Application.{PartTree}
use Rattle.sx_mean.specs.Ends.{ends_of}
use Rattle.sx_ledger.specs.declared.entry.Maker.TheVariants as maker
use Rattle.sx_rules.specs.declared.access.Violation.{Violation}
use Rattle.sx_rules.specs.declared.section.Section.{Section}
use Rattle.sx_rules.specs.Access.{Lives, section_of}
use Rattle.sx_rules.specs.Placed.{Placed}
use Rattle.sx_rules.proofs.Placing.{placed_found}
use Rattle.spec_machine.specs.declared.kinds.Event.{Event}
use Rattle.spec_machine.specs.declared.kinds.Event.TheVariants as event
use Rattle.spec_machine.specs.declared.kinds.Exchange.{Exchange}
use Rattle.spec_machine.specs.declared.kinds.Touch.{Touch}
use Rattle.spec_machine.specs.declared.kinds.Touch.TheVariants as touch
use Rattle.spec_machine.specs.State.{State}
use Rattle.spec_machine.specs.Step.{own_of, step}
use Rattle.spec_machine.specs.Acting.{Act, acted}
use Rattle.spec_machine.specs.Guarding.{FromOutside}
use Rattle.spec_machine.proofs.RunGuard.{acts_guarded}
use Rattle.spec_machine.proofs.PublicKept.{public_kept}
use Rattle.sx_image.specs.Reach.{Comes, Here, Next, Ends}
use Rattle.spec_invocation.specs.Setup.{Setup, Call}
use Rattle.spec_invocation.specs.Marks as mark
use Rattle.spec_invocation.specs.Marks.{Mark}
use Rattle.spec_invocation.specs.ModuleState.{state_of, link_of}
use Rattle.spec_invocation.specs.Progress.{Progress, Invoked}
use Rattle.spec_invocation.specs.Entries.{is_kind, header_in, end_found, end_is, end_on, side_of, field_in, second_in}
use Rattle.sx_image.specs.Watched.{Watched, watch, marks_of, marks_of_touches, marks_of_event}
use Rattle.sx_image.specs.Image.{call_at, progress_at, private_bytes, public_bytes}
use Rattle.sx_image.specs.Realizes.{Underway, Aborted, Exited}
use Rattle.spec_run.specs.Setting.{Setting, Site, is_at_site, deployed, module_of}
use Rattle.spec_run.specs.Ledger.{Made, NO_TARGET, made_entry, is_made, header_of, body_of}
use Rattle.sx_wire.specs.Headers.{is_set_key_header, link_in, epoch_in, last_in, is_event_header, value_in}
use Rattle.spec_run.specs.Observation.{has_end, is_end, side_in, has_unwrapped, event_seen, touch_items, unless_made, sender_of}
use Rattle.spec_run.specs.State.{World}
use Rattle.spec_run.specs.Acts.{after_step}
use Rattle.spec_run.specs.Law.{IsSoundSetting}
use Rattle.spec_run.proofs.tie.Ends.{same_sides}
use Rattle.spec_run.proofs.steps.Machine.{public_same}
use Rattle.spec_run.proofs.steps.Bystanders.{at_site_same, kept_bytes}
use Rattle.spec_run.proofs.steps.Foreign.{position_some}
use Rattle.spec_run.proofs.steps.Story.{read_all, Bytes}
use Rattle.law_forgery.specs.Moments.{IsAmong, NoForged}
use Rattle.law_forgery.proofs.Turns.{setup_of, turn_of, InTurn, NodeTurns}
use Rattle.law_forgery.proofs.Logging.{AllLogged}
use Rattle.law_forgery.proofs.Opening.{Told, KeyedFrom, AllMarks}
use Rattle.law_forgery.proofs.Fields.{field_key, KeyedEnds, KeyMark, Good, invoke_keyed}
use Rattle.law_forgery.proofs.Accepting.{runner_at, unwrap_told}

-- A key that is taken shows as one.

side_num : (n : ℕ) (side : Side) → side_of n ≡ Some side → ((n ≡ 0) × (side ≡ From)) ⊎ ((n ≡ 1) × (side ≡ To))
side_num zero From e = inl (refl, refl)
side_num zero To e = absurd cc
side_num (suc zero) From e = absurd cc
side_num (suc zero) To e = inr (refl, refl)
side_num (suc (suc n)) side e = absurd cc

record OnSide (link : ℕ) (es : List End) (o : Option Side) (f : ℕ × End) : Type 0 where
  side : Side
  is : o ≡ Some side
  found : end_found link side 0 es ≡ Some f

on_side : (link : ℕ) (es : List End) (o : Option Side) (f : ℕ × End) → end_on link es o ≡ Some f → OnSide link es o f
on_side link es None f e = absurd cc
on_side link es (Some side) f e = record { side = side; is = refl; found = e }

found_any : (link : ℕ) (side : Side) (j : ℕ) (es : List End) (f : ℕ × End) → end_found link side j es ≡ Some f → list_any (is_end link side) es ≡ true
found_any link side j [] f e = absurd cc
found_any link side j (x ∷ es) f e = by (end_is link side x) refl e (λ g. found_any link side (j + 1) es f g)
  where
    by : (b : Bool) → end_is link side x ≡ b → cond {A = Option (ℕ × End)} b (Some (j, x)) (end_found link side (j + 1) es) ≡ Some f
        → (end_found link side (j + 1) es ≡ Some f → list_any (is_end link side) es ≡ true)
        → list_any (is_end link side) (x ∷ es) ≡ true
    by true t e g = or_left (is_end link side x) (list_any (is_end link side) es) (ap (λ (z : Bool). (x.link == link) && z) (same_sides x.side side) ∙ t)
    by false t e g = or_right (is_end link side x) (list_any (is_end link side) es) (g e)

abbrev Shows : List End → List ℕ → Type 0
Shows es h = (is_set_key_header h ≡ true) × (list_any (is_end (link_in h) (side_in h)) es ≡ true)

six_shows : (a b c d e f : ℕ) (es : List End) (g : ℕ × End) → a ≡ 1 → b ≡ 0 → c < 256 → end_on (link_of (c + 256 * d)) es (side_of (e + 256 * f)) ≡ Some g → Shows es (a ∷ b ∷ c ∷ d ∷ e ∷ f ∷ [])
six_shows a b c d e f es g one none lt h =
    let o = on_side (link_of (c + 256 * d)) es (side_of (e + 256 * f)) g h in
    let low : (c + 256 * d) % 256 ≡ c = omega (arith, lt) in
    let found : end_found c o.side 0 es ≡ Some g = subst (λ (z : ℕ). end_found z o.side 0 es ≡ Some g) low o.found in
    elim (side_num (e + 256 * f) o.side o.is) [
      | inl z ↦
          let z0 = z.0 in
          let ez : e ≡ 0 = omega (arith, z0) in
          let fz : f ≡ 0 = omega (arith, z0) in
          subst (λ a. Shows es (a ∷ b ∷ c ∷ d ∷ e ∷ f ∷ [])) (sym one)
          (subst (λ b. Shows es (1 ∷ b ∷ c ∷ d ∷ e ∷ f ∷ [])) (sym none)
          (subst (λ e. Shows es (1 ∷ 0 ∷ c ∷ d ∷ e ∷ f ∷ [])) (sym ez)
          (subst (λ f. Shows es (1 ∷ 0 ∷ c ∷ d ∷ 0 ∷ f ∷ [])) (sym fz)
          (refl, found_any c From 0 es g (subst (λ (s : Side). end_found c s 0 es ≡ Some g) z.1 found)))))
      | inr z ↦
          let z0 = z.0 in
          let eo : e ≡ 1 = omega (arith, z0) in
          let fz : f ≡ 0 = omega (arith, z0) in
          subst (λ a. Shows es (a ∷ b ∷ c ∷ d ∷ e ∷ f ∷ [])) (sym one)
          (subst (λ b. Shows es (1 ∷ b ∷ c ∷ d ∷ e ∷ f ∷ [])) (sym none)
          (subst (λ e. Shows es (1 ∷ 0 ∷ c ∷ d ∷ e ∷ f ∷ [])) (sym eo)
          (subst (λ f. Shows es (1 ∷ 0 ∷ c ∷ d ∷ 1 ∷ f ∷ [])) (sym fz)
          (refl, found_any c To 0 es g (subst (λ (s : Side). end_found c s 0 es ≡ Some g) z.1 found)))))
    ]

packet_shows : (es : List End) (packet : List ℕ) (g : ℕ × End) → Bytes 38 packet → is_kind 1 packet ≡ true
    → end_on (link_of (field_in packet)) es (side_of (second_in packet)) ≡ Some g → Shows es (header_in packet)
packet_shows es [] g h k e = absurd (omega (arith, h.long))
packet_shows es (a ∷ []) g h k e = absurd (omega (arith, h.long))
packet_shows es (a ∷ b ∷ []) g h k e = absurd (omega (arith, h.long))
packet_shows es (a ∷ b ∷ x ∷ []) g h k e = absurd (omega (arith, h.long))
packet_shows es (a ∷ b ∷ x ∷ d ∷ []) g h k e = absurd (omega (arith, h.long))
packet_shows es (a ∷ b ∷ x ∷ d ∷ i ∷ []) g h k e = absurd (omega (arith, h.long))
packet_shows es (a ∷ b ∷ x ∷ d ∷ i ∷ f ∷ rest) g h k e =
    let p = and_parts (a == 1) (b == 0) k in
    six_shows a b x d i f es g (eqb-true a 1 p.0) (eqb-true b 0 p.1) (h.small 2) e

pub key_shows : (s : Setup) (call : Call) (p : Progress) (header body : List ℕ) → ((k : ℕ) → slice_index p.mem k < 256) → KeyedFrom s call p header body → Shows s.ends header
key_shows s call p header body small k =
    subst (Shows s.ends) (sym k.header_is) (packet_shows s.ends k.packet (k.index, k.«end») (read_all s p.devices p.mem small 38 call.input k.packet k.read) k.kind k.found)

-- Where no `forged` shows, the deployer made it.

pub among_right : (i : Item) (xs ys : List Item) → IsAmong i ys → IsAmong i (xs ++ ys)
among_right i [] ys h = h
among_right i (x ∷ xs) ys h = inr (among_right i xs ys h)

honest : (set : Setting) (w : World) (n m id : ℕ) (s : State) → NoForged (after_step set w n s).items → module_of set.sites n s (own_of s) ≡ Some m → (step set.mac s).shown.event ≡ event.Unwrapped id
    → (let x = (step set.mac s).state.exchange in Shows (ends_of set.app m) (header_of x) → is_made w.ledger (made_entry maker.Deployer m (step set.mac s).state.boot (header_of x) (body_of x)) ≡ true)
honest set w n m id s clean runs e h = by (is_made w.ledger (made_entry maker.Deployer m t.boot head body)) refl
  where
    t : State
    t = (step set.mac s).state

    head : List ℕ
    head = header_of (step set.mac s).state.exchange

    body : List ℕ
    body = body_of (step set.mac s).state.exchange

    by : (b : Bool) → is_made w.ledger (made_entry maker.Deployer m (step set.mac s).state.boot (header_of (step set.mac s).state.exchange) (body_of (step set.mac s).state.exchange)) ≡ b
        → is_made w.ledger (made_entry maker.Deployer m (step set.mac s).state.boot (header_of (step set.mac s).state.exchange) (body_of (step set.mac s).state.exchange)) ≡ true
    by true q = q
    by false q =
        let x = (step set.mac s).state.exchange in
        let r = step set.mac s in
        let shown : (is_set_key_header (header_of x) && has_end set.app m (link_in (header_of x)) (side_in (header_of x))) ≡ true =
        and_from (is_set_key_header (header_of x)) (has_end set.app m (link_in (header_of x)) (side_in (header_of x))) h.0 h.1 in
        let made = is_made w.ledger (made_entry maker.Deployer m r.state.boot (header_of x) (body_of x)) in
        let opens = item.Open m (link_in (header_of x)) (side_in (header_of x)) (epoch_in (header_of x)) in
        let rest = if is_event_header (header_of x) && has_end set.app m (link_in (header_of x)) To then unless_made (Some m)
        (is_made w.ledger (made_entry (maker.Module (sender_of set.app (link_in (header_of x)))) NO_TARGET 0 (header_of x) (body_of x)))
        (item.Take m (link_in (header_of x)) (65536 * epoch_in (header_of x) + last_in (header_of x)) (value_in (body_of x))) else [] in
        let one : IsAmong (item.Forged (Some m)) (unless_made (Some m) made opens) = subst (λ (b : Bool). IsAmong (item.Forged (Some m)) (unless_made (Some m) b opens)) (sym q) (inl refl) in
        let two : IsAmong (item.Forged (Some m)) (has_unwrapped set.app m r.state.boot (header_of x) (body_of x) w.ledger) =
        subst (λ (b : Bool). IsAmong (item.Forged (Some m)) (if b then unless_made (Some m) made opens else rest)) (sym shown) one in
        let three : IsAmong (item.Forged (Some m)) (event_seen set n (Some m) r.state w.ledger r.shown.event).items =
        subst (λ (z : Event). IsAmong (item.Forged (Some m)) (event_seen set n (Some m) r.state w.ledger z).items) (sym e) two in
        let four : IsAmong (item.Forged (Some m)) (event_seen set n (module_of set.sites n s (own_of s)) r.state w.ledger r.shown.event).items =
        subst (λ (z : Option ℕ). IsAmong (item.Forged (Some m)) (event_seen set n z r.state w.ledger r.shown.event).items) (sym runs) three in
        absurd (clean (Some m) (among_right (item.Forged (Some m)) (touch_items set.app n (module_of set.sites n s (own_of s)) r.shown.touch) _ four))

-- The marks of a step.

pub touch_marks : (set : Setting) (ts : List Touch) → AllMarks (KeyMark set) (marks_of_touches ts)
touch_marks set [] = tt
touch_marks set (touch.Quiet ∷ ts) = touch_marks set ts
touch_marks set (touch.DeviceRead k v ∷ ts) = (tt, touch_marks set ts)
touch_marks set (touch.DeviceWrite k v ∷ ts) = (tt, touch_marks set ts)

pub all_append : (P : Mark → Type 0) (a b : List Mark) → AllMarks P a → AllMarks P b → AllMarks P (a ++ b)
all_append P [] b h g = g
all_append P (x ∷ a) b h g = (h.0, all_append P a b h.1 g)

module _ (set : Setting) (w : World) (n : ℕ) (s : State) (sound : IsSoundSetting set) (all : NodeTurns set n s) (logged : AllLogged set w.ledger) (clean : NoForged (after_step set w n s).items) where
  abbrev x : Exchange
  x = (step set.mac s).state.exchange

  key_of_entry : (m : ℕ) → is_made w.ledger (made_entry maker.Deployer m (step set.mac s).state.boot (header_of x) (body_of x)) ≡ true
      → body_of x ≡ field_key set (link_in (header_of x) + 256 * epoch_in (header_of x))
  key_of_entry m made =
      let f = logged (made_entry maker.Deployer m (step set.mac s).state.boot (header_of x) (body_of x)) made in
      ap (λ (z : Made). z.body) f.1 ∙ sym (ap (λ (z : Made). field_key set (link_in z.header + 256 * epoch_in z.header)) f.1)

  key_event : (m : ℕ) (own : Section) → section_of s.sections.live (own_of s) ≡ Some own → Lives s.sections.live own → own_of s ≡ own.id
      → module_of set.sites n s (own_of s) ≡ Some m → (e : Event) → (step set.mac s).shown.event ≡ e
      → AllMarks (KeyMark set) (marks_of_event e x)
  key_event m own found lives is runs event.Quiet e = tt
  key_event m own found lives is runs (event.Reset v) e = tt
  key_event m own found lives is runs (event.Protected id) e = tt
  key_event m own found lives is runs (event.Removed id) e = tt
  key_event m own found lives is runs (event.Wrapped id) e = (tt, tt)
  key_event m own found lives is runs (event.Left id) e = tt
  key_event m own found lives is runs (event.Unwrapped id) e =
      let r = runner_at set n m s (own_of s) own found runs in
      let u = unwrap_told set n m s own r.site id sound all r.sited lives r.at is e in
      let setup = setup_of set m u.q own u.turn.before in
      (by (setup) (call_at u.turn.before) (progress_at setup u.turn.before) x.own_key u.turn.enters.node.memory.bytes u.told (λ h. key_of_entry m (honest set w n m id s clean runs e h)), tt)
    where
      by : (setup : Setup) (call : Call) (p : Progress) (own : Bool) → ((k : ℕ) → slice_index p.mem k < 256) → Told setup call p (mark.Unwrapped (header_of x) (body_of x) own)
          → (Shows setup.ends (header_of x) → body_of x ≡ field_key set (link_in (header_of x) + 256 * epoch_in (header_of x))) → KeyMark set (mark.Unwrapped (header_of x) (body_of x) own)
      by setup call p true small told f = f (key_shows setup call p (header_of x) (body_of x) small told)
      by setup call p false small told f = tt

  -- where a deployed module's code steps, the key that it takes is right
  pub key_marks : (k : ℕ) (site : Site) (sec : Section) → slice_get set.sites k ≡ Some site → Lives s.sections.live sec → is_at_site n s.mem sec site ≡ true → own_of s ≡ sec.id
      → AllMarks (KeyMark set) (marks_of (step set.mac s).shown (step set.mac s).state.exchange)
  key_marks k site sec sited lives at is =
      let found : section_of s.sections.live (own_of s) ≡ Some sec = subst (λ i. section_of s.sections.live i ≡ Some sec) (sym is) (placed_found s.sections sec all.node.placed lives) in
      by (deployed set.sites n s.mem sec) refl found
    where
      by : (o : Option ℕ) → deployed set.sites n s.mem sec ≡ o → section_of s.sections.live (own_of s) ≡ Some sec
          → AllMarks (KeyMark set) (marks_of (step set.mac s).shown (step set.mac s).state.exchange)
      by None e found = absurd (position_some (is_at_site n s.mem sec) 0 set.sites k site sited at e)
      by (Some m) e found =
          all_append (KeyMark set) (marks_of_touches (step set.mac s).shown.touch) (marks_of_event (step set.mac s).shown.event (step set.mac s).state.exchange)
          (touch_marks set (step set.mac s).shown.touch)
          (key_event m sec found lives is (ap (λ o. Rattle.std.specs.Option.option_and_then (deployed set.sites n s.mem) o) found ∙ e) (step set.mac s).shown.event refl)

-- The invariant of a node. `Past` are the states that the node had until now.

pub record KeyedTurn (set : Setting) (Past : State → Type 0) (m : ℕ) (q : PartTree) (site : Site) (sec : Section) (s : State) : Type 0 where
  pub turn : InTurn set m q site sec s
  pub stood : Past turn.before
  pub start : KeyedEnds set (ends_of set.app m) (state_of q.tree (ends_of set.app m) (private_bytes sec.layout turn.before.mem)).ends
  pub marks : AllMarks (KeyMark set) turn.seen

abbrev pub KeyedRest : Setting → ℕ → PartTree → Section → State → Type 0
KeyedRest set m q sec s = KeyedEnds set (ends_of set.app m) (state_of q.tree (ends_of set.app m) (private_bytes sec.layout s.mem)).ends

pub record NodeKeyed (set : Setting) (Past : State → Type 0) (n : ℕ) (s : State) : Type 0 where
  pub rests : (m : ℕ) (q : PartTree) (site : Site) (sec : Section) → slice_get set.app.parts m ≡ Some q → slice_get set.sites m ≡ Some site
      → Lives s.sections.live sec → is_at_site n s.mem sec site ≡ true → (s.cur ≡ sec.id → ⊥) → KeyedRest set m q sec s
  pub runs : (m : ℕ) (q : PartTree) (site : Site) (sec : Section) → slice_get set.app.parts m ≡ Some q → slice_get set.sites m ≡ Some site
      → Lives s.sections.live sec → is_at_site n s.mem sec site ≡ true → s.cur ≡ sec.id → KeyedTurn set Past m q site sec s

-- what was past is past later, too
pub later_keyed : (set : Setting) (Past Later : State → Type 0) (n : ℕ) (s : State) → ((t : State) → Past t → Later t) → NodeKeyed set Past n s → NodeKeyed set Later n s
later_keyed set Past Later n s f h = record {
  rests = h.rests;
  runs = λ m q site sec part sited lives at cur.
      let k = h.runs m q site sec part sited lives at cur in
      record { turn = k.turn; stood = f k.turn.before k.stood; start = k.start; marks = k.marks };
}

-- a section that is live before and after an act of other code
pub record Kept (n : ℕ) (s t : State) (sec : Section) : Type 0 where
  pub private : private_bytes sec.layout t.mem ≡ private_bytes sec.layout s.mem
  pub public : public_bytes sec.layout t.mem ≡ public_bytes sec.layout s.mem

pub kept_by : (set : Setting) (n : ℕ) (a : Act) (s : State) (sec : Section) → Placed s.sections → Lives s.sections.live sec → FromOutside sec a s
    → Lives (acted set.mac a s).state.sections.live sec → Kept n s (acted set.mac a s).state sec
kept_by set n a s sec placed lives from after = elim ((acts_guarded set.mac sec a s placed lives from).kept) [
  | inr r ↦ absurd (subst (λ (z : State). Lives z.sections.live sec) r after)
  | inl k ↦ elim (public_kept set.mac a s sec placed lives) [
    | inr r ↦ absurd (subst (λ (z : State). Lives z.sections.live sec) r after)
    | inl p ↦ record { private = kept_bytes sec s.mem (acted set.mac a s).state.mem k.0; public = public_same sec s.mem (acted set.mac a s).state.mem p }
  ]
]

-- a module that rests before and after
pub rest_kept : (set : Setting) (Past : State → Type 0) (n m : ℕ) (q : PartTree) (site : Site) (s t : State) (sec : Section) → NodeKeyed set Past n s
    → slice_get set.app.parts m ≡ Some q → slice_get set.sites m ≡ Some site
    → Lives s.sections.live sec → Kept n s t sec → is_at_site n t.mem sec site ≡ true → (s.cur ≡ sec.id → ⊥) → KeyedRest set m q sec t
rest_kept set Past n m q site s t sec h part sited lives k at ne =
    subst (λ (bs : List ℕ). KeyedEnds set (ends_of set.app m) (state_of q.tree (ends_of set.app m) bs).ends) (sym k.private)
    (h.rests m q site sec part sited lives (sym (at_site_same n s.mem t.mem sec site k.public) ∙ at) ne)

-- a module whose turn ended
pub ended : (set : Setting) (Past : State → Type 0) (m : ℕ) (q : PartTree) (site : Site) (sec : Section) (s : State) → (k : KeyedTurn set Past m q site sec s)
    → (own_of s ≡ sec.id → ⊥) → KeyedRest set m q sec s
ended set Past m q site sec s k out = by k.turn.bound k.turn.comes
  where
    by : (bound : ℕ) → Comes Watched Violation (watch set.mac) (λ w. 1)
        (Underway (setup_of set m q sec k.turn.before) (turn_of set m q sec k.turn.before) k.turn.before)
        (Aborted (turn_of set m q sec k.turn.before))
        (Exited (setup_of set m q sec k.turn.before) (turn_of set m q sec k.turn.before) k.turn.before) bound
        (record { node = s; marks = k.turn.seen; event = k.turn.last }) → KeyedRest set m q sec s
    by bound (Next p e c r) = absurd (out p.inside)
    by bound (Ends p e c b) = absurd (out p.inside)
    by bound (Here x) =
        let su = setup_of set m q sec k.turn.before in
        let p0 = progress_at su k.turn.before in
        let good = invoke_keyed set su (call_at k.turn.before) p0 k.start in
        let g2 = subst (λ (r : Invoked). Good set su (call_at k.turn.before) p0 r) x.returns good in
        let ends = g2 (subst (AllMarks (KeyMark set)) x.marks k.marks) in
        subst (λ (z : Rattle.spec_invocation.specs.ModuleState.ModuleState). KeyedEnds set (ends_of set.app m) z.ends) (sym x.state) ends
