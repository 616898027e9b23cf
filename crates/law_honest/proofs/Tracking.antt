-- How far the program's honest run is, and that its readings and deliveries follow the course.
use Rattle.std.proofs.Common.{◌≡◌, ℕ, zero, suc, ◌+◌, ◌*◌, ◌≤◌, ◌==◌, inl, inr, Bool, true, if◌then◌else◌, List, [], ◌∷◌, ◌++◌, length, length-append, Option}
use Rattle.std.proofs.Common.{Some, None, slice_get, append_assoc, refl, sym, ◌∙◌, ap, subst, arith}
use Rattle.std.specs.Prelude.{cond, option_and_then, option_map, slice_index_or}
use Rattle.std.specs.List.{All, position_from}
use Rattle.std.proofs.lemmas.Bool.{cases_eq, eq-eqb, ne_eqb}
use Rattle.std.proofs.lemmas.List.Elements.{All-head, All-tail}
use Rattle.sx_mean.specs.declared.apps.Link.{Link}
use Rattle.sx_mean.specs.declared.events.Act.{Act}
use Rattle.sx_mean.specs.declared.events.SourceEvent.{SourceEvent}
use Rattle.sx_mean.specs.declared.events.SourceEvent.TheVariants as event
use Rattle.sx_mean.specs.Application.{AppTree, PartTree}
use Rattle.sx_mean.specs.Validity.{is_valid, same_device}
use Rattle.sx_trace.specs.declared.items.Item.{Item}
use Rattle.sx_trace.specs.declared.items.Item.TheVariants as item
use Rattle.sx_sched.specs.Lines.{Line, Call, Give, Sense}
use Rattle.spec_run.specs.Setting.{Setting}
use Rattle.spec_run.specs.State.{World, Acted}
use Rattle.spec_run.specs.Law.{IsLawfulSetting}
use Rattle.sx_world.specs.Whole.{next}
use Rattle.spec_honest.specs.Plain.{Sampling, Waiting, acts_emit, acts_send, is_still, reaction, oldest as oldest_value}
use Rattle.spec_honest.specs.Course.{Course, IsSampling, count_over, delivered, lines_so_far, packets_so_far, played, sensed, settled, setup_lines, setup_packets}
use Rattle.spec_honest.proofs.AsPlain.{Drives, Goes, driver, goes}
use Rattle.spec_honest.proofs.Course.{total}
use Rattle.law_setup.specs.Laws.{HasRoom}
use Rattle.law_setup.proofs.forms.ByLine.{shown_by}
use Rattle.law_delivery.specs.Laws.{HaveWords}
use Rattle.law_delivery.specs.Schedule.{delivery_lines, reading_lines, readings_lines, settling_lines, take_lines}
use Rattle.law_delivery.proofs.ByLine.{call_shown, delivery_shown, reading_shown}
use Rattle.law_delivery.proofs.Effects.{sends_few}
use Rattle.law_delivery.proofs.Fitting.{delivered_waits, delivery_is, delivery_long, delivery_shown_is, reading_is, reading_long, reading_shown_is, sensed_waits}
use Rattle.law_delivery.proofs.Going.{Leads, Stands}
use Rattle.law_delivery.proofs.Oldest.{IsOldest, oldest_there}
use Rattle.law_delivery.proofs.Received.{delivery_leads}
use Rattle.law_delivery.proofs.Sampled.{reading_leads}
use Rattle.sx_drive.specs.Honest.{Callee, Driven, Honest, MOST_LINES, Reading, Said, callee_at, delivers, driver_of, each, if_there, oldest, reads, receiver_of}
use Rattle.sx_drive.specs.Honest.{receives, samples, says, settles, target_of, then_, with_waiting}
use Rattle.law_honest.specs.Laws.{IsReading}
use Rattle.law_honest.specs.Samplings.{sampling_of, samplings_of}
use Rattle.law_honest.proofs.Playing.{Fares, IsWhole, Plays, Shows, Waits, fares_as, run_counts, says_fares, still_fares, then_fares}
use Rattle.law_honest.proofs.Staying.{each_stay, reads_stay, samples_stay, settles_stay, there_stays}
use Rattle.law_honest.proofs.Handing.{made_outs, numbers, numbers_append, receives_fares, rest_of, samples_fares}
use Rattle.law_honest.proofs.Enough.{most_lines, still_at}
use Rattle.sx_model.specs.State.{contains}

-- It is as far as a course after so many readings: the packets of the values on their way wait in order. No event sends more than 16
-- values.
pub record Tracks (set : Setting) (c : Course) (k : ℕ) (h : Honest) : Type 0 where
  pub stands : Stands set h.world c
  pub waiting : h.waiting ≡ numbers (setup_packets set.app + length c.past) (length c.plain.waiting)
  pub count : h.world.lines ≡ lines_so_far set.app k c
  pub few : total c ≤ 16 * (k + length c.past)

-- so there is room for the numbers of what one more event sends
room_for : (u k p w : ℕ) → u + 2 * k + 3 * p + w ≤ 65536 → p + w ≤ 16 * (k + p) → p + w + 16 ≤ 65535
room_for u k p w a b = omega (arith, a, b)

tracks_on : (set : Setting) (h : Honest) (d : Driven) (ls : List Line) (shown : List (List Item)) (c e : Course) (k j : ℕ) (P : Honest → Type 0)
    → Leads set h.world ls shown c e → h.world.lines ≡ lines_so_far set.app k c
    → length ls + lines_so_far set.app k c ≡ lines_so_far set.app j e → total e ≤ 16 * (j + length e.past) → Plays set h.world d ls P
    → d.honest.waiting ≡ numbers (setup_packets set.app + length e.past) (length e.plain.waiting) → Tracks set e j d.honest
tracks_on set h d ls shown c e k j P leads count long few played waits =
    let lines : d.honest.world.lines ≡ h.world.lines + length ls = ap (λ (v : World). v.lines) played.world ∙ run_counts set ls h.world in
    record {
      stands = subst (λ (v : World). Stands set v e) (sym (played.world ∙ ap (λ (r : Acted). r.world) leads.is)) leads.stands;
      waiting = waits;
      count = all d.honest.world.lines h.world.lines (length ls) (lines_so_far set.app k c) (lines_so_far set.app j e) lines count long;
      few = few;
    }
  where
    all : (x y n a b : ℕ) → x ≡ y + n → y ≡ a → n + a ≡ b → x ≡ b
    all x y n a b p q r = omega (arith, p, q, r)

then_assoc : (a : Driven) (f g : Honest → Driven) → then_ (then_ a f) g ≡ then_ a (λ h. then_ (f h) g)
then_assoc a f g = ap (λ (zs : List Said). record { honest = (g (f a.honest).honest).honest; said = zs }) (append_assoc a.said (f a.honest).said (g (f a.honest).honest).said)

-- the driver of a sensor, in two words

turned : (a b : ℕ) → (a == b) ≡ (b == a)
turned a b = elim (cases_eq a b) [
  | inl e ↦ eq-eqb a b e ∙ sym (eq-eqb b a (sym e))
  | inr apart ↦ ne_eqb a b apart ∙ sym (ne_eqb b a (λ e. apart (sym e)))
]

device_same : (d : ℕ) (o : Option ℕ) → same_device (Some d) o ≡ contains o d
device_same d None = refl
device_same d (Some x) = turned d x

pub drivers_same : (d i : ℕ) (qs : List PartTree) → position_from (λ (q : PartTree). same_device (Some d) q.device) i qs ≡ position_from (λ (q : PartTree). contains q.device d) i qs
drivers_same d i [] = refl
drivers_same d i (q ∷ qs) =
    ap (λ (b : Bool). cond b (Some i) (position_from (λ (q : PartTree). same_device (Some d) q.device) (i + 1) qs)) (device_same d q.device)
    ∙ ap (λ (o : Option ℕ). cond (contains q.device d) (Some i) o) (drivers_same d (i + 1) qs)

module _ (set : Setting) (sound : IsLawfulSetting set) (room : HasRoom set) (words : HaveWords set.app) where
  abbrev app : AppTree
  app = set.app

  abbrev valid : is_valid set.app ≡ true
  valid = room.valid

  -- A delivery.
  module _ (c : Course) (k : ℕ) (h : Honest) (whole : IsWhole h) (t : Tracks set c k h) (x : Waiting) (ws : List Waiting) (waits : c.plain.waiting ≡ x ∷ ws) where
    abbrev number : ℕ
    number = setup_packets set.app + length c.past

    abbrev others : List ℕ
    others = numbers (number + 1) (length ws)

    old : IsOldest set h.world c x
    old = oldest_there set sound c h.world t.stands x ws waits

    abbrev g : Goes set.app x.link
    g = goes set.app x.link valid old.linked

    abbrev input : SourceEvent
    input = event.Input g.link.input x.value

    abbrev acts : List Act
    acts = (reaction g.link.to g.part input c.plain.cells).acts

    abbrev new : ℕ
    new = length (acts_send set.app.links g.link.to acts)

    abbrev e : Course
    e = delivered set.app x ws c

    abbrev receiver : Callee
    receiver = record { part = g.link.to; node = g.part.node }

    receiver_is : option_and_then (receiver_of set.app) (slice_get h.world.packets number) ≡ Some receiver
    receiver_is =
        ap (λ (o : Option (List ℕ)). option_and_then (receiver_of set.app) o) old.there ∙ ap (λ (o : Option ℕ). option_and_then (target_of set.app) o) old.third
        ∙ ap (λ (o : Option Link). option_and_then (λ (l : Link). callee_at set.app l.to) o) g.there
        ∙ ap (λ (o : Option PartTree). option_map (λ (q : PartTree). record { part = g.link.to; node = q.node }) o) g.to

    sixteen : new ≤ 16
    sixteen = sends_few set.app g.link.to g.part valid g.to input (slice_index_or c.plain.cells g.link.to [])

    past_long : length e.past ≡ length c.past + 1
    past_long = length-append c.past (x ∷ [])

    old_long : length c.plain.waiting ≡ suc (length ws)
    old_long = ap (λ (zs : List Waiting). length zs) waits

    new_long : length e.plain.waiting ≡ length ws + new
    new_long = delivered_waits set valid x ws c waits old.linked

    room_then : total e ≤ 65535
    room_then =
        let fits : lines_so_far set.app k c ≤ 65536 = (let a = t.count in let b = whole.room in omega (arith, a, b)) in
        let left = room_for (setup_lines set.app) k (length c.past) (length c.plain.waiting) fits t.few in
        let a = past_long in
        let b = old_long in
        let d = new_long in
        let f = sixteen in
        omega (arith, left, a, b, d, f)

    few_then : total e ≤ 16 * (k + length e.past)
    few_then =
        let a = past_long in
        let b = old_long in
        let d = new_long in
        let f = sixteen in
        let few = t.few in
        omega (arith, few, a, b, d, f)

    leads : Leads set h.world (delivery_lines set.app x c) (delivery_shown set.app x c) c e
    leads = delivery_leads set sound room words c h.world t.stands x ws waits room_then

    abbrev begins : Item
    begins = item.Take g.link.to x.link (count_over x.link c.past) x.value

    abbrev lines : List Line
    lines = Give number g.part.node 0x40 ∷ Call g.link.to 2 0x40 0x80 ∷ take_lines g.part.node 0x80 new

    lines_are : lines ≡ delivery_lines set.app x c
    lines_are = delivery_is set valid x ws c waits old.linked

    shown_there : shown_by set h.world lines ≡ [] ∷ call_shown g.link.to begins (acts_emit acts) new (packets_so_far set.app c)
    shown_there = ap (λ (ls : List Line). shown_by set h.world ls) lines_are ∙ leads.each ∙ sym (delivery_shown_is set valid x ws c waits old.linked)

    wait_then : others ++ numbers (packets_so_far set.app c) new ≡ numbers (setup_packets set.app + length e.past) (length e.plain.waiting)
    wait_then =
        let a = old_long in
        let b = past_long in
        let at : packets_so_far set.app c ≡ number + 1 + length ws = omega (arith, a) in
        let first : number + 1 ≡ setup_packets set.app + length e.past = omega (arith, b) in
        ap (λ (n : ℕ). others ++ numbers n new) at ∙ numbers_append (number + 1) (length ws) new ∙ ap (λ (n : ℕ). numbers n (length ws + new)) first
        ∙ ap (λ (n : ℕ). numbers (setup_packets set.app + length e.past) n) (sym new_long)

    waits_now : h.waiting ≡ number ∷ others
    waits_now = t.waiting ∙ ap (λ (n : ℕ). numbers number n) old_long

    abbrev begun : Honest
    begun = with_waiting h others

    received : Fares set h.world (receives set number receiver begun) lines (Waits (others ++ numbers (packets_so_far set.app c) new))
    received =
        receives_fares set receiver begins (acts_emit acts) new (packets_so_far set.app c) (made_outs g.link.to new (acts_emit acts) sixteen) number begun
        (record { uncut = whole.uncut; room = whole.room }) shown_there

    delivers_fares : Fares set h.world (delivers set number begun) (delivery_lines set.app x c) (Tracks set e k)
    delivers_fares =
        let ls : List Line = delivery_lines set.app x c in
        let P : Honest → Type 0 = Waits (others ++ numbers (packets_so_far set.app c) new) in
        let d : Driven = receives set number receiver begun in
        let plays : Fares set h.world d ls P = subst (λ (zs : List Line). Fares set h.world d zs P) lines_are received in
        subst (λ (o : Option Callee). Fares set h.world (if_there (receives set number) o begun) ls (Tracks set e k)) (sym receiver_is)
        (fares_as set h.world d ls P (Tracks set e k)
        (λ played. tracks_on set h d ls (delivery_shown set.app x c) c e k k P leads t.count (delivery_long set valid x ws c waits old.linked k) few_then played (played.holds ∙ wait_then)) plays)

  -- At most n deliveries.
  settles_fares : (n : ℕ) (c : Course) (k : ℕ) (h : Honest) → IsWhole h → Tracks set c k h → Fares set h.world (settles set n h) (settling_lines app n c) (Tracks set (settled app n c) k)
  settles_fares zero c k h whole t = still_fares set h (Tracks set c k) whole t
  settles_fares (suc n) c k h whole t = go c.plain.waiting refl (λ d g w u. settles_fares n d k g w u)
    where
      go : (xs : List Waiting) → c.plain.waiting ≡ xs → ((d : Course) (g : Honest) → IsWhole g → Tracks set d k g
          → Fares set g.world (settles set n g) (settling_lines app n d) (Tracks set (settled app n d) k))
          → Fares set h.world (oldest set (settles set n) h.waiting h) (oldest_value [] (λ x ws. delivery_lines app x c ++ settling_lines app n
          (delivered app x ws c)) xs) (Tracks set (oldest_value c (λ x ws. settled app n (delivered app x ws c)) xs) k)
      go [] e more =
          let none : h.waiting ≡ [] = t.waiting ∙ ap (λ (zs : List Waiting). numbers (setup_packets set.app + length c.past) (length zs)) e in
          subst (λ (ks : List ℕ). Fares set h.world (oldest set (settles set n) ks h) [] (Tracks set c k)) (sym none) (still_fares set h (Tracks set c k) whole t)
      go (x ∷ ws) e more =
          let d : Course = delivered app x ws c in
          let first = setup_packets set.app + length c.past in
          let rest = numbers (first + 1) (length ws) in
          let a : Driven = delivers set first (with_waiting h rest) in
          subst (λ (ks : List ℕ). Fares set h.world (oldest set (settles set n) ks h) (delivery_lines app x c ++ settling_lines app n d)
          (Tracks set (settled app n d) k)) (sym (waits_now c k h whole t x ws e))
          (then_fares set h.world a (settles set n) (delivery_lines app x c) (settling_lines app n d) (Tracks set d k) (Tracks set (settled app n d) k)
          (delivers_fares c k h whole t x ws e) (settles_stay set n)
          (λ played. more d a.honest played.whole played.holds))

  -- A reading.
  module _ (r : Reading) (c : Course) (k : ℕ) (h : Honest) (whole : IsWhole h) (t : Tracks set c k h) (of : IsReading set.app r) where
    abbrev is : IsSampling set.app (sampling_of r)
    is = of.sampling

    abbrev s : Sampling
    s = sampling_of r

    abbrev d : Drives set.app r.device is.driver
    d = driver set.app r.device is.driver is.driven

    abbrev sample : SourceEvent
    sample = event.Sample r.value

    abbrev acts_then : List Act
    acts_then = (reaction is.driver d.part sample c.plain.cells).acts

    abbrev made : ℕ
    made = length (acts_send set.app.links is.driver acts_then)

    abbrev after : Course
    after = sensed set.app s c

    abbrev called : Callee
    called = record { part = is.driver; node = d.part.node }

    called_is : driver_of set.app r.device ≡ Some called
    called_is =
        ap (λ (o : Option ℕ). option_and_then (callee_at set.app) o) (drivers_same r.device 0 set.app.parts ∙ is.driven)
        ∙ ap (λ (o : Option PartTree). option_map (λ (q : PartTree). record { part = is.driver; node = q.node }) o) d.there

    few_made : made ≤ 16
    few_made = sends_few set.app is.driver d.part valid d.there sample (slice_index_or c.plain.cells is.driver [])

    made_long : length after.plain.waiting ≡ length c.plain.waiting + made
    made_long = sensed_waits set valid s c is

    room_after : total after ≤ 65535
    room_after =
        let fits : lines_so_far set.app k c ≤ 65536 = (let a = t.count in let b = whole.room in omega (arith, a, b)) in
        let left = room_for (setup_lines set.app) k (length c.past) (length c.plain.waiting) fits t.few in
        let a = made_long in
        let b = few_made in
        omega (arith, left, a, b)

    few_after : total after ≤ 16 * (k + 1 + length after.past)
    few_after =
        let a = made_long in
        let b = few_made in
        let few = t.few in
        omega (arith, few, a, b)

    leads_after : Leads set h.world (reading_lines set.app s c) (reading_shown set.app s c) c after
    leads_after = reading_leads set sound room words c h.world t.stands s is of.low room_after

    abbrev sense : Line
    sense = Sense r.device r.value

    abbrev calling : List Line
    calling = Call is.driver 3 0x40 0x80 ∷ take_lines d.part.node 0x80 made

    calling_are : sense ∷ calling ≡ reading_lines set.app s c
    calling_are = reading_is set valid s c is

    shown_after : shown_by set h.world (sense ∷ calling) ≡ (item.Sense r.device r.value ∷ []) ∷ call_shown is.driver (item.Read is.driver r.value) (acts_emit acts_then) made (packets_so_far set.app c)
    shown_after = ap (λ (ls : List Line). shown_by set h.world ls) calling_are ∙ leads_after.each ∙ sym (reading_shown_is set valid s c is)

    wait_after : h.waiting ++ numbers (packets_so_far set.app c) made ≡ numbers (setup_packets set.app + length after.past) (length after.plain.waiting)
    wait_after =
        ap (λ (zs : List ℕ). zs ++ numbers (packets_so_far set.app c) made) t.waiting ∙ numbers_append (setup_packets set.app + length c.past) (length c.plain.waiting) made
        ∙ ap (λ (n : ℕ). numbers (setup_packets set.app + length c.past) n) (sym made_long)

    abbrev sampling : Honest → Driven
    sampling g = if_there (samples set) (driver_of set.app r.device) g

    abbrev sensing : Driven
    sensing = then_ (says set sense h) sampling

    sampled : (g : Honest) → IsWhole g → g.waiting ≡ h.waiting → g.world ≡ (next set h.world sense).world
        → Fares set g.world (sampling g) calling (Waits (h.waiting ++ numbers (packets_so_far set.app c) made))
    sampled g whole waits world =
        let Q : Honest → Type 0 = Waits (h.waiting ++ numbers (packets_so_far set.app c) made) in
        let shown : shown_by set g.world calling ≡ call_shown is.driver (item.Read is.driver r.value) (acts_emit acts_then) made (packets_so_far set.app c) =
        ap (λ (v : World). shown_by set v calling) world ∙ ap rest_of shown_after in
        subst (λ (o : Option Callee). Fares set g.world (if_there (samples set) o g) calling Q) (sym called_is)
        (fares_as set g.world (samples set called g) calling (Waits (g.waiting ++ numbers (packets_so_far set.app c) made)) Q
        (λ more. more.holds ∙ ap (λ (zs : List ℕ). zs ++ numbers (packets_so_far set.app c) made) waits)
        (samples_fares set called (item.Read is.driver r.value) (acts_emit acts_then) made (packets_so_far set.app c) (made_outs is.driver made (acts_emit acts_then) few_made) g whole shown))

    sensing_fares : Fares set h.world sensing (reading_lines set.app s c) (Tracks set after (k + 1))
    sensing_fares =
        let ls : List Line = reading_lines set.app s c in
        let P : Honest → Type 0 = Waits (h.waiting ++ numbers (packets_so_far set.app c) made) in
        let plays : Fares set h.world sensing (sense ∷ calling) P =
        then_fares set h.world (says set sense h) sampling (sense ∷ []) calling (Shows h.waiting (next set h.world sense).items) P (says_fares set sense h whole)
        (there_stays (samples set) (samples_stay set) (driver_of set.app r.device))
        (λ played. sampled (says set sense h).honest played.whole played.holds.waiting played.world) in
        fares_as set h.world sensing ls P (Tracks set after (k + 1))
        (λ played. tracks_on set h sensing ls (reading_shown set.app s c) c after k (k + 1) P leads_after t.count (reading_long set valid s c is k) few_after played (played.holds ∙ wait_after))
        (subst (λ (zs : List Line). Fares set h.world sensing zs P) calling_are plays)

    reads_fares : Fares set h.world (reads set r h) (reading_lines set.app s c ++ settling_lines set.app MOST_LINES after) (Tracks set (settled set.app MOST_LINES after) (k + 1))
    reads_fares =
        let ls : List Line = reading_lines set.app s c in
        let more : List Line = settling_lines set.app MOST_LINES after in
        let Q : Honest → Type 0 = Tracks set (settled set.app MOST_LINES after) (k + 1) in
        subst (λ (z : Driven). Fares set h.world z (ls ++ more) Q) (then_assoc (says set sense h) sampling (settles set MOST_LINES))
        (then_fares set h.world sensing (settles set MOST_LINES) ls more (Tracks set after (k + 1)) Q sensing_fares (settles_stay set MOST_LINES)
        (λ played. settles_fares MOST_LINES after (k + 1) sensing.honest played.whole played.holds))

  -- All readings: after them nothing waits any more.
  pub record IsPlayed (rs : List Sampling) (c : Course) (k : ℕ) (h : Honest) : Type 0 where
    pub course : Course
    pub comes : played app MOST_LINES rs c ≡ Some course
    pub tracks : Tracks set course k h

  pub readings_fare : (rs : List Reading) (c : Course) (k : ℕ) (h : Honest) → IsWhole h → Tracks set c k h → All (IsReading app) rs
      → Fares set h.world (each (reads set) rs h) (readings_lines app MOST_LINES (samplings_of rs) c) (IsPlayed (samplings_of rs) c (k + length (samplings_of rs)))
  readings_fare [] c k h whole t all =
      let none : k ≡ k + 0 = omega arith in
      still_fares set h (IsPlayed [] c (k + 0)) whole (record { course = c; comes = refl; tracks = subst (λ (i : ℕ). Tracks set c i h) none t })
  readings_fare (r ∷ rs) c k h whole t all =
      let s : Sampling = sampling_of r in
      let ss : List Sampling = samplings_of rs in
      let b : Course = sensed app s c in
      let e : Course = settled app MOST_LINES b in
      let g : Honest = (reads set r h).honest in
      let ls : List Line = reading_lines app s c in
      let ms : List Line = settling_lines app MOST_LINES b in
      let ns : List Line = readings_lines app MOST_LINES ss e in
      let next_k : k + 1 + length ss ≡ k + suc (length ss) = omega arith in
      let Q : Honest → Type 0 = IsPlayed (s ∷ ss) c (k + suc (length ss)) in
      then_fares set h.world (reads set r h) (each (reads set) rs) (ls ++ ms) ns (Tracks set e (k + 1)) Q
      (reads_fares r c k h whole t (All-head (IsReading app) r rs all)) (each_stay (reads set) (reads_stay set) rs)
      (λ first.
      let fits : lines_so_far app (k + 1) e ≤ 65536 = (let a = first.holds.count in let b = first.whole.room in omega (arith, a, b)) in
      let still : e.plain.waiting ≡ [] = still_at app MOST_LINES (k + 1) b most_lines fits in
      fares_as set g.world (each (reads set) rs g) ns (IsPlayed ss e (k + 1 + length ss)) Q
      (λ rest. record {
        course = rest.holds.course;
        comes = ap (λ (zs : List Waiting). if is_still zs then played app MOST_LINES ss e else None) still ∙ rest.holds.comes;
        tracks = subst (λ (i : ℕ). Tracks set rest.holds.course i (each (reads set) rs g).honest) next_k rest.holds.tracks;
      })
      (readings_fare rs e (k + 1) g first.whole first.holds (All-tail (IsReading app) r rs all)))
