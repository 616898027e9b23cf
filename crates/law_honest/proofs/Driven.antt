-- The program's honest run is the run of the honest schedule.
use Rattle.std.proofs.Common.{◌≡◌, ℕ, ◌+◌, ◌<◌, ◌≤◌, inl, inr, List, [], ◌∷◌, ◌++◌, length, map, refl, sym, ◌∙◌, ap, subst, arith}
use Rattle.std.proofs.Common.{le-ltb, lt-ltb, take, take_all}
use Rattle.std.proofs.Math.Seq.{take-append_seam}
use Rattle.std.specs.List.{All}
use Rattle.std.proofs.lemmas.List.Elements.{All-cons, All-head, All-nil, All-tail}
use Rattle.sx_trace.specs.declared.items.Item.{Item}
use Rattle.sx_mean.specs.Application.{AppTree}
use Rattle.sx_sched.specs.Lines.{Line}
use Rattle.spec_run.specs.Setting.{Setting}
use Rattle.spec_run.specs.State.{World, switched_on}
use Rattle.spec_run.specs.Run.{run}
use Rattle.sx_world.specs.Whole.{next}
use Rattle.spec_honest.specs.Plain.{MOST_DELIVERIES, Sampling}
use Rattle.spec_honest.specs.Course.{Course, IsSampling, course_start, lines_so_far}
use Rattle.spec_honest.specs.Delivers.{Delivers}
use Rattle.spec_honest.proofs.Fuel.{deliveries_are_enough}
use Rattle.law_setup.specs.Schedule.{setup_schedule}
use Rattle.law_setup.proofs.Counting.{schedule_long}
use Rattle.law_delivery.specs.Schedule.{honest_schedule, readings_lines}
use Rattle.law_delivery.proofs.Fitting.{honest_fits}
use Rattle.law_delivery.proofs.Going.{Stands}
use Rattle.law_delivery.proofs.Joined.{honest_run_delivers, honest_shows, starts}
use Rattle.sx_drive.specs.Honest.{Honest, MOST_LINES, Reading, Said, SaidItem, each, honest_run, reads, setup, start}
use Rattle.law_honest.specs.Laws.{DrivenIsHonest, HonestIsDriven, IsDriveable, IsReading, ScheduleIsSaid}
use Rattle.law_honest.specs.Samplings.{items_of, sampling_of, samplings_of, told}
use Rattle.law_honest.proofs.Playing.{Fares, Waits, cut_many, run_counts, then_fares}
use Rattle.law_honest.proofs.Staying.{each_stay, reads_stay}
use Rattle.law_honest.proofs.SettingUp.{setup_fares}
use Rattle.law_honest.proofs.Tracking.{IsPlayed, Tracks, readings_fare}
use Rattle.law_honest.proofs.First.{both_many, few_same, first_same, schedules_alike}

-- the items among what lines are told with
items_told : (is : List Item) (said : List Said) → items_of (map SaidItem is ++ said) ≡ is ++ items_of said
items_told [] said = refl
items_told (i ∷ is) said = ap (λ (zs : List Item). i ∷ zs) (items_told is said)

pub told_items : (set : Setting) (ls : List Line) (w : World) → items_of (told set w ls) ≡ (run set w ls).items
told_items set [] w = refl
told_items set (l ∷ ls) w =
    let a = next set w l in
    items_told a.items (told set a.world ls) ∙ ap (λ (zs : List Item). a.items ++ zs) (told_items set ls a.world)

-- what holds of each reading

pub are_samplings : (app : AppTree) (readings : List Reading) → All (IsReading app) readings → All (IsSampling app) (samplings_of readings)
are_samplings app [] all = All-nil (IsSampling app)
are_samplings app (r ∷ rs) all = All-cons (IsSampling app) (sampling_of r) (samplings_of rs) (All-head (IsReading app) r rs all).sampling (are_samplings app rs (All-tail (IsReading app) r rs all))

abbrev IsLow : Sampling → Type 0
IsLow r = r.value < 32768

are_low : (app : AppTree) (readings : List Reading) → All (IsReading app) readings → All IsLow (samplings_of readings)
are_low app [] all = All-nil IsLow
are_low app (r ∷ rs) all = All-cons IsLow (sampling_of r) (samplings_of rs) (All-head (IsReading app) r rs all).low (are_low app rs (All-tail (IsReading app) r rs all))

module _ (set : Setting) (readings : List Reading) (d : IsDriveable set readings) where
  abbrev rs : List Sampling
  rs = samplings_of readings

  abbrev begin : Course
  begin = course_start set.app

  abbrev lines : List Line
  lines = readings_lines set.app MOST_LINES rs begin

  abbrev Comes : Honest → Type 0
  Comes = IsPlayed set d.sound d.room d.words rs begin (0 + length rs)

  begun : (h : Honest) → h.world ≡ (run set (switched_on set) (setup_schedule set.app)).world → h.waiting ≡ [] → Tracks set begin 0 h
  begun h world waits =
      let a = run_counts set (setup_schedule set.app) (switched_on set) in
      let b = schedule_long set 0 0 set.app.parts in
      let e : h.world.lines ≡ 0 + length (setup_schedule set.app) = ap (λ (w : World). w.lines) world ∙ a in
      record {
        stands = subst (λ (w : World). Stands set w begin) (sym world) (starts set d.sound d.room d.words);
        waiting = waits;
        count = omega (arith, b, e);
        few = omega arith;
      }

  honest_fares : Fares set (switched_on set) (honest_run set readings) (setup_schedule set.app ++ lines) Comes
  honest_fares =
      then_fares set (switched_on set) (setup set (start set)) (each (reads set) readings) (setup_schedule set.app) lines (Waits []) Comes (setup_fares set d.sound d.room)
      (each_stay (reads set) (reads_stay set) readings)
      (λ played. readings_fare set d.sound d.room d.words readings begin 0 (setup set (start set)).honest played.whole (begun (setup set (start set)).honest played.world played.holds) d.are_readings)

most_is : MOST_LINES ≡ 65536
unfolding MOST_LINES
most_is = refl

pub schedule_is_said : ScheduleIsSaid
schedule_is_said set readings d =
    let rs : List Sampling = samplings_of readings in
    let w : World = switched_on set in
    let xs : List Line = setup_schedule set.app ++ readings_lines set.app MOST_LINES rs (course_start set.app) in
    let ys : List Line = honest_schedule set.app rs in
    let most = most_is in
    let few : MOST_LINES ≤ 65536 = omega (arith, most) in
    let alike = schedules_alike set rs d.room.valid (are_samplings set.app readings d.are_readings) in
    elim (honest_fares set readings d) [
      | inl cut ↦
          let more = cut_many set w (honest_run set readings) xs cut in
          let many = both_many xs ys alike (omega (arith, more)) in
          let full = cut.full in
          let size : MOST_LINES ≡ length cut.front = omega (arith, full, most) in
          let front : take MOST_LINES xs ≡ cut.front =
          ap (λ (zs : List Line). take MOST_LINES zs) cut.lines ∙ ap (λ (k : ℕ). take k (cut.front ++ cut.rest)) size ∙ take-append_seam cut.front cut.rest in
          record {
            said = cut.said ∙ ap (λ (ls : List Line). told set w ls) (sym front ∙ first_same MOST_LINES xs ys few alike);
            long = cut.long ∙ sym (lt-ltb MOST_LINES (length ys) (omega (arith, many, most)));
          }
      | inr played ↦
          let room = played.whole.room in
          let count : (honest_run set readings).honest.world.lines ≡ 0 + length xs = ap (λ (v : World). v.lines) played.world ∙ run_counts set xs w in
          let same : xs ≡ ys = few_same xs ys alike (omega (arith, room, count)) in
          let as_long : length xs ≡ length ys = ap (λ (zs : List Line). length zs) same in
          let within : length ys ≤ MOST_LINES = omega (arith, room, count, as_long, most) in
          record {
            said = played.said ∙ ap (λ (ls : List Line). told set w ls) (same ∙ sym (take_all MOST_LINES ys within));
            long = played.whole.uncut ∙ sym (le-ltb MOST_LINES (length ys) within);
          }
    ]

pub honest_is_driven : HonestIsDriven
honest_is_driven set readings c d h =
    let rs : List Sampling = samplings_of readings in
    let ls : List Line = honest_schedule set.app rs in
    let low = are_low set.app readings d.are_readings in
    let says = schedule_is_said set readings d in
    let most = most_is in
    let few = h.lines in
    let long = (honest_fits set rs c h low).lines in
    let within : length ls ≤ MOST_LINES = omega (arith, most, few, long) in
    let said : (honest_run set readings).said ≡ told set (switched_on set) ls = says.said ∙ ap (λ (zs : List Line). told set (switched_on set) zs) (take_all MOST_LINES ls within) in
    let shown : items_of (honest_run set readings).said ≡ (run set (switched_on set) ls).items = ap items_of said ∙ told_items set ls (switched_on set) in
    record {
      uncut = says.long ∙ le-ltb MOST_LINES (length ls) within;
      said = said;
      items = shown ∙ honest_shows set rs c d.sound d.room d.words h low;
      delivers = subst (λ (items : List Item). Delivers set.app rs items) (sym shown) (honest_run_delivers set rs c d.sound d.room d.words h low);
    }

pub driven_is_honest : DrivenIsHonest
driven_is_honest set readings d uncut = elim (honest_fares set readings d) [
  | inl cut ↦ absurd (let long = cut.long in cc)
  | inr played ↦
      let rs : List Sampling = samplings_of readings in
      let c : Course = played.holds.course in
      let count : (honest_run set readings).honest.world.lines ≡ lines_so_far set.app (0 + length rs) c = played.holds.tracks.count in
      let room = played.whole.room in
      let zeroth : 0 + length rs ≡ length rs = omega arith in
      let few : lines_so_far set.app (0 + length rs) c ≤ 65536 = omega (arith, count, room) in
      let lines : lines_so_far set.app (length rs) c ≤ 65536 = subst (λ (i : ℕ). lines_so_far set.app i c ≤ 65536) zeroth few in
      let same : MOST_DELIVERIES ≤ MOST_DELIVERIES = omega arith in (
        c,
        record {
          valid = d.room.valid;
          readings = are_samplings set.app readings d.are_readings;
          course = deliveries_are_enough set.app MOST_LINES MOST_DELIVERIES rs c played.holds.comes lines same;
          lines = lines;
        },
      )
]
