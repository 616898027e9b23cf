-- The lines of an honest run show the items of its course.
use Rattle.std.proofs.Common.{◌≡◌, ℕ, zero, suc, ◌+◌, ◌*◌, ◌<◌, ◌≤◌, true, List, [], ◌∷◌, ◌++◌, length, Some, zero-add, refl, sym, ◌∙◌, ap, subst, arith}
use Rattle.std.specs.List.{All}
use Rattle.std.proofs.lemmas.List.{append-nil}
use Rattle.std.proofs.lemmas.List.Elements.{All-head, All-tail}
use Rattle.std.proofs.lemmas.Option.{same_Some}
use Rattle.sx_mean.specs.Application.{AppTree}
use Rattle.sx_mean.specs.Validity.{is_valid}
use Rattle.sx_trace.specs.declared.items.Item.{Item}
use Rattle.spec_run.specs.Setting.{Setting}
use Rattle.spec_run.specs.State.{World, Acted, switched_on}
use Rattle.spec_run.specs.Run.{run}
use Rattle.spec_run.specs.Law.{IsLawfulSetting}
use Rattle.spec_honest.specs.Plain.{MOST_DELIVERIES, Sampling, Waiting, oldest}
use Rattle.spec_honest.specs.Course.{Course, IsSampling, course_start, delivered, lines_so_far, played, sensed, settled, setup_lines}
use Rattle.spec_honest.specs.Delivers.{Delivers}
use Rattle.spec_honest.proofs.AsPlain.{told_delivered, told_sensed, told_start}
use Rattle.spec_honest.proofs.Course.{played_on}
use Rattle.spec_honest.proofs.Honest.{honest_delivers}
use Rattle.law_setup.specs.Laws.{HasRoom}
use Rattle.law_setup.specs.Schedule.{setup_schedule}
use Rattle.law_setup.proofs.Runs.{run_append}
use Rattle.law_setup.proofs.SetUp.{is_set_up}
use Rattle.law_delivery.specs.Laws.{HaveWords, HonestRunDelivers, HonestShows}
use Rattle.law_delivery.specs.Schedule.{delivery_lines, reading_lines, readings_lines, settling_lines}
use Rattle.law_delivery.proofs.ByLine.{delivery_shown, reading_shown, readings_shown, settling_shown}
use Rattle.law_delivery.proofs.Fitting.{readings_fit, settling_fits}
use Rattle.law_delivery.proofs.Going.{Leads, Stands, leads_on}
use Rattle.law_delivery.proofs.InWords.{words_start}
use Rattle.law_delivery.proofs.Received.{delivery_leads}
use Rattle.law_delivery.proofs.Sampled.{reading_leads}

-- so many lines leave room for the values' numbers
room_left : (u k p w : ℕ) → u + 2 * (k + 1) + 3 * p + w ≤ 65536 → p + w ≤ 65535
room_left u k p w h = omega (arith, h)

-- what ends within the lines begins within them
began : (x a b : ℕ) → x + a ≡ b → b ≤ 65536 → a ≤ 65536
began x a b e h = omega (arith, e, h)

module _ (set : Setting) (sound : IsLawfulSetting set) (room : HasRoom set) (words : HaveWords set.app) where
  abbrev app : AppTree
  app = set.app

  abbrev valid : is_valid set.app ≡ true
  valid = room.valid

  pub leads_none : (c : Course) (w : World) → Stands set w c → Leads set w [] [] c c
  leads_none c w h = record { world = w; items = []; is = refl; each = refl; more = sym (append-nil c.items); stands = h }

  pub settling_leads : (n k : ℕ) (c : Course) (w : World) → Stands set w c → lines_so_far app (k + 1) (settled app n c) ≤ 65536
      → Leads set w (settling_lines app n c) (settling_shown app n c) c (settled app n c)
  settling_leads zero k c w h few = leads_none c w h
  settling_leads (suc n) k c w h few = go c.plain.waiting refl (λ d v t b. settling_leads n k d v t b) few
    where
      go : (xs : List Waiting) → c.plain.waiting ≡ xs
          → ((d : Course) (v : World) → Stands set v d → lines_so_far app (k + 1) (settled app n d) ≤ 65536 → Leads set v (settling_lines app n d) (settling_shown app n d) d (settled app n d))
          → lines_so_far app (k + 1) (oldest c (λ x ws. settled app n (delivered app x ws c)) xs) ≤ 65536
          → Leads set w (oldest [] (λ x ws. delivery_lines app x c ++ settling_lines app n (delivered app x ws c)) xs) (oldest []
          (λ x ws. delivery_shown app x c ++ settling_shown app n (delivered app x ws c)) xs) c (oldest c (λ x ws. settled app n (delivered app x ws c)) xs)
      go [] e more few = leads_none c w h
      go (x ∷ ws) e more few =
          let d = delivered app x ws c in
          let fit = settling_fits set valid n (k + 1) d (told_delivered app x ws c valid e h.told) in
          let there : lines_so_far app (k + 1) d ≤ 65536 = began (length (settling_lines app n d)) (lines_so_far app (k + 1) d) (lines_so_far app (k + 1) (settled app n d)) fit.0.long few in
          let first = delivery_leads set sound room words c w h x ws e (room_left (setup_lines app) k (length d.past) (length d.plain.waiting) there) in
          leads_on set w (delivery_lines app x c) (settling_lines app n d) (delivery_shown app x c) (settling_shown app n d) c d (settled app n d) first (more d first.world first.stands few)

  pub readings_lead : (n k : ℕ) (rs : List Sampling) (c d : Course) (w : World) → All (IsSampling app) rs → All (λ (r : Sampling). r.value < 32768) rs → Stands set w c → played app n rs c ≡ Some d
      → lines_so_far app (k + length rs) d ≤ 65536 → Leads set w (readings_lines app n rs c) (readings_shown app n rs c) c d
  readings_lead n k [] c d w all low h p few = subst (λ (e : Course). Leads set w [] [] c e) (same_Some c d p) (leads_none c w h)
  readings_lead n k (r ∷ rs) c d w all low h p few =
      let is = All-head (IsSampling app) r rs all in
      let small : r.value < 32768 = All-head (λ (r : Sampling). r.value < 32768) r rs low in
      let s = sensed app r c in
      let e = settled app n s in
      let on = played_on app n rs e d p in
      let next : k + suc (length rs) ≡ k + 1 + length rs = omega arith in
      let last : lines_so_far app (k + 1 + length rs) d ≤ 65536 = subst (λ (i : ℕ). lines_so_far app i d ≤ 65536) next few in
      let deliveries = settling_fits set valid n (k + 1) s (told_sensed app r c is h.told) in
      let rest = readings_fit set valid n (k + 1) rs e d (All-tail (IsSampling app) r rs all) (All-tail (λ (r : Sampling). r.value < 32768) r rs low) deliveries.1 on.more in
      let at_e : lines_so_far app (k + 1) e ≤ 65536 = began (length (readings_lines app n rs e)) (lines_so_far app (k + 1) e) (lines_so_far app (k + 1 + length rs) d) rest.long last in
      let at_s : lines_so_far app (k + 1) s ≤ 65536 = began (length (settling_lines app n s)) (lines_so_far app (k + 1) s) (lines_so_far app (k + 1) e) deliveries.0.long at_e in
      let first = reading_leads set sound room words c w h r is small (room_left (setup_lines app) k (length s.past) (length s.plain.waiting) at_s) in
      let second = settling_leads n k s first.world first.stands at_e in
      let both = leads_on set w (reading_lines app r c) (settling_lines app n s) (reading_shown app r c) (settling_shown app n s) c s e first second in
      leads_on set w (reading_lines app r c ++ settling_lines app n s) (readings_lines app n rs e) (reading_shown app r c ++ settling_shown app n s) (readings_shown app n rs e) c e d both
      (readings_lead n (k + 1) rs e d both.world (All-tail (IsSampling app) r rs all) (All-tail (λ (r : Sampling). r.value < 32768) r rs low) both.stands on.more last)

-- after the set-up
pub starts : (set : Setting) → IsLawfulSetting set → HasRoom set → HaveWords set.app → Stands set (run set (switched_on set) (setup_schedule set.app)).world (course_start set.app)
starts set sound room words = record { settled = (is_set_up set sound room).settled; told = told_start set.app; words = words_start set.app words }

pub honest_shows : HonestShows
honest_shows set rs c sound room words h low =
    let app = set.app in
    let start = course_start app in
    let w : World = (run set (switched_on set) (setup_schedule app)).world in
    let stands : Stands set w start = starts set sound room words in
    let few : lines_so_far app (0 + length rs) c ≤ 65536 = subst (λ (i : ℕ). lines_so_far app i c ≤ 65536) (sym (zero-add (length rs))) h.lines in
    let r = readings_lead set sound room words MOST_DELIVERIES 0 rs start c w h.readings low stands h.course few in
    let lines = readings_lines app MOST_DELIVERIES rs start in
    ap (λ (a : Acted). a.items) (run_append set (setup_schedule app) lines (switched_on set))
    ∙ ap (λ (zs : List Item). zs ++ (run set w lines).items) (is_set_up set sound room).items
    ∙ ap (λ (a : Acted). start.items ++ a.items) r.is ∙ sym r.more

pub honest_run_delivers : HonestRunDelivers
honest_run_delivers set rs c sound room words h low =
    subst (λ (items : List Item). Delivers set.app rs items) (sym (honest_shows set rs c sound room words h low)) (honest_delivers set.app rs c h)
