-- How many lines an honest run has, and that they are in form.
use Rattle.std.proofs.Common.{◌≡◌, ℕ, zero, suc, ◌+◌, ◌*◌, ◌<◌, true, List, [], ◌∷◌, ◌++◌, length, length-append, Some, zero-add, refl, sym, ◌∙◌, ap, subst, arith}
use Rattle.std.specs.List.{All}
use Rattle.std.proofs.lemmas.List.Elements.{All-head, All-tail}
use Rattle.std.proofs.lemmas.Option.{same_Some}
use Rattle.sx_mean.specs.declared.events.SourceEvent.{SourceEvent}
use Rattle.sx_mean.specs.declared.events.SourceEvent.TheVariants as event
use Rattle.sx_mean.specs.Application.{AppTree, PartTree}
use Rattle.sx_mean.specs.Validity.{is_valid}
use Rattle.sx_trace.specs.declared.items.Item.TheVariants as item
use Rattle.sx_sched.specs.Lines.{Line, Sense, Give}
use Rattle.spec_run.specs.Setting.{Setting}
use Rattle.spec_run.specs.Law.{LinesInForm}
use Rattle.spec_honest.specs.Plain.{MOST_DELIVERIES, Plain, Sampling, Waiting, acts_send, oldest, reacted, reaction}
use Rattle.spec_honest.specs.Course.{Course, IsSampling, count_over, course_start, delivered, lines_so_far, packets_so_far, played, sensed, settled, setup_lines, setup_packets}
use Rattle.spec_honest.proofs.AsPlain.{IsLinked, IsTold, driver, goes, told_delivered, told_sensed, told_start}
use Rattle.spec_honest.proofs.Course.{played_on}
use Rattle.law_setup.specs.Schedule.{setup_schedule}
use Rattle.law_setup.proofs.Counting.{both_formed, schedule_formed, schedule_long}
use Rattle.law_delivery.specs.Schedule.{delivery_lines, event_lines, reading_lines, readings_lines, settling_lines, take_lines}
use Rattle.law_delivery.specs.Laws.{HonestFits}
use Rattle.law_delivery.proofs.ByLine.{delivery_shown, event_shown, reading_shown}

takes_long : (n at k : ℕ) → length (take_lines n at k) ≡ k
takes_long n at zero = refl
takes_long n at (suc k) = ap (λ (i : ℕ). suc i) (takes_long n (at + 24) k)

takes_formed : (set : Setting) (n at k : ℕ) → LinesInForm set (take_lines n at k)
takes_formed set n at zero = tt
takes_formed set n at (suc k) = (tt, takes_formed set n (at + 24) k)

module _ (set : Setting) (valid : is_valid set.app ≡ true) where
  abbrev app : AppTree
  app = set.app

  -- the values that an event puts on their way
  abbrev pub sent : ℕ → SourceEvent → List (List ℕ) → PartTree → List Waiting
  sent m e cells q = acts_send app.links m (reaction m q e cells).acts

  event_long : (m entry : ℕ) (e : SourceEvent) (cells : List (List ℕ)) (q : PartTree) → length (event_lines app m entry e cells q) ≡ suc (length (sent m e cells q))
  event_long m entry e cells q = ap (λ (i : ℕ). suc i) (takes_long q.node 0x80 (length (sent m e cells q)))

  event_formed : (m entry : ℕ) (e : SourceEvent) (cells : List (List ℕ)) (q : PartTree) → entry < 65536 → LinesInForm set (event_lines app m entry e cells q)
  event_formed m entry e cells q lt = ((lt, omega arith, omega arith), takes_formed set q.node 0x80 (length (sent m e cells q)))

  -- A reading.

  module _ (r : Sampling) (c : Course) (is : IsSampling app r) where
    abbrev d : Rattle.spec_honest.proofs.AsPlain.Drives app r.device is.driver
    d = driver app r.device is.driver is.driven

    abbrev e : SourceEvent
    e = event.Sample r.value

    pub reading_is : Sense r.device r.value ∷ event_lines app is.driver 3 e c.plain.cells d.part ≡ reading_lines app r c
    reading_is = rw (is.driven, d.there) refl

    pub reading_shown_is : (item.Sense r.device r.value ∷ []) ∷ event_shown app is.driver (item.Read is.driver r.value) (packets_so_far app c)
        (reaction is.driver d.part e c.plain.cells).acts ≡ reading_shown app r c
    reading_shown_is = rw (is.driven, d.there) refl

    pub sensed_is : reacted app is.driver e c.plain d.part ≡ (sensed app r c).plain
    sensed_is = rw (is.driven, d.there) refl

    pub sensed_waits : length (sensed app r c).plain.waiting ≡ length c.plain.waiting + length (sent is.driver e c.plain.cells d.part)
    sensed_waits = ap (λ (s : Plain). length s.waiting) (sym sensed_is) ∙ length-append c.plain.waiting (sent is.driver e c.plain.cells d.part)

    pub reading_long : (k : ℕ) → length (reading_lines app r c) + lines_so_far app k c ≡ lines_so_far app (k + 1) (sensed app r c)
    reading_long k =
        let new = length (sent is.driver e c.plain.cells d.part) in
        let a : length (reading_lines app r c) ≡ suc (suc new) = (ap length (sym reading_is) ∙ ap (λ (i : ℕ). suc i) (event_long is.driver 3 e c.plain.cells d.part)) in
        sums (length (reading_lines app r c)) new (setup_lines app) k (length c.past) (length c.plain.waiting) (length (sensed app r c).plain.waiting) a sensed_waits
      where
        sums : (x new u k p w v : ℕ) → x ≡ suc (suc new) → v ≡ w + new → x + (u + 2 * k + 3 * p + w) ≡ u + 2 * (k + 1) + 3 * p + v
        sums x new u k p w v a b = omega (arith, a, b)

    reading_formed : r.value < 32768 → LinesInForm set (reading_lines app r c)
    reading_formed low = subst (λ ls. LinesInForm set ls) reading_is ((is.sensor, low), event_formed is.driver 3 e c.plain.cells d.part (omega arith))

  -- A delivery.

  module _ (w : Waiting) (ws : List Waiting) (c : Course) (waits : c.plain.waiting ≡ w ∷ ws) (linked : w.link < length app.links) where
    abbrev g : Rattle.spec_honest.proofs.AsPlain.Goes app w.link
    g = goes app w.link valid linked

    abbrev input : SourceEvent
    input = event.Input g.link.input w.value

    abbrev plain : Plain
    plain = record c.plain { waiting = ws }

    pub delivery_is : Give (setup_packets app + length c.past) g.part.node 0x40 ∷ event_lines app g.link.to 2 input c.plain.cells g.part ≡ delivery_lines app w c
    delivery_is = rw (g.there, g.to) refl

    pub delivery_shown_is : [] ∷ event_shown app g.link.to (item.Take g.link.to w.link (count_over w.link c.past) w.value) (packets_so_far app c)
        (reaction g.link.to g.part input c.plain.cells).acts ≡ delivery_shown app w c
    delivery_shown_is = rw (g.there, g.to) refl

    pub delivered_is : reacted app g.link.to input plain g.part ≡ (delivered app w ws c).plain
    delivered_is = rw (g.there, g.to) refl

    pub delivered_waits : length (delivered app w ws c).plain.waiting ≡ length ws + length (sent g.link.to input c.plain.cells g.part)
    delivered_waits = ap (λ (s : Plain). length s.waiting) (sym delivered_is) ∙ length-append ws (sent g.link.to input c.plain.cells g.part)

    pub delivery_long : (k : ℕ) → length (delivery_lines app w c) + lines_so_far app k c ≡ lines_so_far app k (delivered app w ws c)
    delivery_long k =
        let new = length (sent g.link.to input c.plain.cells g.part) in
        let a : length (delivery_lines app w c) ≡ suc (suc new) = (ap length (sym delivery_is) ∙ ap (λ (i : ℕ). suc i) (event_long g.link.to 2 input c.plain.cells g.part)) in
        sums (length (delivery_lines app w c)) new (setup_lines app) k (length c.past) (length (c.past ++ w ∷ [])) (length c.plain.waiting) (length ws)
        (length (delivered app w ws c).plain.waiting) a delivered_waits
        (length-append c.past (w ∷ [])) (ap (λ (zs : List Waiting). length zs) waits)
      where
        sums : (x new u k p n l o v : ℕ) → x ≡ suc (suc new) → v ≡ o + new → n ≡ p + 1 → l ≡ suc o → x + (u + 2 * k + 3 * p + l) ≡ u + 2 * k + 3 * n + v
        sums x new u k p n l o v a b d e = omega (arith, a, b, d, e)

    delivery_formed : LinesInForm set (delivery_lines app w c)
    delivery_formed = subst (λ ls. LinesInForm set ls) delivery_is (omega arith, event_formed g.link.to 2 input c.plain.cells g.part (omega arith))

  -- All deliveries after a reading.

  pub record Fit (lines : List Line) (from to : ℕ) : Type 0 where
    pub long : length lines + from ≡ to
    pub formed : LinesInForm set lines

  fit_on : (xs ys : List Line) (a b c : ℕ) → Fit xs a b → Fit ys b c → Fit (xs ++ ys) a c
  fit_on xs ys a b c f g = record {
    long = (let l = length-append xs ys in let m = f.long in let n = g.long in omega (arith, l, m, n));
    formed = both_formed set xs ys f.formed g.formed;
  }

  pub settling_fits : (n k : ℕ) (c : Course) → IsTold app c → Fit (settling_lines app n c) (lines_so_far app k c) (lines_so_far app k (settled app n c)) × IsTold app (settled app n c)
  settling_fits zero k c h = (record { long = zero-add (lines_so_far app k c); formed = tt }, h)
  settling_fits (suc n) k c h = go c.plain.waiting refl (λ d t. settling_fits n k d t)
    where
      go : (ws : List Waiting) → c.plain.waiting ≡ ws
          → ((d : Course) → IsTold app d → Fit (settling_lines app n d) (lines_so_far app k d) (lines_so_far app k (settled app n d)) × IsTold app (settled app n d))
          → Fit (oldest [] (λ w ws. delivery_lines app w c ++ settling_lines app n (delivered app w ws c)) ws) (lines_so_far app k c)
          (lines_so_far app k (oldest c (λ w ws. settled app n (delivered app w ws c)) ws))
          × IsTold app (oldest c (λ w ws. settled app n (delivered app w ws c)) ws)
      go [] e more = (record { long = zero-add (lines_so_far app k c); formed = tt }, h)
      go (w ∷ ws) e more =
          let d = delivered app w ws c in
          let linked : w.link < length app.links = All-head (IsLinked app) w ws (subst (λ zs. All (IsLinked app) zs) e h.linked) in
          let rest = more d (told_delivered app w ws c valid e h) in (
            fit_on (delivery_lines app w c) (settling_lines app n d) (lines_so_far app k c) (lines_so_far app k d) (lines_so_far app k (settled app n d))
                (record { long = delivery_long w ws c e linked k; formed = delivery_formed w ws c e linked }) rest.0,
            rest.1,
          )

  pub readings_fit : (n k : ℕ) (rs : List Sampling) (c d : Course) → All (IsSampling app) rs → All (λ (r : Sampling). r.value < 32768) rs → IsTold app c → played app n rs c ≡ Some d
      → Fit (readings_lines app n rs c) (lines_so_far app k c) (lines_so_far app (k + length rs) d)
  readings_fit n k [] c d all low h p =
      let none : k ≡ k + 0 = omega arith in
      subst (λ (e : Course). Fit [] (lines_so_far app k c) (lines_so_far app (k + 0) e)) (same_Some c d p)
      (record { long = zero-add (lines_so_far app k c) ∙ ap (λ (i : ℕ). lines_so_far app i c) none; formed = tt })
  readings_fit n k (r ∷ rs) c d all low h p =
      let is = All-head (IsSampling app) r rs all in
      let s = sensed app r c in
      let e = settled app n s in
      let on = played_on app n rs e d p in
      let deliveries = settling_fits n (k + 1) s (told_sensed app r c is h) in
      let first : Fit (reading_lines app r c) (lines_so_far app k c) (lines_so_far app (k + 1) s) =
      record { long = reading_long r c is k; formed = reading_formed r c is (All-head (λ (r : Sampling). r.value < 32768) r rs low) } in
      let rest = readings_fit n (k + 1) rs e d (All-tail (IsSampling app) r rs all) (All-tail (λ (r : Sampling). r.value < 32768) r rs low) deliveries.1 on.more in
      let next : k + 1 + length rs ≡ k + suc (length rs) = omega arith in
      subst (λ (i : ℕ). Fit (readings_lines app n (r ∷ rs) c) (lines_so_far app k c) (lines_so_far app i d)) next
      (fit_on (reading_lines app r c ++ settling_lines app n s) (readings_lines app n rs e) (lines_so_far app k c) (lines_so_far app (k + 1) e) (lines_so_far app (k + 1 + length rs) d)
      (fit_on (reading_lines app r c) (settling_lines app n s) (lines_so_far app k c) (lines_so_far app (k + 1) s) (lines_so_far app (k + 1) e) first deliveries.0) rest)

pub honest_fits : HonestFits
honest_fits set rs c h low =
    let app = set.app in
    let start = course_start app in
    let n = MOST_DELIVERIES in
    let f = readings_fit set h.valid n 0 rs start c h.readings low (told_start app) h.course in
    let a = schedule_long set 0 0 app.parts in
    let l = length-append (setup_schedule app) (readings_lines app n rs start) in
    let m : length (readings_lines app n rs start) + setup_lines app ≡ lines_so_far app (length rs) c =
    (none (length (readings_lines app n rs start)) (setup_lines app) ∙ f.long ∙ ap (λ (i : ℕ). lines_so_far app i c) (zero-add (length rs))) in
    record {
      lines = l ∙ ap (λ (i : ℕ). i + length (readings_lines app n rs start)) a ∙ swap (setup_lines app) (length (readings_lines app n rs start)) ∙ m;
      formed = both_formed set (setup_schedule app) (readings_lines app n rs start) (schedule_formed set 0 0 app.parts (omega arith)) f.formed;
    }
  where
    none : (x u : ℕ) → x + u ≡ x + (u + 2 * 0 + 3 * 0 + 0)
    none x u = omega arith

    swap : (a b : ℕ) → a + b ≡ b + a
    swap a b = omega arith
