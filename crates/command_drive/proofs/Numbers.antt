-- The numbers in the lines of an honest schedule: a packet's is at most the number of lines before it, and addresses are words.
use Rattle.std.proofs.Common.{◌≡◌, ℕ, zero, suc, ◌+◌, ◌*◌, ◌<◌, ◌≤◌, true, List, [], ◌∷◌, ◌++◌, length, length-append, take, Some, refl, ap, subst, arith}
use Rattle.std.specs.Prelude.{slice_get}
use Rattle.std.specs.List.{All}
use Rattle.std.proofs.lemmas.List.Elements.{All-head, All-tail}
use Rattle.std.specs.Prelude.{slice_index_or}
use Rattle.sx_mean.specs.declared.events.End.{End}
use Rattle.sx_mean.specs.declared.events.SourceEvent.{SourceEvent}
use Rattle.sx_mean.specs.declared.events.SourceEvent.TheVariants as event
use Rattle.sx_mean.specs.Application.{AppTree, PartTree}
use Rattle.sx_mean.specs.Ends.{ends_of}
use Rattle.sx_mean.specs.Validity.{is_valid}
use Rattle.sx_sched.specs.Lines.{Line, Blank, Run, Finish, Put, Set, Take, Give, Forge, Sense, Irq, Reset, Ask, Answer, Load, Call}
use Rattle.spec_run.specs.Setting.{Setting}
use Rattle.spec_honest.specs.Plain.{MOST_DELIVERIES, Sampling, Waiting, acts_send, oldest, reaction}
use Rattle.spec_honest.specs.Course.{Course, IsSampling, course_start, delivered, parts_packets, sensed, settled, setup_packets}
use Rattle.spec_honest.proofs.AsPlain.{Drives, Goes, IsLinked, IsTold, driver, goes, told_delivered, told_sensed, told_start}
use Rattle.law_setup.specs.Schedule.{attest_lines, key_lines, part_lines, parts_schedule, setup_schedule}
use Rattle.law_setup.proofs.Counting.{part_long}
use Rattle.law_delivery.specs.Schedule.{delivery_lines, event_lines, honest_schedule, reading_lines, readings_lines, settling_lines, take_lines}
use Rattle.law_delivery.proofs.Effects.{sends_few}
use Rattle.law_delivery.proofs.Fitting.{delivery_is, reading_is, settling_fits}

-- the numbers of a line, that come after b lines
abbrev pub HasNumbers : ℕ → Line → Type 0
HasNumbers b (Take n at len) = at < 65536
HasNumbers b (Give k n at) = (k ≤ b) × (at < 65536)
HasNumbers b (Answer m boot k) = (boot ≤ b) × (k ≤ b)
HasNumbers b (Call m e input output) = (e < 65536) × (input < 65536) × (output < 65536)
HasNumbers b _ = Unit {0}

-- of lines, that come after b lines
abbrev pub AreNumbered : ℕ → List Line → Type 0
AreNumbered b [] = Unit {0}
AreNumbered b (l ∷ ls) = HasNumbers b l × AreNumbered (suc b) ls

number_more : (a b : ℕ) (l : Line) → a ≤ b → HasNumbers a l → HasNumbers b l
number_more a b (Take n at len) le h = h
number_more a b (Give k n at) le h = (omega (arith, le, h.0), h.1)
number_more a b (Answer m boot k) le h = (omega (arith, le, h.0), omega (arith, le, h.1))
number_more a b (Call m e input output) le h = h
number_more a b Blank le h = tt
number_more a b (Run n k) le h = tt
number_more a b (Finish n) le h = tt
number_more a b (Put n at bytes) le h = tt
number_more a b (Set n r v) le h = tt
number_more a b (Forge bytes) le h = tt
number_more a b (Sense d v) le h = tt
number_more a b (Irq n l) le h = tt
number_more a b (Reset n) le h = tt
number_more a b (Ask m) le h = tt
number_more a b (Load m) le h = tt

pub numbered_more : (ls : List Line) (a b : ℕ) → a ≤ b → AreNumbered a ls → AreNumbered b ls
numbered_more [] a b le h = tt
numbered_more (l ∷ ls) a b le h = (number_more a b l le h.0, numbered_more ls (suc a) (suc b) (omega (arith, le)) h.1)

both : (xs ys : List Line) (b : ℕ) → AreNumbered b xs → AreNumbered (b + length xs) ys → AreNumbered b (xs ++ ys)
both [] ys b p q = let le : b + 0 ≤ b = omega arith in numbered_more ys (b + 0) b le q
both (x ∷ xs) ys b p q = (p.0, both xs ys (suc b) p.1 (numbered_more ys (b + length (x ∷ xs)) (suc b + length xs) (omega arith) q))

pub numbered_first : (k : ℕ) (ls : List Line) (b : ℕ) → AreNumbered b ls → AreNumbered b (take k ls)
numbered_first zero [] b h = tt
numbered_first zero (l ∷ ls) b h = tt
numbered_first (suc k) [] b h = tt
numbered_first (suc k) (l ∷ ls) b h = (h.0, numbered_first k ls (suc b) h.1)

-- The set-up.

keys_numbered : (m n number k b : ℕ) → number ≤ b → AreNumbered b (key_lines m n number k)
keys_numbered m n number zero b le = tt
keys_numbered m n number (suc k) b le =
    ((le, omega arith), ((omega arith, omega arith, omega arith), keys_numbered m n (number + 1) k (suc (suc b)) (omega (arith, le))))

attest_numbered : (m n number b : ℕ) → number ≤ b → AreNumbered b (attest_lines m n number)
attest_numbered m n number b le =
    (tt, (tt, ((omega (arith, le), omega arith), ((omega arith, omega arith, omega arith), (omega arith, ((omega arith, omega (arith, le)), tt))))))

part_numbered : (m number b : ℕ) (q : PartTree) (es : List End) → number ≤ b → AreNumbered b (part_lines m number q es)
part_numbered m number b q es le =
    let six : length (attest_lines m q.node number) ≡ 6 = refl in
    both (attest_lines m q.node number) (key_lines m q.node (number + 2) (length es)) b (attest_numbered m q.node number b le)
    (keys_numbered m q.node (number + 2) (length es) (b + length (attest_lines m q.node number)) (omega (arith, le, six)))

parts_numbered : (app : AppTree) (m number b : ℕ) (qs : List PartTree) → number ≤ b → AreNumbered b (parts_schedule app m number qs)
parts_numbered app m number b [] le = tt
parts_numbered app m number b (q ∷ qs) le =
    let es = ends_of app m in
    let first = part_lines m number q es in
    let long = part_long m number q es in
    both first (parts_schedule app (m + 1) (number + 2 + length es) qs) b (part_numbered m number b q es le)
    (parts_numbered app (m + 1) (number + 2 + length es) (b + length first) qs (omega (arith, le, long)))

packets_within : (app : AppTree) (m number : ℕ) (qs : List PartTree) → parts_packets app m qs ≤ length (parts_schedule app m number qs)
packets_within app m number [] = omega arith
packets_within app m number (q ∷ qs) =
    let es = ends_of app m in
    let first = part_lines m number q es in
    let rest = parts_schedule app (m + 1) (number + 2 + length es) qs in
    let long = part_long m number q es in
    let all = length-append first rest in
    let more = packets_within app (m + 1) (number + 2 + length es) qs in
    omega (arith, long, all, more)

-- Readings and deliveries.

takes_numbered : (n at k b : ℕ) → at + 24 * k ≤ 65535 → AreNumbered b (take_lines n at k)
takes_numbered n at zero b le = tt
takes_numbered n at (suc k) b le = (omega (arith, le), takes_numbered n (at + 24) k (suc b) (omega (arith, le)))

event_numbered : (app : AppTree) (m entry : ℕ) (e : SourceEvent) (cells : List (List ℕ)) (q : PartTree) (b : ℕ) → is_valid app ≡ true → slice_get app.parts m ≡ Some q → entry < 65536
    → AreNumbered b (event_lines app m entry e cells q)
event_numbered app m entry e cells q b valid part lt =
    let made : ℕ = length (acts_send app.links m (reaction m q e cells).acts) in
    let few : made ≤ 16 = sends_few app m q valid part e (slice_index_or cells m []) in
    ((lt, omega arith, omega arith), takes_numbered q.node 0x80 made (suc b) (omega (arith, few)))

module _ (set : Setting) (valid : is_valid set.app ≡ true) where
  abbrev app : AppTree
  app = set.app

  reading_numbered : (r : Sampling) (c : Course) (is : IsSampling app r) (b : ℕ) → AreNumbered b (reading_lines app r c)
  reading_numbered r c is b =
      let d : Drives app r.device is.driver = driver app r.device is.driver is.driven in
      subst (λ (ls : List Line). AreNumbered b ls) (reading_is set valid r c is)
      (tt, event_numbered app is.driver 3 (event.Sample r.value) c.plain.cells d.part (suc b) valid d.there (omega arith))

  module _ (w : Waiting) (ws : List Waiting) (c : Course) (waits : c.plain.waiting ≡ w ∷ ws) (linked : w.link < length app.links) where
    abbrev g : Goes app w.link
    g = goes app w.link valid linked

    delivery_numbered : (b : ℕ) → setup_packets app + length c.past ≤ b → AreNumbered b (delivery_lines app w c)
    delivery_numbered b le =
        subst (λ (ls : List Line). AreNumbered b ls) (delivery_is set valid w ws c waits linked)
        ((le, omega arith), event_numbered app g.link.to 2 (event.Input g.link.input w.value) c.plain.cells g.part (suc b) valid g.to (omega arith))

    delivery_some : 1 ≤ length (delivery_lines app w c)
    delivery_some = let e = ap (λ (ls : List Line). length ls) (delivery_is set valid w ws c waits linked) in omega (arith, e)

  -- the lines are numbered, and so is what comes after them
  pub record Numbers (b : ℕ) (lines : List Line) (after : Course) : Type 0 where
    pub numbered : AreNumbered b lines
    pub past : setup_packets app + length after.past ≤ b + length lines

  settling_numbered : (n : ℕ) (c : Course) (b : ℕ) → IsTold app c → setup_packets app + length c.past ≤ b → Numbers b (settling_lines app n c) (settled app n c)
  settling_numbered zero c b told le = record { numbered = tt; past = omega (arith, le) }
  settling_numbered (suc n) c b told le = go c.plain.waiting refl (λ d i t l. settling_numbered n d i t l)
    where
      go : (ws : List Waiting) → c.plain.waiting ≡ ws
          → ((d : Course) (i : ℕ) → IsTold app d → setup_packets app + length d.past ≤ i → Numbers i (settling_lines app n d) (settled app n d))
          → Numbers b (oldest [] (λ w ws. delivery_lines app w c ++ settling_lines app n (delivered app w ws c)) ws) (oldest c (λ w ws. settled app n (delivered app w ws c)) ws)
      go [] e more = record { numbered = tt; past = omega (arith, le) }
      go (w ∷ ws) e more =
          let d = delivered app w ws c in
          let linked : w.link < length app.links = All-head (IsLinked app) w ws (subst (λ zs. All (IsLinked app) zs) e told.linked) in
          let first = delivery_lines app w c in
          let second = settling_lines app n d in
          let past : length d.past ≡ length c.past + 1 = length-append c.past (w ∷ []) in
          let some : 1 ≤ length first = delivery_some w ws c e linked in
          let rest = more d (b + length first) (told_delivered app w ws c valid e told) (omega (arith, le, past, some)) in
          let both_long : length (first ++ second) ≡ length first + length second = length-append first second in
          let after : setup_packets app + length (settled app n d).past ≤ b + length first + length second = rest.past in
          record {
            numbered = both first second b (delivery_numbered w ws c e linked b le) rest.numbered;
            past = omega (arith, after, both_long);
          }

  readings_numbered : (n : ℕ) (rs : List Sampling) (c : Course) (b : ℕ) → All (IsSampling app) rs → IsTold app c → setup_packets app + length c.past ≤ b → AreNumbered b (readings_lines app n rs c)
  readings_numbered n [] c b all told le = tt
  readings_numbered n (r ∷ rs) c b all told le =
      let is = All-head (IsSampling app) r rs all in
      let s = sensed app r c in
      let e = settled app n s in
      let told_there = told_sensed app r c is told in
      let first = reading_lines app r c in
      let second = settling_lines app n s in
      let same : length s.past ≡ length c.past = refl in
      let t = settling_numbered n s (b + length first) told_there (omega (arith, le, same)) in
      let after : setup_packets app + length e.past ≤ b + length first + length second = t.past in
      let both_long : length (first ++ second) ≡ length first + length second = length-append first second in
      both (first ++ second) (readings_lines app n rs e) b (both first second b (reading_numbered r c is b) t.numbered)
      (readings_numbered n rs e (b + length (first ++ second)) (All-tail (IsSampling app) r rs all) (settling_fits set valid n 0 s told_there).1 (omega (arith, after, both_long)))

  pub schedule_numbered : (rs : List Sampling) → All (IsSampling app) rs → AreNumbered 0 (honest_schedule app rs)
  schedule_numbered rs all =
      let start = course_start app in
      let within : setup_packets app ≤ length (setup_schedule app) = packets_within app 0 0 app.parts in
      let none : length start.past ≡ 0 = refl in
      both (setup_schedule app) (readings_lines app MOST_DELIVERIES rs start) 0 (parts_numbered app 0 0 0 app.parts (omega arith))
      (readings_numbered MOST_DELIVERIES rs start (0 + length (setup_schedule app)) all (told_start app) (omega (arith, within, none)))
