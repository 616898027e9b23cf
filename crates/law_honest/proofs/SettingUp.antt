-- The program's set-up says the lines of the schedule's set-up.
use Rattle.std.proofs.Common.{◌≡◌, ℕ, zero, suc, ◌+◌, List, [], ◌∷◌, ◌++◌, length, Option, Some, slice_get, refl, sym, ◌∙◌, ap, subst, arith}
use Rattle.std.specs.Prelude.{option_map}
use Rattle.std.proofs.Common.{zero-add}
use Rattle.sx_trace.specs.declared.items.Item.{Item}
use Rattle.sx_trace.specs.declared.items.Item.TheVariants as item
use Rattle.sx_mean.specs.declared.events.End.{End}
use Rattle.sx_mean.specs.Application.{PartTree}
use Rattle.sx_mean.specs.Ends.{ends_of}
use Rattle.sx_sched.specs.Lines.{Line, Answer, Ask, Call, Give, Load, Take}
use Rattle.spec_run.specs.Setting.{Setting}
use Rattle.spec_run.specs.State.{World, switched_on}
use Rattle.spec_run.specs.Run.{run}
use Rattle.spec_run.specs.Law.{IsLawfulSetting}
use Rattle.sx_world.specs.Whole.{next}
use Rattle.spec_honest.specs.Course.{packet_items}
use Rattle.law_setup.specs.Laws.{HasRoom}
use Rattle.law_setup.specs.Schedule.{key_lines, part_lines, parts_schedule, setup_schedule}
use Rattle.law_setup.proofs.forms.ByLine.{keys_shown, part_shown, parts_shown, shown_by}
use Rattle.law_setup.proofs.Runs.{shown_append}
use Rattle.law_setup.proofs.SetUp.{set_up_shown}
use Rattle.sx_drive.specs.Honest.{Callee, Driven, Honest, answers, asks, callee_at, each, hands, if_there, opens, packets_of, says, sets_up, sets_up_from, setup, start, then_}
use Rattle.law_honest.proofs.Playing.{Fares, IsWhole, Shows, Waits, each_one, fares_as, says_fares, still_fares, then_fares}
use Rattle.law_honest.proofs.Staying.{asking_stays, each_stay, hand_each_stays, hands_stay, opening_stays, opens_stay, sets_up_from_stays}
use Rattle.law_honest.proofs.Handing.{first_of, hands_fares, numbers, rest_of}

packets_listed : (n len k : ℕ) → packets_of (packet_items n len k) ≡ numbers n k
packets_listed n len zero = refl
packets_listed n len (suc k) = ap (λ (ks : List ℕ). n ∷ ks) (packets_listed (n + 1) len k)

-- Set-key packets are handed to a module.
keys_fare : (set : Setting) (x : Callee) (number k : ℕ) (h : Honest) → IsWhole h
    → Fares set h.world (each (hands set 0 x) (numbers number k) h) (key_lines x.part x.node number k) (Waits h.waiting)
keys_fare set x number zero h whole = still_fares set h (Waits h.waiting) whole refl
keys_fare set x number (suc k) h whole =
    let give : Line = Give number x.node 0x40 in
    let call : Line = Call x.part 0 0x40 0x80 in
    let g : Honest = (hands set 0 x number h).honest in
    let rest : List Line = key_lines x.part x.node (number + 1) k in
    let p : List Item = (next set (next set h.world give).world call).items in
    then_fares set h.world (hands set 0 x number h) (each (hands set 0 x) (numbers (number + 1) k)) (give ∷ call ∷ []) rest (Shows h.waiting p) (Waits h.waiting) (hands_fares set 0 x number h whole)
    (each_stay (hands set 0 x) (hands_stay set 0 x) (numbers (number + 1) k))
    (λ played. fares_as set g.world (each (hands set 0 x) (numbers (number + 1) k) g) rest (Waits g.waiting) (Waits h.waiting)
    (λ more. more.holds ∙ played.holds.waiting) (keys_fare set x (number + 1) k g played.whole))

-- A module is asked, and gets the packet of this number.
module _ (set : Setting) (x : Callee) (number : ℕ) (h : Honest) (whole : IsWhole h) (asked : packets_of (next set (next set h.world (Load x.part)).world (Ask x.part)).items ≡ number ∷ []) where
  abbrev h1 : Honest
  h1 = (says set (Load x.part) h).honest

  abbrev h2 : Honest
  h2 = (says set (Ask x.part) h1).honest

  abbrev handing : Honest → Driven
  handing g = each (hands set 1 x) (packets_of g.shown) g

  abbrev asking : Honest → Driven
  asking g = then_ (says set (Ask x.part) g) handing

  abbrev gives : List Line
  gives = Give number x.node 0x40 ∷ Call x.part 1 0x40 0x80 ∷ []

  handed : (g : Honest) → IsWhole g → g.waiting ≡ h.waiting → packets_of g.shown ≡ number ∷ [] → Fares set g.world (handing g) gives (Waits h.waiting)
  handed g whole waits one =
      let p : List Item = (next set (next set g.world (Give number x.node 0x40)).world (Call x.part 1 0x40 0x80)).items in
      subst (λ (ks : List ℕ). Fares set g.world (each (hands set 1 x) ks g) gives (Waits h.waiting)) (sym one)
      (each_one (hands set 1 x) number set g g.world gives (Waits h.waiting)
      (fares_as set g.world (hands set 1 x number g) gives (Shows g.waiting p) (Waits h.waiting) (λ played. played.holds.waiting ∙ waits) (hands_fares set 1 x number g whole)))

  asks_fares : Fares set h.world (asks set x h) (Load x.part ∷ Ask x.part ∷ gives) (Waits h.waiting)
  asks_fares =
      then_fares set h.world (says set (Load x.part) h) asking (Load x.part ∷ []) (Ask x.part ∷ gives) (Shows h.waiting (next set h.world (Load x.part)).items) (Waits h.waiting)
      (says_fares set (Load x.part) h whole) (asking_stays set x)
      (λ first. then_fares set h1.world (says set (Ask x.part) h1) handing (Ask x.part ∷ []) gives (Shows h1.waiting (next set h1.world (Ask x.part)).items) (Waits h.waiting)
      (says_fares set (Ask x.part) h1 first.whole) (hand_each_stays set 1 x)
      (λ second. handed h2 second.whole (second.holds.waiting ∙ first.holds.waiting)
      (ap packets_of (second.holds.shown ∙ ap (λ (v : World). (next set v (Ask x.part)).items) first.world) ∙ asked)))

-- Its answer, of this number, is taken and given to the deployer, and it gets so many keys.
module _ (set : Setting) (x : Callee) (answer number k : ℕ) (h : Honest) (whole : IsWhole h) (taken : packets_of (next set h.world (Take x.node 0x80 16)).items ≡ answer ∷ [])
    (answered : packets_of (next set (next set h.world (Take x.node 0x80 16)).world (Answer x.part 0 answer)).items ≡ numbers number k) where
  abbrev take : Line
  take = Take x.node 0x80 16

  abbrev given : Line
  given = Answer x.part 0 answer

  abbrev g1 : Honest
  g1 = (says set take h).honest

  abbrev answering : Honest → Driven
  answering g = each (answers set x) (packets_of g.shown) g

  abbrev keying : Honest → Driven
  keying g = each (hands set 0 x) (packets_of g.shown) g

  abbrev opening : Honest → Driven
  opening g = then_ (answering g) keying

  abbrev keys : List Line
  keys = key_lines x.part x.node number k

  answers_fare : (g : Honest) → IsWhole g → packets_of g.shown ≡ answer ∷ [] → Fares set g.world (answering g) (given ∷ []) (Shows g.waiting (next set g.world given).items)
  answers_fare g whole one =
      subst (λ (ks : List ℕ). Fares set g.world (each (answers set x) ks g) (given ∷ []) (Shows g.waiting (next set g.world given).items)) (sym one)
      (each_one (answers set x) answer set g g.world (given ∷ []) (Shows g.waiting (next set g.world given).items) (says_fares set given g whole))

  keyed : (g : Honest) → IsWhole g → g.waiting ≡ h.waiting → packets_of g.shown ≡ numbers number k → Fares set g.world (keying g) keys (Waits h.waiting)
  keyed g whole waits listed =
      subst (λ (ks : List ℕ). Fares set g.world (each (hands set 0 x) ks g) keys (Waits h.waiting)) (sym listed)
      (fares_as set g.world (each (hands set 0 x) (numbers number k) g) keys (Waits g.waiting) (Waits h.waiting) (λ played. played.holds ∙ waits) (keys_fare set x number k g whole))

  opens_fares : Fares set h.world (opens set x h) (take ∷ given ∷ keys) (Waits h.waiting)
  opens_fares =
      then_fares set h.world (says set take h) opening (take ∷ []) (given ∷ keys) (Shows h.waiting (next set h.world take).items) (Waits h.waiting) (says_fares set take h whole) (opening_stays set x)
      (λ first. then_fares set g1.world (answering g1) keying (given ∷ []) keys (Shows g1.waiting (next set g1.world given).items) (Waits h.waiting)
      (answers_fare g1 first.whole (ap packets_of first.holds.shown ∙ taken)) (hand_each_stays set 0 x)
      (λ second. keyed (answering g1).honest second.whole (second.holds.waiting ∙ first.holds.waiting)
      (ap packets_of (second.holds.shown ∙ ap (λ (v : World). (next set v given).items) first.world) ∙ answered)))

-- A module is set up.
module _ (set : Setting) (m number : ℕ) (q : PartTree) (es : List End) (h : Honest) (whole : IsWhole h) (shown : shown_by set h.world (part_lines m number q es) ≡ part_shown m number q es) where
  abbrev x : Callee
  x = record { part = m; node = q.node }

  abbrev asked_lines : List Line
  asked_lines = Load m ∷ Ask m ∷ Give number q.node 0x40 ∷ Call m 1 0x40 0x80 ∷ []

  abbrev w : World
  w = (run set h.world asked_lines).world

  abbrev g : Honest
  g = (asks set x h).honest

  sets_up_fares : Fares set h.world (sets_up set x h) (part_lines m number q es) (Waits h.waiting)
  sets_up_fares =
      let asked : (next set (next set h.world (Load m)).world (Ask m)).items ≡ item.Ask m m ∷ item.Packet number 18 ∷ [] = ap (λ (zs : List (List Item)). first_of (rest_of zs)) shown in
      let after : shown_by set w (Take q.node 0x80 16 ∷ Answer m 0 (number + 1) ∷ key_lines m q.node (number + 2) (length es))
      ≡ (item.Packet (number + 1) 16 ∷ []) ∷ (item.Attested m 0 ∷ packet_items (number + 2) 38 (length es)) ∷ keys_shown m es =
      ap (λ (zs : List (List Item)). rest_of (rest_of (rest_of (rest_of zs)))) shown in
      then_fares set h.world (asks set x h) (opens set x) asked_lines (Take q.node 0x80 16 ∷ Answer m 0 (number + 1) ∷ key_lines m q.node (number + 2) (length es)) (Waits h.waiting) (Waits h.waiting)
      (asks_fares set x number h whole (ap packets_of asked)) (opens_stay set x)
      (λ played.
      let there : shown_by set g.world (Take q.node 0x80 16 ∷ Answer m 0 (number + 1) ∷ key_lines m q.node (number + 2) (length es))
      ≡ (item.Packet (number + 1) 16 ∷ []) ∷ (item.Attested m 0 ∷ packet_items (number + 2) 38 (length es)) ∷ keys_shown m es =
      ap (λ (v : World). shown_by set v (Take q.node 0x80 16 ∷ Answer m 0 (number + 1) ∷ key_lines m q.node (number + 2) (length es))) played.world ∙ after in
      fares_as set g.world (opens set x g) (Take q.node 0x80 16 ∷ Answer m 0 (number + 1) ∷ key_lines m q.node (number + 2) (length es)) (Waits g.waiting) (Waits h.waiting)
      (λ more. more.holds ∙ played.holds)
      (opens_fares set x (number + 1) (number + 2) (length es) g played.whole (ap (λ (zs : List (List Item)). packets_of (first_of zs)) there)
      (ap (λ (zs : List (List Item)). packets_of (first_of (rest_of zs))) there ∙ packets_listed (number + 2) 38 (length es))))

-- What is shown by some lines and by those that follow.

shown_long : (set : Setting) (ls : List Line) (w : World) → length (shown_by set w ls) ≡ length ls
shown_long set [] w = refl
shown_long set (l ∷ ls) w = ap (λ (k : ℕ). suc k) (shown_long set ls (next set w l).world)

keys_long : (m n number : ℕ) (es : List End) → length (key_lines m n number (length es)) ≡ length (keys_shown m es)
keys_long m n number [] = refl
keys_long m n number (e ∷ es) = ap (λ (k : ℕ). suc (suc k)) (keys_long m n (number + 1) es)

part_long : (m number : ℕ) (q : PartTree) (es : List End) → length (part_lines m number q es) ≡ length (part_shown m number q es)
part_long m number q es = ap (λ (k : ℕ). suc (suc (suc (suc (suc (suc k)))))) (keys_long m q.node (number + 2) es)

-- two lists of one length that begin others
same_first : (xs ys ps qs : List (List Item)) → length xs ≡ length ps → xs ++ ys ≡ ps ++ qs → xs ≡ ps
same_first [] ys [] qs len e = refl
same_first [] ys (p ∷ ps) qs len e = absurd (omega (arith, len))
same_first (a ∷ xs) ys [] qs len e = absurd (omega (arith, len))
same_first (a ∷ xs) ys (p ∷ ps) qs len e =
    ap (λ (z : List Item). z ∷ xs) (ap first_of e) ∙ ap (λ (zs : List (List Item)). p ∷ zs) (same_first xs ys ps qs (omega (arith, len)) (ap rest_of e))

same_rest : (xs ys ps qs : List (List Item)) → length xs ≡ length ps → xs ++ ys ≡ ps ++ qs → ys ≡ qs
same_rest [] ys [] qs len e = e
same_rest [] ys (p ∷ ps) qs len e = absurd (omega (arith, len))
same_rest (a ∷ xs) ys [] qs len e = absurd (omega (arith, len))
same_rest (a ∷ xs) ys (p ∷ ps) qs len e = same_rest xs ys ps qs (omega (arith, len)) (ap rest_of e)

-- The modules from the m-th on are set up.
parts_fare : (set : Setting) (qs : List PartTree) (m number : ℕ) (h : Honest) → IsWhole h → ((i : ℕ) → slice_get set.app.parts (m + i) ≡ slice_get qs i)
    → shown_by set h.world (parts_schedule set.app m number qs) ≡ parts_shown set.app m number qs
    → Fares set h.world (sets_up_from set m (length qs) h) (parts_schedule set.app m number qs) (Waits h.waiting)
parts_fare set [] m number h whole at shown = still_fares set h (Waits h.waiting) whole refl
parts_fare set (q ∷ qs) m number h whole at shown =
    let es : List End = ends_of set.app m in
    let x : Callee = record { part = m; node = q.node } in
    let ls : List Line = part_lines m number q es in
    let rest : List Line = parts_schedule set.app (m + 1) (number + 2 + length es) qs in
    let g : Honest = (if_there (sets_up set) (callee_at set.app m) h).honest in
    let w : World = (run set h.world ls).world in
    let both : shown_by set h.world ls ++ shown_by set w rest ≡ part_shown m number q es ++ parts_shown set.app (m + 1) (number + 2 + length es) qs =
    sym (shown_append set ls rest h.world) ∙ shown in
    let long : length (shown_by set h.world ls) ≡ length (part_shown m number q es) = shown_long set ls h.world ∙ part_long m number q es in
    let mine = same_first (shown_by set h.world ls) (shown_by set w rest) (part_shown m number q es) (parts_shown set.app (m + 1) (number + 2 + length es) qs) long both in
    let others = same_rest (shown_by set h.world ls) (shown_by set w rest) (part_shown m number q es) (parts_shown set.app (m + 1) (number + 2 + length es) qs) long both in
    let zeroth : m ≡ m + 0 = omega arith in
    let part : slice_get set.app.parts m ≡ Some q = ap (slice_get set.app.parts) zeroth ∙ at 0 in
    let there : callee_at set.app m ≡ Some x = ap (λ (o : Option PartTree). option_map (λ (q : PartTree). record { part = m; node = q.node }) o) part in
    let first : Fares set h.world (if_there (sets_up set) (callee_at set.app m) h) ls (Waits h.waiting) =
    subst (λ (o : Option Callee). Fares set h.world (if_there (sets_up set) o h) ls (Waits h.waiting)) (sym there) (sets_up_fares set m number q es h whole mine) in
    then_fares set h.world (if_there (sets_up set) (callee_at set.app m) h) (sets_up_from set (m + 1) (length qs)) ls rest (Waits h.waiting) (Waits h.waiting) first
    (sets_up_from_stays set (m + 1) (length qs))
    (λ played. fares_as set g.world (sets_up_from set (m + 1) (length qs) g) rest (Waits g.waiting) (Waits h.waiting) (λ more. more.holds ∙ played.holds)
    (parts_fare set qs (m + 1) (number + 2 + length es) g played.whole
    (λ i. let next_at : m + 1 + i ≡ m + suc i = omega arith in ap (slice_get set.app.parts) next_at ∙ at (suc i))
    (ap (λ (v : World). shown_by set v rest) played.world ∙ others)))

-- All are, from power-on.
pub setup_fares : (set : Setting) → IsLawfulSetting set → HasRoom set → Fares set (switched_on set) (setup set (start set)) (setup_schedule set.app) (Waits [])
setup_fares set sound room =
    parts_fare set set.app.parts 0 0 (start set) (record { uncut = refl; room = omega arith }) (λ i. ap (slice_get set.app.parts) (zero-add i)) (set_up_shown set sound room)
