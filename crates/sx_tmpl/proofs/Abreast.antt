-- A plain instruction of a module's code that shows no key is the same step in two nodes that differ in keys.
use Rattle.std.proofs.Common.{◌≡◌, ℕ, ◌+◌, ◌++◌, Bool, true, false, cond, not, ◌&&◌, ◌||◌, ◌==◌, List, [], ◌∷◌, map, slice_index, Option, Some, None, is_some}
use Rattle.std.proofs.Common.{refl, sym, ◌∙◌, ap, ap₂, subst}
use Rattle.std.specs.List.{list_all}
use Rattle.std.proofs.lemmas.Bool.{and_parts}
use Rattle.sx_rules.specs.declared.access.Access.{Access}
use Rattle.sx_rules.specs.declared.access.Access.TheVariants.{Read, Write, Run}
use Rattle.sx_rules.specs.declared.access.Violation.{Violation}
use Rattle.sx_rules.specs.declared.access.Violation.TheVariants as bad
use Rattle.sx_rules.specs.declared.section.Section.{Section}
use Rattle.sx_rules.specs.Access.{Sections, allows, extends, holder, in_order, in_private, in_public, may, outside_private, section_of}
use Rattle.spec_machine.specs.Memory.{even, word}
use Rattle.sx_bus.specs.Devices.{device_at}
use Rattle.sx_tag.specs.Mac.{Mac}
use Rattle.spec_machine.specs.declared.kinds.Event.TheVariants as event
use Rattle.spec_machine.specs.declared.kinds.Exchange.{Exchange}
use Rattle.spec_machine.specs.Rows.{program}
use Rattle.spec_machine.specs.Run.{Moment, Outcome, Finished, Violated, Module, exec}
use Rattle.spec_machine.specs.State.{State}
use Rattle.spec_machine.specs.Step.{attempt, entered_from, instruction, is_module_word, ordered, own_of, pc_of, settled_step, start, word_outside}
use Rattle.spec_invocation.specs.Marks.{Mark}
use Rattle.spec_invocation.specs.Marks as mark
use Rattle.spec_invocation.specs.Setup.{Setup}
use Rattle.sx_image.specs.Watched.{Watched, marks_of_event, marks_of_touches, violation_of, watch, watched_on}
use Rattle.sx_tmpl.specs.Unseen.{PlanShowsNone}
use Rattle.sx_tmpl.specs.Steady.{AgreeAt, AreOpen, SameMark, SameMarks, StepAbreast, keyless}
use Rattle.sx_tmpl.proofs.Twins.{SamePlain, plan_same}

-- Tables that differ in keys answer the same.

each_keyless : (f : Section → Bool) → ((x : Section) → f (keyless x) ≡ f x) → (xs : List Section) → list_all f (map keyless xs) ≡ list_all f xs
each_keyless f h [] = refl
each_keyless f h (x ∷ xs) = ap₂ (λ a b. a && b) (h x) (each_keyless f h xs)

all_keyless : (f : Section → Bool) → ((x : Section) → f (keyless x) ≡ f x) → (xs ys : List Section) → map keyless ys ≡ map keyless xs → list_all f ys ≡ list_all f xs
all_keyless f h xs ys e = sym (each_keyless f h ys) ∙ ap (list_all f) e ∙ each_keyless f h xs

module _ (xs ys : List Section) (same : map keyless ys ≡ map keyless xs) where
  pub may_keyless : (own : ℕ) (access : Access) (at : ℕ) → may ys own access at ≡ may xs own access at
  unfolding may
  may_keyless own access at = all_keyless (allows own access at) (λ x. allows_same access x) xs ys same
    where
      allows_same : (access : Access) (x : Section) → allows own access at (keyless x) ≡ allows own access at x
      allows_same Read x = refl
      allows_same Write x = refl
      allows_same Run x = refl

  pub extends_keyless : (own at : ℕ) → extends ys own at ≡ extends xs own at
  extends_keyless own at = all_keyless (λ s. not (in_private s at) && (not (in_public s at) || own == s.id)) (λ x. refl) xs ys same

  pub outside_keyless : (at : ℕ) → outside_private ys at ≡ outside_private xs at
  outside_keyless at = all_keyless (λ s. not (in_private s at)) (λ x. refl) xs ys same

  pub order_keyless : (cur at : ℕ) → in_order ys cur at ≡ in_order xs cur at
  order_keyless cur at = all_keyless (λ s. not (in_public s at) || (cur == s.id || at == s.layout.pub_from)) (λ x. refl) xs ys same

holder_of : (xs : List Section) (at : ℕ) → holder (map keyless xs) at ≡ holder xs at
holder_of [] at = refl
holder_of (x ∷ xs) at = ap (λ (n : ℕ). cond (in_public x at) x.id n) (holder_of xs at)

live_of : (xs : List Section) (id : ℕ) → is_some (section_of (map keyless xs) id) ≡ is_some (section_of xs id)
live_of [] id = refl
live_of (x ∷ xs) id = elim (x.id == id) as (λ b. is_some (cond b (Some (keyless x)) (section_of (map keyless xs) id)) ≡ is_some (cond b (Some x) (section_of xs id)))
    [ true ↦ refl | false ↦ live_of xs id ]

module _ (xs ys : List Section) (same : map keyless ys ≡ map keyless xs) where
  pub holder_keyless : (at : ℕ) → holder ys at ≡ holder xs at
  holder_keyless at = sym (holder_of ys at) ∙ ap (λ (l : List Section). holder l at) same ∙ holder_of xs at

  pub live_keyless : (id : ℕ) → is_some (section_of ys id) ≡ is_some (section_of xs id)
  live_keyless id = sym (live_of ys id) ∙ ap (λ (l : List Section). is_some (section_of l id)) same ∙ live_of xs id

-- Marks.

same_self : (m : Mark) → SameMark m m
same_self (mark.Wrapped ad body own) = refl
same_self (mark.Unwrapped ad body true) = (body, refl)
same_self (mark.Unwrapped ad body false) = refl
same_self (mark.Sampled k v) = refl
same_self (mark.Actuated k v) = refl

pub same_all : (ms : List Mark) → SameMarks ms ms
same_all [] = tt
same_all (m ∷ ms) = (same_self m, same_all ms)

pub same_more : (ms ns xs ys : List Mark) → SameMarks ms ns → SameMarks xs ys → SameMarks (ms ++ xs) (ns ++ ys)
same_more [] [] xs ys h g = g
same_more [] (n ∷ ns) xs ys h g = absurd h
same_more (m ∷ ms) [] xs ys h g = absurd h
same_more (m ∷ ms) (n ∷ ns) xs ys h g = (h.0, same_more ms ns xs ys h.1 g)

-- a plain instruction shows no violation, and makes no mark but those of its touches
quiet : (b : Bool) (own : ℕ) → violation_of (cond b event.Quiet (event.Left own)) ≡ None
quiet true own = refl
quiet false own = refl

no_mark : (b : Bool) (own : ℕ) (x : Exchange) → marks_of_event (cond b event.Quiet (event.Left own)) x ≡ []
no_mark true own x = refl
no_mark false own x = refl

-- Two nodes, at an instruction of the module's code.
module _ (mac nac : Mac) (s : Setup) (n : State) (mem : List ℕ) (u : Sections) (key : List ℕ) (exchange : Exchange) (places : ℕ → Type 0) (fit : AreOpen s places) (live : n.sections.live ≡ s.live)
    (same : map keyless u.live ≡ map keyless n.sections.live) (next : u.next ≡ n.sections.next) (agree : AgreeAt places n.mem mem) (own : own_of n ≡ s.section.id) where
  abbrev m : State
  m = record n { mem = mem; sections = u; key = key; exchange = exchange }

  own_twin : own_of m ≡ own_of n
  own_twin = holder_keyless n.sections.live u.live same (pc_of n)

  -- the outcomes of the two steps
  abbrev Same : Outcome → Outcome → Type 0
  Same o p = SamePlain places o p

  pub word_twin : word_outside n.sections.live (pc_of n) ≡ true → word mem (pc_of n) ≡ word n.mem (pc_of n)
  word_twin e =
      let p = and_parts (outside_private n.sections.live (even (pc_of n))) (outside_private n.sections.live (even (pc_of n) + 1)) e in
      let lo = agree.same (even (pc_of n)) (fit.outside (even (pc_of n)) (sym (ap (λ (l : List Section). outside_private l (even (pc_of n))) live) ∙ p.0)) in
      let hi = agree.same (even (pc_of n) + 1) (fit.outside (even (pc_of n) + 1) (sym (ap (λ (l : List Section). outside_private l (even (pc_of n) + 1)) live) ∙ p.1)) in
      cc

  plain_same : (w : ℕ) → PlanShowsNone s (program w n.regs) (start n) → Same (exec n.sections (own_of n) (program w n.regs) (start n)) (exec u (own_of m) (program w n.regs) (start m))
  plain_same w shown =
      subst (λ (o : ℕ). Same (exec n.sections (own_of n) (program w n.regs) (start n)) (exec u o (program w n.regs) (start m))) (sym (own_twin ∙ own))
      (subst (λ (o : ℕ). Same (exec n.sections o (program w n.regs) (start n)) (exec u s.section.id (program w n.regs) (start m))) (sym own)
      (subst (λ (l : List Section). Same (exec (record n.sections { live = l }) s.section.id (program w n.regs) (start n)) (exec u s.section.id (program w n.regs) (start m))) (sym live)
      (plan_same s n.sections u live places fit
      (λ access at. may_keyless n.sections.live u.live same s.section.id access at ∙ ap (λ (l : List Section). may l s.section.id access at) live)
      (λ at. extends_keyless n.sections.live u.live same s.section.id at ∙ ap (λ (l : List Section). extends l s.section.id at) live)
      (program w n.regs) (start n) mem agree shown)))

  instruction_same : is_module_word (word n.mem (pc_of n)) ≡ false → PlanShowsNone s (program (word n.mem (pc_of n)) n.regs) (start n) → word mem (pc_of n) ≡ word n.mem (pc_of n)
      → Same (instruction mac n) (instruction nac m)
  instruction_same plain shown e =
      let w = word n.mem (pc_of n) in
      let one : instruction mac n ≡ exec n.sections (own_of n) (program w n.regs) (start n) = rw plain refl in
      let plain2 : is_module_word (word mem (pc_of n)) ≡ false = ap is_module_word e ∙ plain in
      let two : instruction nac m ≡ exec u (own_of m) (program w n.regs) (start m) = rw plain2 (ap (λ (z : ℕ). exec u (own_of m) (program z n.regs) (start m)) e) in
      subst (λ (o : Outcome). Same o (instruction nac m)) (sym one) (subst (λ (o : Outcome). Same (exec n.sections (own_of n) (program w n.regs) (start n)) o) (sym two) (plain_same w shown))

  ifs_same : (b c : Bool) (o p : Outcome) (v : Violation) → c ≡ b → (b ≡ true → Same o p) → Same (cond b o (Violated v)) (cond c p (Violated v))
  ifs_same true true o p v e f = f refl
  ifs_same false false o p v e f = refl
  ifs_same true false o p v e f = absurd (Rattle.std.proofs.lemmas.Bool.true≢false (sym e))
  ifs_same false true o p v e f = absurd (Rattle.std.proofs.lemmas.Bool.true≢false e)

  pub attempt_same : is_module_word (word n.mem (pc_of n)) ≡ false → PlanShowsNone s (program (word n.mem (pc_of n)) n.regs) (start n) → Same (attempt mac n) (attempt nac m)
  attempt_same plain shown =
      ifs_same (word_outside n.sections.live (pc_of n)) (word_outside u.live (pc_of n)) (ordered mac n (device_at n.devices (pc_of n))) (ordered nac m (device_at n.devices (pc_of n))) bad.Fetch
      (ap₂ (λ b c. b && c) (outside_keyless n.sections.live u.live same (even (pc_of n))) (outside_keyless n.sections.live u.live same (even (pc_of n) + 1)))
      (λ e. by (device_at n.devices (pc_of n)) (word_twin e))
    where
      by : (d : Option ℕ) → word mem (pc_of n) ≡ word n.mem (pc_of n) → Same (ordered mac n d) (ordered nac m d)
      by (Some device) e = refl
      by None e =
          ifs_same (in_order n.sections.live n.cur (pc_of n)) (in_order u.live n.cur (pc_of n)) (instruction mac n) (instruction nac m) bad.Order
          (order_keyless n.sections.live u.live same n.cur (pc_of n)) (λ o. instruction_same plain shown e)

  -- what is left, where both go on
  stays : (regs : List ℕ) → holder u.live (slice_index regs 0) ≡ holder n.sections.live (slice_index regs 0)
  stays regs = holder_keyless n.sections.live u.live same (slice_index regs 0)

  entered_same : entered_from m (own_of n) ≡ entered_from n (own_of n)
  entered_same = ap (λ (b : Bool). cond (own_of n == n.cur) n.caller (cond b n.last 0)) (live_keyless n.sections.live u.live same n.last)

  module _ (w v : Watched) (here : w.node ≡ n) (there : v.node ≡ m) (marks : SameMarks w.marks v.marks) where
    abbrev S : Outcome → Outcome → Type 0
    S o p = StepAbreast places (watched_on w (settled_step n o) (violation_of (settled_step n o).shown.event)) (watched_on v (settled_step m p) (violation_of (settled_step m p).shown.event))

    finished : (r : List ℕ) (x : Moment) (after : List ℕ) → AgreeAt places x.mem after → S (Finished r x) (Finished r (record x { mem = after }))
    finished r x after g =
        let b = (own_of n == 0) || (holder n.sections.live (slice_index r 0) == own_of n) in
        let c = (own_of m == 0) || (holder u.live (slice_index r 0) == own_of m) in
        let same_test : c ≡ b = ap (λ (o : ℕ). (o == 0) || (holder u.live (slice_index r 0) == o)) own_twin ∙ ap (λ (h : ℕ). (own_of n == 0) || (h == own_of n)) (stays r) in
        subst (λ (o : Option Violation). StepAbreast places (watched_on w (settled_step n (Finished r x)) o)
        (watched_on v (settled_step m (Finished r (record x { mem = after }))) (violation_of (cond c event.Quiet (event.Left (own_of m)))))) (sym (quiet b (own_of n)))
        (subst (λ (o : Option Violation). StepAbreast places (watched_on w (settled_step n (Finished r x)) None) (watched_on v (settled_step m (Finished r (record x { mem = after }))) o))
        (sym (quiet c (own_of m))) (record {
          nodes = record { rest = nodes; mem = g; live = same; next = next };
          event = ap₂ (λ (b : Bool) (o : ℕ). cond b event.Quiet (event.Left o)) same_test own_twin;
          marks = same_more w.marks v.marks _ _ marks
              (subst (λ (l : List Mark). SameMarks (marks_of_touches x.touches ++ l) (marks_of_touches x.touches ++ marks_of_event (cond c event.Quiet (event.Left (own_of m))) exchange)) (sym (no_mark b (own_of n) n.exchange))
              (subst (λ (l : List Mark). SameMarks (marks_of_touches x.touches ++ []) (marks_of_touches x.touches ++ l)) (sym (no_mark c (own_of m) exchange)) (same_all (marks_of_touches x.touches ++ []))));
        }))
      where
        nodes : (settled_step m (Finished r (record x { mem = after }))).state
            ≡ record (settled_step n (Finished r x)).state { mem = after; sections = u; key = key; exchange = exchange }
        nodes =
            ap (λ (o : ℕ). record (settled_step m (Finished r (record x { mem = after }))).state {
              cur = cond (holder u.live (slice_index r 0) == o) o 0;
              last = o;
              caller = entered_from m o;
            }) own_twin
            ∙ ap₂ (λ (h c : ℕ). record (settled_step n (Finished r x)).state {
              mem = after;
              sections = u;
              key = key;
              exchange = exchange;
              cur = cond (h == own_of n) (own_of n) 0;
              caller = c;
            }) (stays r) entered_same

    outcome : (o p : Outcome) → Same o p → S o p
    outcome (Finished r x) (Finished q y) h =
        subst (λ (z : Moment). S (Finished r x) (Finished q z)) (sym h.1.rest) (subst (λ (z : List ℕ). S (Finished r x) (Finished z (record x { mem = y.mem }))) (sym h.0) (finished r x y.mem h.1.mem))
    outcome (Violated a) (Violated b) h = h
    outcome (Finished r x) (Violated b) h = absurd h
    outcome (Finished r x) (Module q y t f d) h = absurd h
    outcome (Violated a) (Finished q y) h = absurd h
    outcome (Violated a) (Module q y t f d) h = absurd h
    outcome (Module r x t e c) p h = absurd h

    -- a plain instruction is the same step in both
    pub plain_abreast : is_module_word (word n.mem (pc_of n)) ≡ false → PlanShowsNone s (program (word n.mem (pc_of n)) n.regs) (start n) → StepAbreast places (watch mac w) (watch nac v)
    unfolding watch
    plain_abreast plain shown =
        subst (λ (z : State). StepAbreast places (watched_on w (settled_step z (attempt mac z)) (violation_of (settled_step z (attempt mac z)).shown.event)) (watch nac v)) (sym here)
        (subst (λ (z : State). StepAbreast places (watched_on w (settled_step n (attempt mac n)) (violation_of (settled_step n (attempt mac n)).shown.event))
        (watched_on v (settled_step z (attempt nac z)) (violation_of (settled_step z (attempt nac z)).shown.event))) (sym there)
        (outcome (attempt mac n) (attempt nac m) (attempt_same plain shown)))
