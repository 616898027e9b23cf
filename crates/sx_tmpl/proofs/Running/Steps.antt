-- One step of the module's own code: the instruction at PC is fetched, and it does what its plan owes.
use Rattle.std.proofs.Common.{◌≡◌, ℕ, suc, ◌+◌, ◌*◌, ◌%◌, ◌<◌, ◌≤◌, true, false, ◌==◌, List, Some, None, Ok, refl, sym, ◌∙◌, ap, subst, arith, cond, slice_index}
use Rattle.std.specs.Prelude.{slice_get, Result}
use Rattle.std.proofs.lemmas.Bool.{and_from, eq-eqb, ne_eqb}
use Rattle.std.proofs.lemmas.List.{append-nil}
use Rattle.sx_isa.proofs.StandingLemmas.{even_same}
use Rattle.sx_image.specs.Reach.{Stepped, Goes, Next, Ends}
use Rattle.sx_isa.specs.declared.instruction.Instr.{Instr}
use Rattle.sx_isa.specs.Reading.{instruction_at, length_of}
use Rattle.sx_bus.specs.Devices.{device_at}
use Rattle.sx_rules.specs.declared.access.Violation.{Violation}
use Rattle.sx_rules.specs.declared.access.Violation.TheVariants as bad
use Rattle.sx_rules.specs.Access.{holder}
use Rattle.spec_machine.specs.declared.kinds.Event.{Event}
use Rattle.spec_machine.specs.declared.kinds.Exchange.{Exchange}
use Rattle.spec_machine.specs.Memory.{word}
use Rattle.spec_machine.specs.Registers.{onward, at_pc}
use Rattle.spec_machine.specs.Plan.{Plan}
use Rattle.spec_machine.specs.Run.{Moment, Outcome, Finished, Violated, Module, fetch, after_fetch, exec}
use Rattle.spec_machine.specs.Rows.{row, row_of, with_words, program}
use Rattle.spec_machine.specs.Step.{pc_of, own_of, start, is_module_word, instruction, ordered, word_outside, attempt, settled_step}
use Rattle.spec_invocation.specs.Marks.{Mark}
use Rattle.sx_image.specs.Watched.{Watched, watch, watched_on, violation_of}
use Rattle.sx_tmpl.specs.Running.{sections_of, Regs, regs16, Fixed, Data, running_after, running, OutsideKept, Safe, cell}
use Rattle.sx_tmpl.specs.Unseen.{PlanShowsNone, StepShowsNone, WordShowsNone}
use Rattle.sx_tmpl.proofs.Running.MidRun.{Stands, Runs}
use Rattle.sx_tmpl.proofs.Running.Owned.{own_above, in_public_yes, run_outside, run_in_order, run_extends, run_holder}
use Rattle.sx_tmpl.proofs.Running.Mem.{word_is}
use Rattle.sx_tmpl.proofs.Running.Owes.{Owes, Met, owes_met, owes_shown, text_kept}

-- this word begins an instruction of n words
pub record Reads (w n : ℕ) (i : ℕ → ℕ → Instr) : Type 0 where
  pub plain : is_module_word w ≡ false
  pub count : length_of w ≡ Some n
  pub reads : (x y : ℕ) → instruction_at w x y ≡ Some (i x y, n)

-- words are in the text, with a word after them
pub record Text (f : Fixed) (P n : ℕ) (ws : List ℕ) : Type 0 where
  pub from : f.setup.section.layout.pub_from ≤ P
  pub to : P + 2 * n < f.setup.section.layout.pub_to
  pub is_even : P % 2 ≡ 0
  pub word : (k w : ℕ) → slice_get ws k ≡ Some w → cell f.entered (P + 2 * k) ≡ w

-- an address in the public section
pub record InText (f : Fixed) (a : ℕ) : Type 0 where
  pub from : f.setup.section.layout.pub_from ≤ a
  pub to : a < f.setup.section.layout.pub_to

-- PC is in the text, at this word
pub record Reached (f : Fixed) (r : Regs) (m : List ℕ) (w : ℕ) : Type 0 where
  pub here : f.setup.section.layout.pub_from ≤ r.pc
  pub ends : r.pc + 1 < f.setup.section.layout.pub_to
  pub is_even : r.pc % 2 ≡ 0
  pub is : cell m r.pc ≡ w

module _ (f : Fixed) (st : Stands f) (all : List Mark) (B : Watched → Violation → Type 0) (Q : Watched → Type 0) where
  abbrev pub R : ℕ → Watched → Type 0
  R n c = Runs f all B Q n c

  -- what is to follow a plain instruction that stays in the text
  abbrev pub Then : ℕ → Data → List ℕ → List ℕ → Type 0
  Then n d regs m = (r2 : Regs) × (regs ≡ regs16 f r2) × InText f r2.pc × (Safe f all (running f r2 (record d { mem = m })) → R n (running f r2 (record d { mem = m })))

  abbrev pub NoTell : List ℕ → Event → Exchange → List ℕ → Type 0
  NoTell regs event exchange m = ⊥

  -- a word of the text is that of the memory
  pub text_word : (m : List ℕ) (a w : ℕ) → OutsideKept f m → f.setup.section.layout.pub_from ≤ a → a + 1 < f.setup.section.layout.pub_to → cell f.entered a ≡ w → cell m a ≡ w
  unfolding cell
  text_word m a w k p q h =
      let lo = text_kept f st m a k (in_public_yes f.setup.section a p (omega arith)) in
      let hi = text_kept f st m (a + 1) k (in_public_yes f.setup.section (a + 1) (omega arith) q) in
      omega arith

  -- so it is where a word of these is
  pub reached : {P n : ℕ} {ws : List ℕ} (t : Text f P n ws) (k w : ℕ) → slice_get ws k ≡ Some w → k + 1 ≤ n → (r : Regs) (m : List ℕ) → r.pc ≡ P + 2 * k → OutsideKept f m → Reached f r m w
  reached t k w has fits r m pc kept =
      let here : f.setup.section.layout.pub_from ≤ r.pc = omega (arith, t.from) in
      let ends : r.pc + 1 < f.setup.section.layout.pub_to = omega (arith, t.to) in
      record { here = here; ends = ends; is_even = omega (arith, t.is_even); is = text_word m r.pc w kept here ends (ap (cell f.entered) pc ∙ t.word k w has) }

  -- the tests of PC are passed
  pub tests_passed : (e : Event) (r : Regs) (d : Data) → Safe f all (running_after e f r d) → f.setup.section.layout.pub_from ≤ r.pc → r.pc + 1 < f.setup.section.layout.pub_to → r.pc % 2 ≡ 0
      → attempt f.setup.mac (running_after e f r d).node ≡ instruction f.setup.mac (running_after e f r d).node
  tests_passed e r d safe p q ev =
      let lt : r.pc < f.setup.section.layout.pub_to = omega arith in
      let e0 = even_same r.pc ev in
      let o1 = run_outside f st r.pc p lt in
      let o2 = run_outside f st (r.pc + 1) (omega arith) q in
      let dev : device_at d.devices r.pc ≡ None = safe.devices r.pc ∙ st.public_plain r.pc (in_public_yes f.setup.section r.pc p lt) in
      let ord = run_in_order f st r.pc p lt in
      let s = (running_after e f r d).node in
      let out : word_outside f.setup.live r.pc ≡ true = rw e0 (and_from _ _ o1 o2) in
      ap (λ b. cond b (ordered f.setup.mac s (device_at d.devices r.pc)) (Violated bad.Fetch)) out
      ∙ ap (ordered f.setup.mac s) dev
      ∙ ap (λ b. cond b (instruction f.setup.mac s) (Violated bad.Order)) ord

  pub plain_instruction : (e : Event) (r : Regs) (d : Data) (w : ℕ) → f.setup.section.layout.pub_from ≤ r.pc → r.pc + 1 < f.setup.section.layout.pub_to → r.pc % 2 ≡ 0 → cell d.mem r.pc ≡ w
      → is_module_word w ≡ false → instruction f.setup.mac (running_after e f r d).node ≡ exec (sections_of f) f.setup.section.id (program w (regs16 f r)) (start (running_after e f r d).node)
  plain_instruction e r d w p q ev h plain =
      let e1 : word d.mem r.pc ≡ w = word_is d.mem r.pc ev ∙ h in
      let e2 = run_holder f st r.pc p (omega arith) in
      rw (e1, plain, e2) refl

  -- what a watched node comes to by an instruction's outcome
  abbrev pub by_outcome : Watched → Outcome → Stepped Watched Violation
  by_outcome c o = watched_on c (settled_step c.node o) (violation_of (settled_step c.node o).shown.event)

  -- a step that is what was owed
  pub from_met : (n : ℕ) (e : Event) (r : Regs) (d : Data) (o : Outcome) → Safe f all (running_after e f r d) → StepShowsNone f.setup f.entered (running_after e f r d) → InText f r.pc → attempt f.setup.mac (running_after e f r d).node ≡ o
      → Met f (Then n d) NoTell (B (running_after e f r d)) (start (running_after e f r d).node) o → R (suc n) (running_after e f r d)
  unfolding watch
  from_met n e r d (Finished regs y) safe shown here at h =
      let c = running_after e f r d in
      let r2 = h.2.0 in
      let d2 : Data = record d { mem = y.mem } in
      let o : Outcome = Finished (regs16 f r2) (record (start c.node) { mem = y.mem }) in
      let is : Finished regs y ≡ o = ap (λ z. Finished regs z) h.0 ∙ ap (λ g. Finished g (record (start c.node) { mem = y.mem })) h.2.1 in
      let own : own_of c.node ≡ f.setup.section.id = run_holder f st r.pc here.from here.to in
      let to : holder f.setup.live r2.pc ≡ f.setup.section.id = run_holder f st r2.pc h.2.2.from h.2.2.to in
      let same : (f.setup.section.id == f.setup.section.id) ≡ true = eq-eqb f.setup.section.id f.setup.section.id refl in
      let ne : (f.setup.section.id == 0) ≡ false = ne_eqb f.setup.section.id 0 (omega (arith, own_above f st)) in
      let s : watch f.setup.mac c ≡ Goes (running f r2 d2) = ap (by_outcome c) (at ∙ is) ∙ rw (own, to, same, ne) (ap (λ l. Goes (running f r2 (record d2 { marks = l }))) (append-nil d.marks)) in
      let safe2 : Safe f all (running f r2 d2) = record { inside = to; sections = refl; memory = h.1; devices = safe.devices; marks = safe.marks } in
      Next {k = n} (safe, shown) s (omega arith) (h.2.3 safe2)
  from_met n e r d (Violated v) safe shown here at h = Ends (safe, shown) (rw at refl) (omega arith) h
  from_met n e r d (Module regs y t event exchange) safe shown here at h = absurd h.3

  -- an extension word of the text is fetched
  pub fetched : (at a w : ℕ) (x : Moment) → at ≡ a → f.setup.section.layout.pub_from ≤ a → a + 1 < f.setup.section.layout.pub_to → a % 2 ≡ 0
      → ((b : ℕ) → device_at x.devices b ≡ device_at f.devices b) → cell x.mem a ≡ w → fetch f.setup.live f.setup.section.id at x ≡ Ok w
  fetched at a w x e p q ev same is =
      let e0 = even_same a ev in
      let x1 = run_extends f st a p (omega arith) in
      let x2 = run_extends f st (a + 1) (omega arith) q in
      let dev : device_at x.devices a ≡ None = same a ∙ st.public_plain a (in_public_yes f.setup.section a p (omega arith)) in
      rw (e, e0, x1, x2, dev) (ap (λ v. Ok v) (word_is x.mem a ev ∙ is))

  abbrev pub exec_own : Plan → Moment → Outcome
  exec_own p x = exec (sections_of f) f.setup.section.id p x

  pub program_one : (w : ℕ) (i : ℕ → ℕ → Instr) (regs : List ℕ) (x : Moment) → Reads w 1 i
      → exec_own (program w regs) x ≡ exec_own (row (i 0 0) (at_pc regs (onward (slice_index regs 0) 2)) (onward (slice_index regs 0) 2)) x
  unfolding program
  program_one w i regs x h =
      let c = h.count in
      let y = h.reads 0 0 in
      rw (c, y) refl

  pub program_two : (w u : ℕ) (i : ℕ → ℕ → Instr) (regs : List ℕ) (x : Moment) → Reads w 2 i → fetch f.setup.live f.setup.section.id (onward (slice_index regs 0) 2) x ≡ Ok u
      → exec_own (program w regs) x ≡ exec_own (row (i u 0) (at_pc regs (onward (slice_index regs 0) 2)) (onward (slice_index regs 0) 4)) x
  unfolding program
  program_two w u i regs x h e =
      let c = h.count in
      let y = h.reads u 0 in
      let pc = slice_index regs 0 in
      ap (λ n. exec_own (with_words n w (at_pc regs (onward pc 2)) pc) x) c
      ∙ ap (λ r. after_fetch r (λ u. exec_own (row_of (instruction_at w u 0) (at_pc regs (onward pc 2)) pc) x)) e
      ∙ ap (λ o. exec_own (row_of o (at_pc regs (onward pc 2)) pc) x) y

  pub program_three : (w u v : ℕ) (i : ℕ → ℕ → Instr) (regs : List ℕ) (x : Moment) → Reads w 3 i → fetch f.setup.live f.setup.section.id (onward (slice_index regs 0) 2) x ≡ Ok u
      → fetch f.setup.live f.setup.section.id (onward (slice_index regs 0) 4) x ≡ Ok v
      → exec_own (program w regs) x ≡ exec_own (row (i u v) (at_pc regs (onward (slice_index regs 0) 2)) (onward (slice_index regs 0) 6)) x
  unfolding program
  program_three w u v i regs x h e e2 =
      let c = h.count in
      let y = h.reads u v in
      let pc = slice_index regs 0 in
      ap (λ n. exec_own (with_words n w (at_pc regs (onward pc 2)) pc) x) c
      ∙ ap (λ r. after_fetch r (λ u. after_fetch (fetch f.setup.live f.setup.section.id (onward pc 4) x) (λ v. exec_own (row_of (instruction_at w u v) (at_pc regs (onward pc 2)) pc) x))) e
      ∙ ap (λ r. after_fetch r (λ v. exec_own (row_of (instruction_at w u v) (at_pc regs (onward pc 2)) pc) x)) e2
      ∙ ap (λ o. exec_own (row_of o (at_pc regs (onward pc 2)) pc) x) y

  -- and so does what it shows
  pub shown_one : (w : ℕ) (i : ℕ → ℕ → Instr) (regs : List ℕ) (x : Moment) → Reads w 1 i
      → PlanShowsNone f.setup (row (i 0 0) (at_pc regs (onward (slice_index regs 0) 2)) (onward (slice_index regs 0) 2)) x → PlanShowsNone f.setup (program w regs) x
  unfolding program
  shown_one w i regs x h shown =
      let c = h.count in
      let y = h.reads 0 0 in
      rw (c, y) shown

  got_same : (u v : ℕ) (r : Result ℕ Violation) → r ≡ Ok u → r ≡ Ok v → u ≡ v
  got_same u v r h e = let is : ◌≡◌ {A = Result ℕ Violation} (Ok u) (Ok v) = sym h ∙ e in cc

  pub shown_two : (w u : ℕ) (i : ℕ → ℕ → Instr) (regs : List ℕ) (x : Moment) → Reads w 2 i → fetch f.setup.live f.setup.section.id (onward (slice_index regs 0) 2) x ≡ Ok u
      → PlanShowsNone f.setup (row (i u 0) (at_pc regs (onward (slice_index regs 0) 2)) (onward (slice_index regs 0) 4)) x → PlanShowsNone f.setup (program w regs) x
  unfolding program
  shown_two w u i regs x h e shown =
      let c = h.count in
      let pc = slice_index regs 0 in
      subst (λ n. PlanShowsNone f.setup (with_words n w (at_pc regs (onward pc 2)) pc) x) (sym c) (λ v g.
      let same = got_same u v (fetch f.setup.live f.setup.section.id (onward pc 2) x) e g in
      let y = h.reads u 0 in
      subst (λ (v : ℕ). PlanShowsNone f.setup (row_of (instruction_at w v 0) (at_pc regs (onward pc 2)) pc) x) same
      (subst (λ o. PlanShowsNone f.setup (row_of o (at_pc regs (onward pc 2)) pc) x) (sym y) shown))

  pub shown_three : (w u v : ℕ) (i : ℕ → ℕ → Instr) (regs : List ℕ) (x : Moment) → Reads w 3 i → fetch f.setup.live f.setup.section.id (onward (slice_index regs 0) 2) x ≡ Ok u
      → fetch f.setup.live f.setup.section.id (onward (slice_index regs 0) 4) x ≡ Ok v
      → PlanShowsNone f.setup (row (i u v) (at_pc regs (onward (slice_index regs 0) 2)) (onward (slice_index regs 0) 6)) x → PlanShowsNone f.setup (program w regs) x
  unfolding program
  shown_three w u v i regs x h e e2 shown =
      let c = h.count in
      let pc = slice_index regs 0 in
      subst (λ n. PlanShowsNone f.setup (with_words n w (at_pc regs (onward pc 2)) pc) x) (sym c) (λ a g b g2.
      let same = got_same u a (fetch f.setup.live f.setup.section.id (onward pc 2) x) e g in
      let same2 = got_same v b (fetch f.setup.live f.setup.section.id (onward pc 4) x) e2 g2 in
      let y = h.reads u v in
      subst (λ (a : ℕ). PlanShowsNone f.setup (row_of (instruction_at w a b) (at_pc regs (onward pc 2)) pc) x) same
      (subst (λ (b : ℕ). PlanShowsNone f.setup (row_of (instruction_at w u b) (at_pc regs (onward pc 2)) pc) x) same2
      (subst (λ o. PlanShowsNone f.setup (row_of o (at_pc regs (onward pc 2)) pc) x) (sym y) shown)))

  -- so a step whose plan shows no key shows none
  pub step_shown : (c : Watched) (w : ℕ) → pc_of c.node % 2 ≡ 0 → cell c.node.mem (pc_of c.node) ≡ w → is_module_word w ≡ false → PlanShowsNone f.setup (program w c.node.regs) (start c.node)
      → StepShowsNone f.setup f.entered c
  step_shown c w ev h plain shown =
      let s = c.node in
      let e1 : word s.mem (pc_of s) ≡ w = word_is s.mem (pc_of s) ev ∙ h in
      subst (λ (z : ℕ). WordShowsNone f.setup f.entered c z (is_module_word z)) (sym e1) (subst (λ b. WordShowsNone f.setup f.entered c w b) (sym plain) shown)

  pub onward_to : (a b n : ℕ) → a + n ≡ b → b < 65536 → onward a n ≡ b
  onward_to a b n e h = omega arith

  abbrev Meets : ℕ → Event → Regs → Data → Outcome → Type 0
  Meets j e r d o = Met f (Then j d) NoTell (B (running_after e f r d)) (start (running_after e f r d).node) o

  -- an instruction of one word, the k-th of these words, and what is to follow it
  pub one : {P n : ℕ} {ws : List ℕ} (t : Text f P n ws) (k w : ℕ) (i : ℕ → ℕ → Instr) → slice_get ws k ≡ Some w → k + 1 ≤ n → Reads w 1 i
      → (e : Event) (r : Regs) (d : Data) (j : ℕ) → r.pc ≡ P + 2 * k → Safe f all (running_after e f r d)
      → Owes f (Then j d) NoTell (B (running_after e f r d)) (row (i 0 0) (at_pc (regs16 f r) (P + 2 * (k + 1))) (P + 2 * (k + 1))) d.mem
      → R (suc j) (running_after e f r d)
  one {P = P} {n = n} t k w i has fits reads e r d j pc safe owed =
      let h = reached t k w has fits r d.mem pc safe.memory in
      let next : onward r.pc 2 ≡ P + 2 * (k + 1) = onward_to r.pc (P + 2 * (k + 1)) 2 (omega arith) (omega (arith, t.to, st.below)) in
      let x = start (running_after e f r d).node in
      let at = tests_passed e r d safe h.here h.ends h.is_even ∙ plain_instruction e r d w h.here h.ends h.is_even h.is reads.plain ∙ program_one w i (regs16 f r) x reads
      ∙ ap (λ b. exec_own (row (i 0 0) (at_pc (regs16 f r) b) b) x) next in
      let p : ℕ → Plan = λ b. row (i 0 0) (at_pc (regs16 f r) b) b in
      let shown = step_shown (running_after e f r d) w h.is_even h.is reads.plain (shown_one w i (regs16 f r) x reads (subst (λ b. PlanShowsNone f.setup (p b) x) (sym next)
      (owes_shown f st (Then j d) NoTell (B (running_after e f r d)) (p (P + 2 * (k + 1))) x safe.devices safe.memory owed))) in
      from_met j e r d _ safe shown (record { from = h.here; to = omega (arith, h.ends) }) at (owes_met f st (Then j d) NoTell (B (running_after e f r d)) _ x safe.devices safe.memory owed)

  -- what an instruction with an extension word does, and that it shows no key if its plan shows none
  pub two_does : {P n : ℕ} {ws : List ℕ} (t : Text f P n ws) (k w u : ℕ) (i : ℕ → ℕ → Instr) → slice_get ws k ≡ Some w → slice_get ws (k + 1) ≡ Some u → k + 2 ≤ n → Reads w 2 i
      → (e : Event) (r : Regs) (d : Data) → r.pc ≡ P + 2 * k → Safe f all (running_after e f r d)
      → (let x = start (running_after e f r d).node in let p = row (i u 0) (at_pc (regs16 f r) (P + 2 * (k + 1))) (P + 2 * (k + 2)) in
      (attempt f.setup.mac (running_after e f r d).node ≡ exec_own p x) × (PlanShowsNone f.setup p x → StepShowsNone f.setup f.entered (running_after e f r d)))
  two_does {P = P} {n = n} t k w u i has has1 fits reads e r d pc safe =
      let low = t.from in
      let high = t.to in
      let even = t.is_even in
      let lim = st.below in
      let h = reached t k w has (omega arith) r d.mem pc safe.memory in
      let next : onward r.pc 2 ≡ P + 2 * (k + 1) = onward_to r.pc (P + 2 * (k + 1)) 2 (omega arith) (omega arith) in
      let next2 : onward r.pc 4 ≡ P + 2 * (k + 2) = onward_to r.pc (P + 2 * (k + 2)) 4 (omega arith) (omega arith) in
      let x = start (running_after e f r d).node in
      let is1 : cell d.mem (P + 2 * (k + 1)) ≡ u = text_word d.mem (P + 2 * (k + 1)) u safe.memory (omega arith) (omega arith) (t.word (k + 1) u has1) in
      let got = fetched (onward r.pc 2) (P + 2 * (k + 1)) u x next (omega arith) (omega arith) (omega arith) safe.devices is1 in
      let p : ℕ → ℕ → Plan = λ b c. row (i u 0) (at_pc (regs16 f r) b) c in (
        tests_passed e r d safe h.here h.ends h.is_even ∙ plain_instruction e r d w h.here h.ends h.is_even h.is reads.plain ∙ program_two w u i (regs16 f r) x reads got
            ∙ ap (λ b. exec_own (p b (onward r.pc 4)) x) next ∙ ap (λ b. exec_own (p (P + 2 * (k + 1)) b) x) next2,
        λ none. step_shown (running_after e f r d) w h.is_even h.is reads.plain (shown_two w u i (regs16 f r) x reads got
            (subst (λ b. PlanShowsNone f.setup (p b (onward r.pc 4)) x) (sym next) (subst (λ c. PlanShowsNone f.setup (p (P + 2 * (k + 1)) c) x) (sym next2) none))),
      )

  -- and what is to follow it
  pub two_met : {P n : ℕ} {ws : List ℕ} (t : Text f P n ws) (k w u : ℕ) (i : ℕ → ℕ → Instr) → slice_get ws k ≡ Some w → slice_get ws (k + 1) ≡ Some u → k + 2 ≤ n → Reads w 2 i
      → (e : Event) (r : Regs) (d : Data) (j : ℕ) → r.pc ≡ P + 2 * k → Safe f all (running_after e f r d)
      → Meets j e r d (exec_own (row (i u 0) (at_pc (regs16 f r) (P + 2 * (k + 1))) (P + 2 * (k + 2))) (start (running_after e f r d).node))
      → PlanShowsNone f.setup (row (i u 0) (at_pc (regs16 f r) (P + 2 * (k + 1))) (P + 2 * (k + 2))) (start (running_after e f r d).node)
      → R (suc j) (running_after e f r d)
  two_met t k w u i has has1 fits reads e r d j pc safe met none =
      let does = two_does t k w u i has has1 fits reads e r d pc safe in
      from_met j e r d _ safe (does.1 none) (record { from = omega (arith, t.from, pc); to = omega (arith, t.to, pc, fits) }) does.0 met

  -- by what it owes
  pub two : {P n : ℕ} {ws : List ℕ} (t : Text f P n ws) (k w u : ℕ) (i : ℕ → ℕ → Instr) → slice_get ws k ≡ Some w → slice_get ws (k + 1) ≡ Some u → k + 2 ≤ n → Reads w 2 i
      → (e : Event) (r : Regs) (d : Data) (j : ℕ) → r.pc ≡ P + 2 * k → Safe f all (running_after e f r d)
      → Owes f (Then j d) NoTell (B (running_after e f r d)) (row (i u 0) (at_pc (regs16 f r) (P + 2 * (k + 1))) (P + 2 * (k + 2))) d.mem
      → R (suc j) (running_after e f r d)
  two {P = P} {n = n} t k w u i has has1 fits reads e r d j pc safe owed =
      let x = start (running_after e f r d).node in
      let p = row (i u 0) (at_pc (regs16 f r) (P + 2 * (k + 1))) (P + 2 * (k + 2)) in
      two_met t k w u i has has1 fits reads e r d j pc safe (owes_met f st (Then j d) NoTell (B (running_after e f r d)) p x safe.devices safe.memory owed)
      (owes_shown f st (Then j d) NoTell (B (running_after e f r d)) p x safe.devices safe.memory owed)

  -- and with two
  pub three_met : {P n : ℕ} {ws : List ℕ} (t : Text f P n ws) (k w u v : ℕ) (i : ℕ → ℕ → Instr) → slice_get ws k ≡ Some w → slice_get ws (k + 1) ≡ Some u → slice_get ws (k + 2) ≡ Some v → k + 3 ≤ n
      → Reads w 3 i
      → (e : Event) (r : Regs) (d : Data) (j : ℕ) → r.pc ≡ P + 2 * k → Safe f all (running_after e f r d)
      → Meets j e r d (exec_own (row (i u v) (at_pc (regs16 f r) (P + 2 * (k + 1))) (P + 2 * (k + 3))) (start (running_after e f r d).node))
      → PlanShowsNone f.setup (row (i u v) (at_pc (regs16 f r) (P + 2 * (k + 1))) (P + 2 * (k + 3))) (start (running_after e f r d).node)
      → R (suc j) (running_after e f r d)
  three_met {P = P} {n = n} t k w u v i has has1 has2 fits reads e r d j pc safe met none =
      let low = t.from in
      let high = t.to in
      let even = t.is_even in
      let lim = st.below in
      let h = reached t k w has (omega arith) r d.mem pc safe.memory in
      let next : onward r.pc 2 ≡ P + 2 * (k + 1) = onward_to r.pc (P + 2 * (k + 1)) 2 (omega arith) (omega arith) in
      let next2 : onward r.pc 4 ≡ P + 2 * (k + 2) = onward_to r.pc (P + 2 * (k + 2)) 4 (omega arith) (omega arith) in
      let next3 : onward r.pc 6 ≡ P + 2 * (k + 3) = onward_to r.pc (P + 2 * (k + 3)) 6 (omega arith) (omega arith) in
      let x = start (running_after e f r d).node in
      let is1 : cell d.mem (P + 2 * (k + 1)) ≡ u = text_word d.mem (P + 2 * (k + 1)) u safe.memory (omega arith) (omega arith) (t.word (k + 1) u has1) in
      let is2 : cell d.mem (P + 2 * (k + 2)) ≡ v = text_word d.mem (P + 2 * (k + 2)) v safe.memory (omega arith) (omega arith) (t.word (k + 2) v has2) in
      let got = fetched (onward r.pc 2) (P + 2 * (k + 1)) u x next (omega arith) (omega arith) (omega arith) safe.devices is1 in
      let got2 = fetched (onward r.pc 4) (P + 2 * (k + 2)) v x next2 (omega arith) (omega arith) (omega arith) safe.devices is2 in
      let at = tests_passed e r d safe h.here h.ends h.is_even ∙ plain_instruction e r d w h.here h.ends h.is_even h.is reads.plain ∙ program_three w u v i (regs16 f r) x reads got got2
      ∙ ap (λ b. exec_own (row (i u v) (at_pc (regs16 f r) b) (onward r.pc 6)) x) next ∙ ap (λ b. exec_own (row (i u v) (at_pc (regs16 f r) (P + 2 * (k + 1))) b) x) next3 in
      let p : ℕ → ℕ → Plan = λ b c. row (i u v) (at_pc (regs16 f r) b) c in
      let shown = step_shown (running_after e f r d) w h.is_even h.is reads.plain (shown_three w u v i (regs16 f r) x reads got got2 (subst (λ b. PlanShowsNone f.setup (p b (onward r.pc 6)) x) (sym next)
      (subst (λ c. PlanShowsNone f.setup (p (P + 2 * (k + 1)) c) x) (sym next3) none))) in
      from_met j e r d _ safe shown (record { from = h.here; to = omega (arith, h.ends) }) at met

  -- by what it owes
  pub three : {P n : ℕ} {ws : List ℕ} (t : Text f P n ws) (k w u v : ℕ) (i : ℕ → ℕ → Instr) → slice_get ws k ≡ Some w → slice_get ws (k + 1) ≡ Some u → slice_get ws (k + 2) ≡ Some v → k + 3 ≤ n
      → Reads w 3 i
      → (e : Event) (r : Regs) (d : Data) (j : ℕ) → r.pc ≡ P + 2 * k → Safe f all (running_after e f r d)
      → Owes f (Then j d) NoTell (B (running_after e f r d)) (row (i u v) (at_pc (regs16 f r) (P + 2 * (k + 1))) (P + 2 * (k + 3))) d.mem
      → R (suc j) (running_after e f r d)
  three {P = P} {n = n} t k w u v i has has1 has2 fits reads e r d j pc safe owed =
      let x = start (running_after e f r d).node in
      let p = row (i u v) (at_pc (regs16 f r) (P + 2 * (k + 1))) (P + 2 * (k + 3)) in
      three_met t k w u v i has has1 has2 fits reads e r d j pc safe (owes_met f st (Then j d) NoTell (B (running_after e f r d)) p x safe.devices safe.memory owed)
      (owes_shown f st (Then j d) NoTell (B (running_after e f r d)) p x safe.devices safe.memory owed)
