-- Whatever happens to a node, it stays one.
use Rattle.std.proofs.Common.{◌≡◌, ℕ, ◌-◌, ◌<◌, ◌⊎◌, ◌==◌, not, inl, inr, Bool, true, false, cond, if◌then◌else◌, List, [], ◌∷◌, length, Option, Some, None, refl, sym, ◌∙◌, ap, subst, arith}
use Rattle.std.specs.Prelude.{slice_index, slice_set}
use Rattle.std.proofs.lemmas.Bool.{cases_Bool, eqb-true}
use Rattle.sx_rules.specs.declared.access.Violation.TheVariants as bad
use Rattle.sx_rules.specs.declared.section.Section.{Section}
use Rattle.sx_rules.specs.declared.section.Layout.{Layout}
use Rattle.sx_rules.specs.declared.admission.Refusal.{Refusal}
use Rattle.sx_rules.specs.declared.admission.Refusal.TheVariants.{Bounds, Overlap, Device, Full, Ids}
use Rattle.sx_rules.specs.Access.{Sections, Lives, section_of, holder, in_public, in_order}
use Rattle.sx_rules.specs.Admission.{refusal}
use Rattle.sx_rules.specs.Placed.{Placed, AllSound}
use Rattle.sx_rules.proofs.Placing.{starts_placed}
use Rattle.sx_rules.proofs.Admits.{admits}
use Rattle.sx_bus.specs.declared.devices.Window.{Window}
use Rattle.sx_bus.specs.Devices.{ArePlaces, HaveSamples, places_of, device_at, with_sample, all_stale}
use Rattle.sx_bus.proofs.Bytes.{AreMemoryBytes-blank}
use Rattle.sx_tag.specs.Mac.{Mac}
use Rattle.sx_tag.specs.Wrap.{wrapped, unwrapped}
use Rattle.spec_machine.specs.declared.kinds.Refused.{Refused}
use Rattle.spec_machine.specs.declared.kinds.Exchange.{Exchange}
use Rattle.spec_machine.specs.declared.kinds.Event.TheVariants as event
use Rattle.spec_machine.specs.Memory.{word, put_bytes}
use Rattle.spec_machine.specs.Registers.{set_reg}
use Rattle.spec_machine.specs.State.{State, reset}
use Rattle.spec_machine.specs.Plan.{Plan, Tell, Writable, Bytes, Put}
use Rattle.spec_machine.specs.Run.{Moment, Outcome, Finished, Violated, Module, exec}
use Rattle.spec_machine.specs.Rows.{program}
use Rattle.spec_machine.specs.Given.{Given, own_section, untouched_with, concluded}
use Rattle.spec_machine.specs.Protect.{layout_in, number_of, answer_registers, wiped, protected_if, protect, removed_if, unprotect}
use Rattle.spec_machine.specs.ModuleRows.{answer, within, vouches, exchanged, attested, attest, own_key, with_key, with_inputs, wrap, opened, unwrap, module_row}
use Rattle.spec_machine.specs.Modules.{module_instruction}
use Rattle.spec_machine.specs.Step.{Shown, step, own_of, pc_of, start, is_live, entered_from, is_module_word, given_at_pc, instruction, ordered, word_outside, attempt, state_after, settled_step}
use Rattle.spec_machine.specs.Acts.{unless, put_refusal, take_refusal, busy, irq_refusal, interrupt, interrupted}
use Rattle.spec_machine.specs.Acting.{Act, Step, Restart, Put as PutAct, Set, Take, Sense, Interrupt, acted, ActInForm}
use Rattle.spec_machine.proofs.Sections.{acted_placed}
use Rattle.sx_bus.specs.Memory.{AreMemoryBytes}
use Rattle.sx_bus.proofs.Changed.{HaveSamples-with_sample, HaveSamples-all_stale}
use Rattle.spec_machine.specs.Node.{AreRegisters, AreApartDevices, IsNode}
use Rattle.spec_machine.specs.NodeLaws.{shapes, PowerOnIsNode, StaysNode, KeepsDevices, KeepsKey}
use Rattle.spec_machine.proofs.Registers.{set_registers, set_reg_registers, concluded_registers, word_small, put_small, zeroed_small, zero_registers}
use Rattle.spec_machine.proofs.Devices.{some_inj, sensed_shapes, stale_shapes, same_places}
use Rattle.spec_machine.proofs.Events.{ToldBy, attempt_told}
use Rattle.spec_machine.proofs.Apart.{apart_told}
use Rattle.spec_machine.proofs.Ranged.{Ranged, Words, no_words, Steady, RangedBy, ranged_outcome, exec_ranged, ranged_if, ranged_program, ranged_interrupt}

-- Ids are words.

pub found_lives : (live : List Section) (id : ℕ) (sec : Section) → section_of live id ≡ Some sec → Lives live sec × (sec.id ≡ id)
found_lives [] id sec e = absurd cc
found_lives (x ∷ live) id sec e = elim (cases_Bool (x.id == id)) [
  | inl h ↦
      let same : x ≡ sec = some_inj x sec (sym (ap (λ b. cond b (Some x) (section_of live id)) h) ∙ e) in
      (inl same, ap (λ (z : Section). z.id) (sym same) ∙ eqb-true x.id id h)
  | inr h ↦ let p = found_lives live id sec (sym (ap (λ b. cond b (Some x) (section_of live id)) h) ∙ e) in (inr p.0, p.1)
]

pub lives_below : (next : ℕ) (live : List Section) (s : Section) → AllSound next live → Lives live s → s.id < next
lives_below next [] s h l = absurd l
lives_below next (x ∷ live) s h l = elim l [ inl e ↦ subst (λ (z : Section). z.id < next) e h.0.below | inr r ↦ lives_below next live s h.1 r ]

pub id_small : (t : Sections) (s : Section) → Placed t → Lives t.live s → s.id < 65536
id_small t s p l = omega (arith, lives_below t.next t.live s p.each l, p.last)

holder_below : (next : ℕ) (live : List Section) (at : ℕ) → 0 < next → AllSound next live → holder live at < next
holder_below next [] at z h = z
holder_below next (s ∷ live) at z h = by (in_public s at) (holder_below next live at z h.1)
  where
    by : (b : Bool) → holder live at < next → (if b then s.id else holder live at) < next
    by true g = h.0.below
    by false g = g

pub holder_small : (t : Sections) (at : ℕ) → Placed t → holder t.live at < 65536
holder_small t at p = omega (arith, holder_below t.next t.live at p.first p.each, p.last)

pub entered_small : (s : State) (own : ℕ) → s.last < 65536 → s.caller < 65536 → entered_from s own < 65536
entered_small s own l c = by (own == s.cur) (is_live s.sections.live s.last)
  where
    by : (a b : Bool) → (if a then s.caller else if b then s.last else 0) < 65536
    by true b = c
    by false true = l
    by false false = omega arith

-- The module instructions.

ranged_answer : (g : Given) (v : ℕ) → AreRegisters g.regs → v < 65536 → Ranged (answer g v)
ranged_answer g v h lt = concluded_registers g.regs v h lt

ranged_within : (g : Given) (f : Section → Plan) (o : Option Section) → AreRegisters g.regs → ((s : Section) → Ranged (f s)) → Ranged (within g f o)
ranged_within g f None h r = ranged_answer g 0 h (omega arith)
ranged_within g f (Some s) h r = r s

ranged_attested : (mac : Mac) (g : Given) (own : Section) (tag : List ℕ) (id : ℕ) (o : Option Section)
    → section_of g.sections.live id ≡ o → Placed g.sections → AreRegisters g.regs → Ranged (attested mac g own tag o)
ranged_attested mac g own tag id None e p h = ranged_answer g 0 h (omega arith)
ranged_attested mac g own tag id (Some s) e p h = λ text. by text (vouches mac own tag s text)
  where
    by : (text : List ℕ) (b : Bool) → Ranged (answer g (if b then s.id else 0))
    by text true = ranged_answer g s.id h (id_small g.sections s p (found_lives g.sections.live id s e).0)
    by text false = ranged_answer g 0 h (omega arith)

ranged_key : (g : Given) (own : Section) (rest : List ℕ → Plan) → ((k : List ℕ) → Ranged (rest k)) → Ranged (with_key g own rest)
ranged_key g own rest f = ranged_if (own_key g.regs) (rest own.key) (Bytes (slice_index g.regs 9) 16 rest) (f own.key) f

ranged_inputs : (g : Given) (own : Section) (rest : List ℕ → List ℕ → List ℕ → Plan) → ((k a b : List ℕ) → Ranged (rest k a b)) → Ranged (with_inputs g own rest)
ranged_inputs g own rest f = ranged_key g own (λ key. Bytes (slice_index g.regs 10) (slice_index g.regs 11)
    (λ ad. Bytes (slice_index g.regs 12) (slice_index g.regs 13) (λ text. rest key ad text))) (λ k a b. f k a b)

ranged_opened : (g : Given) (ad : List ℕ) (o : Option (List ℕ)) → AreRegisters g.regs → Ranged (opened g ad o)
ranged_opened g ad None h = ranged_answer g 0 h (omega arith)
ranged_opened g ad (Some body) h = concluded_registers g.regs 1 h (omega arith)

ranged_wrap : (mac : Mac) (g : Given) (own : Section) → AreRegisters g.regs → Ranged (wrap mac g own)
ranged_wrap mac g own h = ranged_inputs g own
    (λ key ad body. Put (slice_index g.regs 14) (wrapped mac key ad body).cipher
    (Put (slice_index g.regs 15) (wrapped mac key ad body).tag (Tell (concluded g.regs 1) (event.Wrapped g.own) (exchanged g.regs ad body))))
    (λ k a b. concluded_registers g.regs 1 h (omega arith))

ranged_unwrap : (mac : Mac) (g : Given) (own : Section) → AreRegisters g.regs → Ranged (unwrap mac g own)
ranged_unwrap mac g own h = ranged_inputs g own
    (λ key ad cipher. Bytes (slice_index g.regs 15) 16 (λ tag. Writable (slice_index g.regs 14) (slice_index g.regs 13) (opened g ad (unwrapped mac key ad cipher tag))))
    (λ k a b tag. ranged_opened g a (unwrapped mac k a b tag) h)

pub ranged_module : (mac : Mac) (code : ℕ) (g : Given) → Placed g.sections → g.caller < 65536 → AreRegisters g.regs → Ranged (module_row mac code g)
unfolding module_row
ranged_module mac code g p c h =
    let held = holder g.sections.live (slice_index g.regs 9) in
    ranged_if (code == 2) _ _ (ranged_within g (attest mac g) (own_section g) h (λ s tag. ranged_attested mac g s tag held (section_of g.sections.live held) refl p h))
    (ranged_if (code == 4) _ _ (ranged_within g (wrap mac g) (own_section g) h (λ s. ranged_wrap mac g s h))
    (ranged_if (code == 5) _ _ (ranged_within g (unwrap mac g) (own_section g) h (λ s. ranged_unwrap mac g s h))
    (ranged_if (code == 6) _ _ (ranged_answer g held h (holder_small g.sections (slice_index g.regs 9) p))
    (ranged_within g (λ own. answer g g.caller) (own_section g) h (λ s. ranged_answer g g.caller h c)))))

answered_registers : (regs : List ℕ) (id number : ℕ) → AreRegisters regs → id < 65536 → number < 65536 → AreRegisters (answer_registers regs id number)
answered_registers regs id number h a b = concluded_registers (slice_set regs 14 number) id (set_registers regs 14 number h (b, refl)) a

number_small : (r : Refusal) → number_of r < 65536
number_small Bounds = omega arith
number_small Overlap = omega arith
number_small Device = omega arith
number_small Full = omega arith
number_small Ids = omega arith

with_bytes : (g : Given) (mem : List ℕ) → HaveSamples g.devices → AreMemoryBytes mem → Steady g.devices (untouched_with g mem)
with_bytes g mem s h = record { memory = h; shapes = refl; samples = s; words = no_words }

protected_ranged : (mac : Mac) (g : Given) (mem : List ℕ) (l : Layout) (o : Option Refusal)
    → refusal g.sections l (places_of g.devices) ≡ o → AreRegisters g.regs → HaveSamples g.devices
    → AreMemoryBytes mem → RangedBy g.devices (protected_if mac g mem l o)
protected_ranged mac g mem l None e r s h = (
  answered_registers g.regs g.sections.next 0 r (omega (arith, (admits g.sections l (places_of g.devices) e).ids)) (omega arith),
  with_bytes g (wiped mem l) s (zeroed_small mem l.priv_from (l.priv_to - l.priv_from) h),
)
protected_ranged mac g mem l (Some why) e r s h = (answered_registers g.regs 0 (number_of why) r (omega arith) (number_small why), with_bytes g mem s h)

protect_ranged : (mac : Mac) (g : Given) (mem : List ℕ) → AreRegisters g.regs → HaveSamples g.devices → AreMemoryBytes mem → RangedBy g.devices (protect mac g mem)
unfolding protect
protect_ranged mac g mem r s h = protected_ranged mac g mem (layout_in g.regs) (refusal g.sections (layout_in g.regs) (places_of g.devices)) refl r s h

removed_ranged : (g : Given) (mem : List ℕ) (o : Option Section) → AreRegisters g.regs → HaveSamples g.devices → AreMemoryBytes mem → RangedBy g.devices (removed_if g mem o)
removed_ranged g mem None r s h = (concluded_registers g.regs 0 r (omega arith), with_bytes g mem s h)
removed_ranged g mem (Some own) r s h = (
  concluded_registers g.regs 1 r (omega arith),
  with_bytes g (wiped mem own.layout) s (zeroed_small mem own.layout.priv_from (own.layout.priv_to - own.layout.priv_from) h),
)

unprotect_ranged : (g : Given) (mem : List ℕ) → AreRegisters g.regs → HaveSamples g.devices → AreMemoryBytes mem → RangedBy g.devices (unprotect g mem)
unfolding unprotect
unprotect_ranged g mem r s h = removed_ranged g mem (own_section g) r s h

-- The step.

either_ranged : (ds : List Window) (b : Bool) (o p : Outcome) → RangedBy ds o → RangedBy ds p → RangedBy ds (cond b o p)
either_ranged ds true o p f g = f
either_ranged ds false o p f g = g

instruction_ranged : (mac : Mac) (s : State) → IsNode s → RangedBy s.devices (instruction mac s)
instruction_ranged mac s h =
    let g = given_at_pc mac s in
    let w = word s.mem (pc_of s) in
    let code = w - 0x1380 in
    let moment : Steady s.devices (start s) = record { memory = h.memory; shapes = refl; samples = h.samples; words = no_words } in
    either_ranged s.devices (is_module_word w) (module_instruction mac code g s.mem) (exec s.sections (own_of s) (program w s.regs) (start s))
    (either_ranged s.devices (code == 0) (unprotect g s.mem)
    (cond (code == 1) (protect mac g s.mem) (exec s.sections (own_of s) (module_row mac code g) (untouched_with g s.mem)))
    (unprotect_ranged g s.mem h.registers h.samples h.memory)
    (either_ranged s.devices (code == 1) (protect mac g s.mem) (exec s.sections (own_of s) (module_row mac code g) (untouched_with g s.mem)) (protect_ranged mac g s.mem h.registers h.samples h.memory)
    (exec_ranged s.sections (own_of s) s.devices (module_row mac code g) (untouched_with g s.mem) (ranged_module mac code g h.placed (entered_small s (own_of s) h.last h.caller) h.registers) moment)))
    (exec_ranged s.sections (own_of s) s.devices (program w s.regs) (start s) (ranged_program w s.regs (word_small s.mem (pc_of s) h.memory) h.registers) moment)

ordered_ranged : (mac : Mac) (s : State) (d : Option ℕ) → IsNode s → RangedBy s.devices (ordered mac s d)
ordered_ranged mac s (Some d) h = tt
ordered_ranged mac s None h = ranged_outcome s.devices (in_order s.sections.live s.cur (pc_of s)) (instruction mac s) bad.Order (instruction_ranged mac s h)

attempt_ranged : (mac : Mac) (s : State) → IsNode s → RangedBy s.devices (attempt mac s)
attempt_ranged mac s h = ranged_outcome s.devices (word_outside s.sections.live (pc_of s))
    (ordered mac s (device_at s.devices (pc_of s))) bad.Fetch (ordered_ranged mac s (device_at s.devices (pc_of s)) h)

pub reset_is_node : (s : State) → IsNode s → IsNode (reset s)
reset_is_node s h = record {
  registers = zero_registers 16 refl;
  memory = AreMemoryBytes-blank 65536 refl;
  places = subst (λ z. ArePlaces z) (sym (same_places (all_stale s.devices) s.devices (stale_shapes s.devices))) h.places;
  samples = HaveSamples-all_stale s.devices h.samples;
  placed = starts_placed;
  apart = λ u l. absurd l;
  last = omega arith;
  caller = omega arith;
  runner = inl refl;
}

pub power_on_is_node : PowerOnIsNode
power_on_is_node key devices p s = record {
  registers = zero_registers 16 refl;
  memory = AreMemoryBytes-blank 65536 refl;
  places = p;
  samples = s;
  placed = starts_placed;
  apart = λ u l. absurd l;
  last = omega arith;
  caller = omega arith;
  runner = inl refl;
}

runs_or_not : (live : List Section) (own pc : ℕ) → ((if holder live pc == own then own else 0) ≡ 0) ⊎ ((if holder live pc == own then own else 0) ≡ holder live pc)
runs_or_not live own pc = by (holder live pc == own) refl
  where
    by : (b : Bool) → (holder live pc == own) ≡ b → ((if b then own else 0) ≡ 0) ⊎ ((if b then own else 0) ≡ holder live pc)
    by true e = inr (sym (eqb-true (holder live pc) own e))
    by false e = inl refl

apart_same : (a b : List ℕ) (live : List Section) → a ≡ b → AreApartDevices b live → AreApartDevices a live
apart_same a b live e h = subst (λ (z : List ℕ). AreApartDevices z live) (sym e) h

moved_is_node : (s : State) (regs : List ℕ) (x : Moment) (t : Sections) (c : Exchange) → IsNode s → AreRegisters regs → Steady s.devices x → Placed t → AreApartDevices (places_of s.devices) t.live
    → IsNode (state_after s (own_of s) regs x t c)
moved_is_node s regs x t c h r m p a = record {
  registers = r;
  memory = m.memory;
  places = subst (λ z. ArePlaces z) (sym (same_places x.devices s.devices m.shapes)) h.places;
  samples = m.samples;
  placed = p;
  apart = apart_same (places_of x.devices) (places_of s.devices) t.live (same_places x.devices s.devices m.shapes) a;
  last = holder_small s.sections (pc_of s) h.placed;
  caller = entered_small s (own_of s) h.last h.caller;
  runner = runs_or_not t.live (own_of s) (slice_index regs 0);
}

settled_is_node : (mac : Mac) (s : State) (o : Outcome) → IsNode s → RangedBy s.devices o
    → ToldBy mac (given_at_pc mac s) s.mem o → Placed (settled_step s o).state.sections → IsNode (settled_step s o).state
settled_is_node mac s (Finished regs x) h r w p = moved_is_node s regs x s.sections s.exchange h r.0 r.1 p h.apart
settled_is_node mac s (Violated v) h r w p = reset_is_node s h
settled_is_node mac s (Module regs x t e c) h r w p = moved_is_node s regs x t c h r.0 r.1 p (apart_told mac (given_at_pc mac s) s.mem x.mem t e w h.apart)

pub step_is_node : (mac : Mac) (s : State) → IsNode s → IsNode (step mac s).state
step_is_node mac s h = settled_is_node mac s (attempt mac s) h (attempt_ranged mac s h) (attempt_told mac s) (acted_placed mac Step s h.placed)

-- The acts.

unless_is_node : {T : Type 0} (o : Option Refused) (s : State) (done : Shown T) → IsNode s → (o ≡ None → IsNode done.state) → IsNode (unless o s done).state
unless_is_node None s done h f = f refl
unless_is_node (Some r) s done h f = h

pub busy_idle : (s : State) → busy s ≡ None → s.cur ≡ 0
busy_idle s e = by (s.cur == 0) refl e
  where
    by : (b : Bool) → (s.cur == 0) ≡ b → (if b then None else Some Rattle.spec_machine.specs.declared.kinds.Refused.TheVariants.Busy) ≡ None → s.cur ≡ 0
    by true t e = eqb-true s.cur 0 t
    by false t e = absurd cc

pub irq_idle : (s : State) → irq_refusal s ≡ None → s.cur ≡ 0
irq_idle s e = by (s.cur == 0) refl e
  where
    by : (b : Bool) → (s.cur == 0) ≡ b → (if not b then Some Rattle.spec_machine.specs.declared.kinds.Refused.TheVariants.Busy else
        if Rattle.spec_machine.specs.Acts.is_enabled s.regs then None else Some Rattle.spec_machine.specs.declared.kinds.Refused.TheVariants.Masked)
        ≡ None → s.cur ≡ 0
    by true t e = eqb-true s.cur 0 t
    by false t e = absurd cc

pub put_is_node : (s : State) (at : ℕ) (bytes : List ℕ) → IsNode s → IsNode (record s { mem = put_bytes s.mem at bytes })
put_is_node s at bytes h = record {
  registers = h.registers;
  memory = put_small bytes s.mem at h.memory;
  places = h.places;
  samples = h.samples;
  placed = h.placed;
  apart = h.apart;
  last = h.last;
  caller = h.caller;
  runner = h.runner;
}

last_small : (b : Bool) (n : ℕ) → n < 65536 → (if b then 0 else n) < 65536
last_small true n lt = omega arith
last_small false n lt = lt

pub set_is_node : (s : State) (r v : ℕ) → v < 65536 → s.cur ≡ 0 → IsNode s → IsNode (record s { regs = set_reg s.regs r v; last = if r == 0 then 0 else s.last })
set_is_node s r v lt idle h = record {
  registers = set_reg_registers s.regs r v h.registers lt;
  memory =
      h.memory;
  places = h.places;
  samples = h.samples;
  placed = h.placed;
  apart = h.apart;
  last = last_small
      (r == 0) s.last h.last;
  caller = h.caller;
  runner = inl idle;
}

pub sense_is_node : (s : State) (device v : ℕ) → v < 32768 → IsNode s → IsNode (record s { devices = with_sample s.devices device v })
sense_is_node s device v lt h = record {
  registers = h.registers;
  memory = h.memory;
  places = subst (λ z. ArePlaces z) (sym (same_places (with_sample s.devices device v) s.devices (sensed_shapes s.devices device v))) h.places;
  samples = HaveSamples-with_sample s.devices device v lt h.samples;
  placed = h.placed;
  apart = apart_same (places_of (with_sample s.devices device v)) (places_of s.devices) s.sections.live
      (same_places (with_sample s.devices device v) s.devices (sensed_shapes s.devices device v)) h.apart;
  last = h.last;
  caller = h.caller;
  runner = h.runner;
}

pub interrupt_ranged : (s : State) (line : ℕ) → IsNode s → RangedBy s.devices (exec s.sections 0 (interrupt line s.regs) (start s))
interrupt_ranged s line h = exec_ranged s.sections 0 s.devices (interrupt line s.regs) (start s)
    (ranged_interrupt line s.regs h.registers) (record { memory = h.memory; shapes = refl; samples = h.samples; words = no_words })

pub interrupted_is_node : (s : State) (o : Outcome) → s.cur ≡ 0 → IsNode s → RangedBy s.devices o → IsNode (interrupted s o).state
interrupted_is_node s (Finished regs x) idle h r = record {
  registers = r.0;
  memory = r.1.memory;
  places = subst (λ z. ArePlaces z) (sym (same_places x.devices s.devices r.1.shapes)) h.places;
  samples = r.1.samples;
  placed = h.placed;
  apart = apart_same (places_of x.devices) (places_of s.devices) s.sections.live (same_places x.devices s.devices r.1.shapes) h.apart;
  last = omega arith;
  caller = h.caller;
  runner = inl idle;
}
interrupted_is_node s (Violated v) idle h r = reset_is_node s h
interrupted_is_node s (Module regs x t e c) idle h r = h

pub acted_is_node : (mac : Mac) (act : Act) (s : State) → ActInForm act → IsNode s → IsNode (acted mac act s).state
acted_is_node mac Step s f h = step_is_node mac s h
acted_is_node mac Restart s f h = reset_is_node s h
acted_is_node mac (PutAct at bytes) s f h = unless_is_node {T = Unit {0}} (put_refusal s at (length bytes)) s
    (record { state = record s { mem = put_bytes s.mem at bytes }; shown = tt }) h (λ e. put_is_node s at bytes h)
acted_is_node mac (Set r v) s f h = unless_is_node {T = Unit {0}} (busy s) s
    (record { state = record s { regs = set_reg s.regs r v; last = if r == 0 then 0 else s.last }; shown = tt }) h
    (λ e. set_is_node s r v f (busy_idle s e) h)
acted_is_node mac (Take at n) s f h = unless_is_node (take_refusal s at n) s _ h (λ e. h)
acted_is_node mac (Sense device v) s f h = unless_is_node {T = Unit {0}} (busy s) s
    (record { state = record s { devices = with_sample s.devices device v }; shown = tt }) h (λ e. sense_is_node s device v f h)
acted_is_node mac (Interrupt line) s f h =
    unless_is_node (irq_refusal s) s (interrupted s (exec s.sections 0 (interrupt line s.regs) (start s))) h (λ e.
    interrupted_is_node s (exec s.sections 0 (interrupt line s.regs) (start s)) (irq_idle s e) h (interrupt_ranged s line h))

pub stays_node : StaysNode
stays_node mac [] s f h = h
stays_node mac (act ∷ acts) s f h = stays_node mac acts (acted mac act s).state f.1 (acted_is_node mac act s f.0 h)

-- Devices keep their places and kinds.

settled_shapes : (s : State) (o : Outcome) → RangedBy s.devices o → shapes (settled_step s o).state.devices ≡ shapes s.devices
settled_shapes s (Finished regs x) r = r.1.shapes
settled_shapes s (Violated v) r = stale_shapes s.devices
settled_shapes s (Module regs x t e c) r = r.1.shapes

interrupted_shapes : (s : State) (o : Outcome) → RangedBy s.devices o → shapes (interrupted s o).state.devices ≡ shapes s.devices
interrupted_shapes s (Finished regs x) r = r.1.shapes
interrupted_shapes s (Violated v) r = stale_shapes s.devices
interrupted_shapes s (Module regs x t e c) r = refl

unless_shapes : {T : Type 0} (o : Option Refused) (s : State) (done : Shown T) → shapes done.state.devices ≡ shapes s.devices → shapes (unless o s done).state.devices ≡ shapes s.devices
unless_shapes None s done e = e
unless_shapes (Some r) s done e = refl

pub acted_shapes : (mac : Mac) (act : Act) (s : State) → IsNode s → shapes (acted mac act s).state.devices ≡ shapes s.devices
acted_shapes mac Step s h = settled_shapes s (attempt mac s) (attempt_ranged mac s h)
acted_shapes mac Restart s h = stale_shapes s.devices
acted_shapes mac (PutAct at bytes) s h = unless_shapes {T = Unit {0}} (put_refusal s at (length bytes)) s (record { state = record s { mem = put_bytes s.mem at bytes }; shown = tt }) refl
acted_shapes mac (Set r v) s h = unless_shapes {T = Unit {0}} (busy s) s (record { state = record s { regs = set_reg s.regs r v; last = if r == 0 then 0 else s.last }; shown = tt }) refl
acted_shapes mac (Take at n) s h = unless_shapes (take_refusal s at n) s _ refl
acted_shapes mac (Sense device v) s h = unless_shapes {T = Unit {0}} (busy s) s
    (record { state = record s { devices = with_sample s.devices device v }; shown = tt }) (sensed_shapes s.devices device v)
acted_shapes mac (Interrupt line) s h =
    unless_shapes (irq_refusal s) s (interrupted s (exec s.sections 0 (interrupt line s.regs) (start s)))
    (interrupted_shapes s (exec s.sections 0 (interrupt line s.regs) (start s)) (interrupt_ranged s line h))

pub keeps_devices : KeepsDevices
keeps_devices mac [] s f h = refl
keeps_devices mac (act ∷ acts) s f h = keeps_devices mac acts (acted mac act s).state f.1 (acted_is_node mac act s f.0 h) ∙ acted_shapes mac act s h

-- The key.

settled_key : (s : State) (o : Outcome) → (settled_step s o).state.key ≡ s.key
settled_key s (Finished regs x) = refl
settled_key s (Violated v) = refl
settled_key s (Module regs x t e c) = refl

interrupted_key : (s : State) (o : Outcome) → (interrupted s o).state.key ≡ s.key
interrupted_key s (Finished regs x) = refl
interrupted_key s (Violated v) = refl
interrupted_key s (Module regs x t e c) = refl

unless_key : {T : Type 0} (o : Option Refused) (s : State) (done : Shown T) → done.state.key ≡ s.key → (unless o s done).state.key ≡ s.key
unless_key None s done e = e
unless_key (Some r) s done e = refl

pub acted_key : (mac : Mac) (act : Act) (s : State) → (acted mac act s).state.key ≡ s.key
acted_key mac Step s = settled_key s (attempt mac s)
acted_key mac Restart s = refl
acted_key mac (PutAct at bytes) s = unless_key {T = Unit {0}} (put_refusal s at (length bytes)) s (record { state = record s { mem = put_bytes s.mem at bytes }; shown = tt }) refl
acted_key mac (Set r v) s = unless_key {T = Unit {0}} (busy s) s (record { state = record s { regs = set_reg s.regs r v; last = if r == 0 then 0 else s.last }; shown = tt }) refl
acted_key mac (Take at n) s = unless_key (take_refusal s at n) s _ refl
acted_key mac (Sense device v) s = unless_key {T = Unit {0}} (busy s) s (record { state = record s { devices = with_sample s.devices device v }; shown = tt }) refl
acted_key mac (Interrupt line) s =
    unless_key (irq_refusal s) s (interrupted s (exec s.sections 0 (interrupt line s.regs) (start s))) (interrupted_key s (exec s.sections 0 (interrupt line s.regs) (start s)))

pub keeps_key : KeepsKey
keeps_key mac [] s = refl
keeps_key mac (act ∷ acts) s = keeps_key mac acts (acted mac act s).state ∙ acted_key mac act s

-- What is written to devices is words.

settled_words : (s : State) (o : Outcome) → RangedBy s.devices o → Words (settled_step s o).shown.touch
settled_words s (Finished regs x) r = r.1.words
settled_words s (Violated v) r = no_words
settled_words s (Module regs x t e c) r = r.1.words

pub step_words : (mac : Mac) (s : State) → IsNode s → Words (step mac s).shown.touch
step_words mac s h = settled_words s (attempt mac s) (attempt_ranged mac s h)

interrupted_words : (s : State) (o : Outcome) → RangedBy s.devices o → Words (interrupted s o).shown.touch
interrupted_words s (Finished regs x) r = r.1.words
interrupted_words s (Violated v) r = no_words
interrupted_words s (Module regs x t e c) r = no_words

pub interrupt_words : (s : State) (line : ℕ) → IsNode s → Words (interrupted s (exec s.sections 0 (interrupt line s.regs) (start s))).shown.touch
interrupt_words s line h = interrupted_words s (exec s.sections 0 (interrupt line s.regs) (start s)) (interrupt_ranged s line h)
