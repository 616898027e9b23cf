-- No row makes more than two accesses that a device could answer; so a step shows all that happened to the devices.
use Rattle.std.proofs.Common.{◌<◌, ◌≡◌, ℕ, zero, suc, ◌-◌, ◌%◌, ◌⊎◌, inl, inr, ◌==◌, Bool, true, false, cond, if◌then◌else◌, List, [], ◌∷◌, All, Option, Some, None, Ok, refl, sym, subst, arith}
use Rattle.std.specs.Prelude.{slice_get, slice_index}
use Rattle.sx_isa.specs.declared.instruction.Instr.{Instr}
use Rattle.sx_isa.specs.declared.instruction.Instr.TheVariants.{Two, One, Reti, Jump, Sancus}
use Rattle.sx_isa.specs.declared.instruction.Operand.{Operand}
use Rattle.sx_isa.specs.declared.instruction.Operand.TheVariants.{Reg, Indexed, Indirect, Increment, Symbolic, Absolute, Immediate, Const}
use Rattle.sx_isa.specs.declared.instruction.Op2.{Op2}
use Rattle.sx_isa.specs.declared.instruction.Op1.{Op1}
use Rattle.sx_isa.specs.declared.instruction.Op1.TheVariants as op1
use Rattle.sx_isa.specs.Reading.{length_of, instruction_at}
use Rattle.sx_alu.specs.declared.flags.Flags.{Flags}
use Rattle.sx_alu.specs.declared.calculation.Calc.{Calc}
use Rattle.sx_alu.specs.declared.calculation.Calc.TheVariants as calc
use Rattle.sx_rules.specs.declared.access.Violation.{Violation}
use Rattle.sx_rules.specs.declared.access.Violation.TheVariants as bad
use Rattle.sx_rules.specs.declared.section.Section.{Section}
use Rattle.sx_rules.specs.declared.section.Layout.{Layout}
use Rattle.sx_rules.specs.declared.admission.Refusal.{Refusal}
use Rattle.sx_rules.specs.Access.{in_order}
use Rattle.sx_rules.specs.Admission.{refusal}
use Rattle.sx_bus.specs.declared.devices.Window.{Window}
use Rattle.sx_bus.specs.Devices.{places_of, device_at}
use Rattle.sx_tag.specs.Mac.{Mac}
use Rattle.sx_tag.specs.Wrap.{wrapped, unwrapped}
use Rattle.spec_machine.specs.Memory.{word}
use Rattle.spec_machine.specs.declared.kinds.Event.TheVariants as event
use Rattle.spec_machine.specs.State.{State}
use Rattle.spec_machine.specs.Plan.{Plan, Tell, Load, Writable, Bytes, Put}
use Rattle.spec_machine.specs.Run.{Moment, untouched, Outcome, Finished, Violated, Module, exec}
use Rattle.spec_machine.specs.Rows.{from_source, reads, writes, into_register, into_memory, on_memory, onto, pushed, in_place, one, row, row_of, with_words, program, computed}
use Rattle.spec_machine.specs.Given.{Given, own_section, untouched_with, concluded}
use Rattle.spec_machine.specs.Protect.{layout_in, protected_if, protect, removed_if, unprotect}
use Rattle.spec_machine.specs.ModuleRows.{answer, within, exchanged, attested, attest, own_key, with_key, with_inputs, wrap, opened, unwrap, module_row}
use Rattle.spec_machine.specs.Modules.{module_instruction}
use Rattle.spec_machine.specs.Step.{Shown, own_of, pc_of, start, is_module_word, given_at_pc, instruction, ordered, word_outside, attempt, settled_step}
use Rattle.spec_machine.specs.State.{reset}
use Rattle.spec_machine.specs.declared.kinds.Refused.{Refused}
use Rattle.spec_machine.specs.declared.kinds.Seen.{Seen}
use Rattle.spec_machine.specs.Acts.{unless, irq_refusal, interrupt, interrupted}
use Rattle.spec_machine.specs.Node.{IsNode}
use Rattle.spec_machine.specs.Touches.{Replays, ShowsTouches, ShowsInterrupt}
use Rattle.spec_machine.proofs.Devices.{some_inj}
use Rattle.spec_machine.proofs.Touches.{Sparse, Room, Traced, TracedBy, exec_traced}

abbrev Last : Type 0
Last = Option (Bool × ℕ)

sparse_if : (n : ℕ) (last : Last) (b : Bool) (p q : Plan) → Sparse n last p → Sparse n last q → Sparse n last (if b then p else q)
sparse_if n last true p q f g = f
sparse_if n last false p q f g = g

-- after at most one access for the source, the rest may make one
sparse_source : (wide : Bool) (o : Operand) (regs : List ℕ) (k : ℕ → List ℕ → Plan)
    → ((n : ℕ) (last : Last) (v : ℕ) (r : List ℕ) → Sparse (suc n) last (k v r)) → Sparse 2 None (from_source wide o regs k)
sparse_source wide (Reg r) regs k f = f 1 None _ _
sparse_source wide (Indexed r x) regs k f = inr (λ v. f 0 _ v _)
sparse_source wide (Symbolic x) regs k f = inr (λ v. f 0 _ v _)
sparse_source wide (Absolute x) regs k f = inr (λ v. f 0 _ v _)
sparse_source wide (Indirect r) regs k f = inr (λ v. f 0 _ v _)
sparse_source wide (Increment r) regs k f = inr (λ v. f 0 _ v _)
sparse_source wide (Immediate x) regs k f = f 1 None _ _
sparse_source wide (Const c) regs k f = f 1 None _ _

sparse_register : (n : ℕ) (last : Last) (written : Bool) (r : ℕ) (result : ℕ × Flags) (regs : List ℕ) → Sparse n last (into_register written r result regs)
sparse_register n last true r result regs = tt
sparse_register n last false r result regs = tt

-- the store after a load at the same place is free
sparse_free : (n : ℕ) (wide written : Bool) (at : ℕ) (result : ℕ × Flags) (regs : List ℕ) → Sparse n (Some (wide, at)) (into_memory wide written at result regs)
sparse_free n wide true at result regs = inl (refl, tt)
sparse_free n wide false at result regs = tt

sparse_store : (n : ℕ) (last : Last) (wide written : Bool) (at : ℕ) (result : ℕ × Flags) (regs : List ℕ) → Sparse (suc n) last (into_memory wide written at result regs)
sparse_store n last wide true at result regs = inr tt
sparse_store n last wide false at result regs = tt

sparse_on : (n : ℕ) (last : Last) (op : Op2) (wide : Bool) (at s : ℕ) (regs : List ℕ) → Sparse (suc n) last (on_memory op wide at s regs)
sparse_on n last op wide at s regs =
    sparse_if (suc n) last (reads op) (Load wide at (λ d. into_memory wide (writes op) at (computed op wide s d _) regs)) (into_memory wide (writes op) at (computed op wide s 0 _) regs)
    (inr (λ v. sparse_free n wide (writes op) at (computed op wide s v _) regs)) (sparse_store n last wide (writes op) at (computed op wide s 0 _) regs)

sparse_onto : (n : ℕ) (last : Last) (op : Op2) (wide : Bool) (o : Operand) (s : ℕ) (regs : List ℕ) → Sparse (suc n) last (onto op wide o s regs)
sparse_onto n last op wide (Reg r) s regs = sparse_register (suc n) last (writes op) r _ regs
sparse_onto n last op wide (Indexed r x) s regs = sparse_on n last op wide _ s regs
sparse_onto n last op wide (Symbolic x) s regs = sparse_on n last op wide _ s regs
sparse_onto n last op wide (Absolute x) s regs = sparse_on n last op wide _ s regs
sparse_onto n last op wide (Indirect r) s regs = tt
sparse_onto n last op wide (Increment r) s regs = tt
sparse_onto n last op wide (Immediate x) s regs = tt
sparse_onto n last op wide (Const c) s regs = tt

sparse_place : (kind : Calc) (wide : Bool) (o : Operand) (regs : List ℕ) (next : ℕ) → Sparse 2 None (in_place kind wide o regs next)
sparse_place kind wide (Reg r) regs next = tt
sparse_place kind wide (Indexed r x) regs next = inr (λ v. inl (refl, tt))
sparse_place kind wide (Symbolic x) regs next = inr (λ v. inl (refl, tt))
sparse_place kind wide (Absolute x) regs next = inr (λ v. inl (refl, tt))
sparse_place kind wide (Indirect r) regs next = inr (λ v. inl (refl, tt))
sparse_place kind wide (Increment r) regs next = inr (λ v. inl (refl, tt))
sparse_place kind wide (Immediate x) regs next = tt
sparse_place kind wide (Const c) regs next = tt

sparse_one : (op : Op1) (wide : Bool) (o : Operand) (regs : List ℕ) (next : ℕ) → Sparse 2 None (one op wide o regs next)
sparse_one op1.Rrc wide o regs next = sparse_place calc.Rrc wide o regs next
sparse_one op1.Swpb wide o regs next = sparse_place calc.Swap true o regs next
sparse_one op1.Rra wide o regs next = sparse_place calc.Rra wide o regs next
sparse_one op1.Sxt wide o regs next = sparse_place calc.Extend true o regs next
sparse_one op1.Push wide o regs next = sparse_source wide o regs (λ v r. pushed wide v next r) (λ n last v r. inr tt)
sparse_one op1.Call wide o regs next = sparse_source true o regs (λ v r. pushed true next (v - v % 2) r) (λ n last v r. inr tt)

sparse_row : (i : Instr) (regs : List ℕ) (next : ℕ) → Sparse 2 None (row i regs next)
sparse_row (Two op byte src dst) regs next = sparse_source _ src regs _ (λ n last v r. sparse_onto n last op _ dst v _)
sparse_row (One op byte o) regs next = sparse_one op _ o regs next
sparse_row Reti regs next = inr (λ a. inr (λ b. tt))
sparse_row (Jump c offset) regs next = tt
sparse_row (Sancus code) regs next = tt

sparse_row_of : (o : Option (Instr × ℕ)) (regs : List ℕ) (pc : ℕ) → Sparse 2 None (row_of o regs pc)
sparse_row_of None regs pc = tt
sparse_row_of (Some i) regs pc = sparse_row i.0 regs _

sparse_words : (o : Option ℕ) (w : ℕ) (regs : List ℕ) (pc : ℕ) → Sparse 2 None (with_words o w regs pc)
sparse_words None w regs pc = tt
sparse_words (Some n) w regs pc =
    sparse_if 2 None (n == 1) _ _ (sparse_row_of (instruction_at w 0 0) regs pc)
    (sparse_if 2 None (n == 2) _ _ (λ x. sparse_row_of (instruction_at w x 0) regs pc) (λ x y. sparse_row_of (instruction_at w x y) regs pc))

sparse_program : (w : ℕ) (regs : List ℕ) → Sparse 2 None (program w regs)
unfolding program
sparse_program w regs = sparse_words (length_of w) w _ _

sparse_within : (g : Given) (f : Section → Plan) (o : Option Section) → ((s : Section) → Sparse 2 None (f s)) → Sparse 2 None (within g f o)
sparse_within g f None h = tt
sparse_within g f (Some s) h = h s

sparse_attested : (mac : Mac) (g : Given) (own : Section) (tag : List ℕ) (o : Option Section) → Sparse 2 None (attested mac g own tag o)
sparse_attested mac g own tag None = tt
sparse_attested mac g own tag (Some s) = λ bs. tt

sparse_key : (g : Given) (own : Section) (rest : List ℕ → Plan) → ((k : List ℕ) → Sparse 2 None (rest k)) → Sparse 2 None (with_key g own rest)
sparse_key g own rest f = sparse_if 2 None (own_key g.regs) (rest own.key) (Bytes (slice_index g.regs 9) 16 rest) (f own.key) f

sparse_inputs : (g : Given) (own : Section) (rest : List ℕ → List ℕ → List ℕ → Plan) → ((k a b : List ℕ) → Sparse 2 None (rest k a b)) → Sparse 2 None (with_inputs g own rest)
sparse_inputs g own rest f = sparse_key g own (λ key. Bytes (slice_index g.regs 10) (slice_index g.regs 11)
    (λ ad. Bytes (slice_index g.regs 12) (slice_index g.regs 13) (λ text. rest key ad text))) (λ k a b. f k a b)

sparse_opened : (g : Given) (ad : List ℕ) (o : Option (List ℕ)) → Sparse 2 None (opened g ad o)
sparse_opened g ad None = tt
sparse_opened g ad (Some body) = tt

sparse_wrap : (mac : Mac) (g : Given) (own : Section) → Sparse 2 None (wrap mac g own)
sparse_wrap mac g own = sparse_inputs g own
    (λ key ad body. Put (slice_index g.regs 14) (wrapped mac key ad body).cipher
    (Put (slice_index g.regs 15) (wrapped mac key ad body).tag (Tell (concluded g.regs 1) (event.Wrapped g.own) (exchanged g.regs ad body))))
    (λ k a b. tt)

sparse_unwrap : (mac : Mac) (g : Given) (own : Section) → Sparse 2 None (unwrap mac g own)
sparse_unwrap mac g own = sparse_inputs g own
    (λ key ad cipher. Bytes (slice_index g.regs 15) 16 (λ tag. Writable (slice_index g.regs 14) (slice_index g.regs 13) (opened g ad (unwrapped mac key ad cipher tag))))
    (λ k a b tag. sparse_opened g a (unwrapped mac k a b tag))

sparse_module : (mac : Mac) (code : ℕ) (g : Given) → Sparse 2 None (module_row mac code g)
unfolding module_row
sparse_module mac code g =
    sparse_if 2 None (code == 2) _ _ (sparse_within g (attest mac g) (own_section g) (λ s tag. sparse_attested mac g s tag _))
    (sparse_if 2 None (code == 4) _ _ (sparse_within g (wrap mac g) (own_section g) (λ s. sparse_wrap mac g s))
    (sparse_if 2 None (code == 5) _ _ (sparse_within g (unwrap mac g) (own_section g) (λ s. sparse_unwrap mac g s))
    (sparse_if 2 None (code == 6) _ _ tt (sparse_within g (λ own. answer g g.caller) (own_section g) (λ s. tt)))))

-- The step.

first_traced : (live : List Section) (own : ℕ) (x : Moment) → x.touches ≡ untouched
    → ((k : ℕ) (w : Window) → slice_get x.devices k ≡ Some w → (w.at % 2 ≡ 0) × (w.at < 0xFFE0)) → Traced live own 2 None x.devices x
first_traced live own x e ev = record {
  replays = subst (λ ts. Replays live own ts x.devices x.devices) (sym e) refl;
  room = subst (λ ts. Room 2 ts) (sym e) (tt, omega arith);
  last_ok = tt;
  evens = ev;
}

evens_of : (ws : List Window) → All (λ p. p % 2 ≡ 0) (places_of ws) → All (λ p. p < 0xFFE0) (places_of ws) → (k : ℕ) (w : Window) → slice_get ws k ≡ Some w → (w.at % 2 ≡ 0) × (w.at < 0xFFE0)
evens_of [] h b k w e = absurd cc
evens_of (x ∷ ws) h b zero w e = subst (λ (z : Window). (z.at % 2 ≡ 0) × (z.at < 0xFFE0)) (some_inj x w e) (h 0 0 (omega arith), b 0 0 (omega arith))
evens_of (x ∷ ws) h b (suc k) w e = evens_of ws (λ j d lt. h (suc j) d (omega (arith, lt))) (λ j d lt. b (suc j) d (omega (arith, lt))) k w e

protected_traced : (mac : Mac) (g : Given) (live : List Section) (own : ℕ) (mem : List ℕ) (l : Layout) (o : Option Refusal) → TracedBy live own g.devices (protected_if mac g mem l o)
protected_traced mac g live own mem l None = refl
protected_traced mac g live own mem l (Some why) = refl

protect_traced : (mac : Mac) (g : Given) (live : List Section) (own : ℕ) (mem : List ℕ) → TracedBy live own g.devices (protect mac g mem)
unfolding protect
protect_traced mac g live own mem = protected_traced mac g live own mem (layout_in g.regs) (refusal g.sections (layout_in g.regs) (places_of g.devices))

removed_traced : (g : Given) (live : List Section) (own : ℕ) (mem : List ℕ) (o : Option Section) → TracedBy live own g.devices (removed_if g mem o)
removed_traced g live own mem None = refl
removed_traced g live own mem (Some s) = refl

unprotect_traced : (g : Given) (live : List Section) (own : ℕ) (mem : List ℕ) → TracedBy live own g.devices (unprotect g mem)
unfolding unprotect
unprotect_traced g live own mem = removed_traced g live own mem (own_section g)

either_traced : (live : List Section) (own : ℕ) (a : List Window) (b : Bool) (o p : Outcome) → TracedBy live own a o → TracedBy live own a p → TracedBy live own a (cond b o p)
either_traced live own a true o p f g = f
either_traced live own a false o p f g = g

outcome_if : (live : List Section) (own : ℕ) (a : List Window) (b : Bool) (o : Outcome) (v : Violation) → TracedBy live own a o → TracedBy live own a (cond b o (Violated v))
outcome_if live own a true o v h = h
outcome_if live own a false o v h = tt

instruction_traced : (mac : Mac) (s : State) → ((k : ℕ) (w : Window) → slice_get s.devices k ≡ Some w → (w.at % 2 ≡ 0) × (w.at < 0xFFE0))
    → TracedBy s.sections.live (own_of s) s.devices (instruction mac s)
instruction_traced mac s ev =
    let g = given_at_pc mac s in
    let live = s.sections.live in
    let own = own_of s in
    let w = word s.mem (pc_of s) in
    let code = w - 0x1380 in
    either_traced live own s.devices (is_module_word w) (module_instruction mac code g s.mem) (exec s.sections own (program w s.regs) (start s))
    (either_traced live own s.devices (code == 0) (unprotect g s.mem)
    (cond (code == 1) (protect mac g s.mem) (exec s.sections own (module_row mac code g) (untouched_with g s.mem)))
    (unprotect_traced g live own s.mem)
    (either_traced live own s.devices (code == 1) (protect mac g s.mem) (exec s.sections own (module_row mac code g) (untouched_with g s.mem)) (protect_traced mac g live own s.mem)
    (exec_traced s.sections own s.devices (module_row mac code g) 2 None (untouched_with g s.mem) (sparse_module mac code g) (first_traced live own (untouched_with g s.mem) refl ev))))
    (exec_traced s.sections own s.devices (program w s.regs) 2 None (start s) (sparse_program w s.regs) (first_traced live own (start s) refl ev))

ordered_traced : (mac : Mac) (s : State) (d : Option ℕ) → ((k : ℕ) (w : Window) → slice_get s.devices k ≡ Some w → (w.at % 2 ≡ 0) × (w.at < 0xFFE0))
    → TracedBy s.sections.live (own_of s) s.devices (ordered mac s d)
ordered_traced mac s (Some d) ev = tt
ordered_traced mac s None ev = outcome_if s.sections.live (own_of s) s.devices (in_order s.sections.live s.cur (pc_of s)) (instruction mac s) bad.Order (instruction_traced mac s ev)

settled_traced : (s : State) (o : Outcome) → TracedBy s.sections.live (own_of s) s.devices o
    → Replays s.sections.live (own_of s) (settled_step s o).shown.touch s.devices (settled_step s o).state.devices
    ⊎ ((settled_step s o).state ≡ reset s)
settled_traced s (Finished regs x) h = inl h
settled_traced s (Violated v) h = inr refl
settled_traced s (Module regs x t e c) h = inl h

pub attempt_traced : (mac : Mac) (s : State) → IsNode s → TracedBy s.sections.live (own_of s) s.devices (attempt mac s)
attempt_traced mac s node =
    outcome_if s.sections.live (own_of s) s.devices (word_outside s.sections.live (pc_of s)) (ordered mac s (device_at s.devices (pc_of s))) bad.Fetch
    (ordered_traced mac s (device_at s.devices (pc_of s)) (evens_of s.devices node.places.even node.places.below))

pub shows_touches : ShowsTouches
shows_touches mac s node = settled_traced s (attempt mac s) (attempt_traced mac s node)

-- An interrupt: two stores, and the vector, at which no device is.

sparse_interrupt : (line : ℕ) (regs : List ℕ) → Sparse 2 None (interrupt line regs)
unfolding interrupt
sparse_interrupt line regs = inr (inr (inl (omega arith, λ v. tt)))

interrupted_traced : (s : State) (o : Outcome) → TracedBy s.sections.live 0 s.devices o
    → Replays s.sections.live 0 (interrupted s o).shown.touch s.devices (interrupted s o).state.devices ⊎ ((interrupted s o).state ≡ reset s)
interrupted_traced s (Finished regs x) h = inl h
interrupted_traced s (Violated v) h = inr refl
interrupted_traced s (Module regs x t e c) h = inl refl

pub interrupt_traced : (line : ℕ) (s : State) → IsNode s → TracedBy s.sections.live 0 s.devices (exec s.sections 0 (interrupt line s.regs) (start s))
interrupt_traced line s node =
    exec_traced s.sections 0 s.devices (interrupt line s.regs) 2 None (start s) (sparse_interrupt line s.regs)
    (first_traced s.sections.live 0 (start s) refl (evens_of s.devices node.places.even node.places.below))

pub interrupted_shows : (line : ℕ) (s : State) → IsNode s
    → (let r = interrupted s (exec s.sections 0 (interrupt line s.regs) (start s)) in Replays s.sections.live 0 r.shown.touch s.devices r.state.devices ⊎ (r.state ≡ reset s))
interrupted_shows line s node = interrupted_traced s (exec s.sections 0 (interrupt line s.regs) (start s)) (interrupt_traced line s node)

-- an act that was done leaves and shows what it does
pub done_is : {T : Type 0} (o : Option Refused) (s : State) (done : Shown T) (shown : T) → (unless o s done).shown ≡ Ok shown → ((unless o s done).state ≡ done.state) × (done.shown ≡ shown)
done_is None s done shown e = (refl, cc)
done_is (Some r) s done shown e = absurd cc

pub shows_interrupt : ShowsInterrupt
shows_interrupt line s seen node e =
    let live = s.sections.live in
    let done = interrupted s (exec s.sections 0 (interrupt line s.regs) (start s)) in
    let d = done_is (irq_refusal s) s done seen e in
    subst (λ (z : State). Replays live 0 seen.touch s.devices z.devices ⊎ (z ≡ reset s)) (sym d.0)
    (subst (λ (z : Seen). Replays live 0 z.touch s.devices done.state.devices ⊎ (done.state ≡ reset s)) d.1 (interrupted_shows line s node))
