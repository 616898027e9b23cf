-- Which events a step shows, and what they say of the sections.
use Rattle.std.proofs.Common.{◌≡◌, ℕ, ◌-◌, ◌==◌, Bool, true, false, cond, if◌then◌else◌, List, Option, Some, None, Result, Ok, Err, refl}
use Rattle.std.specs.Prelude.{slice_index}
use Rattle.sx_isa.specs.declared.instruction.Instr.{Instr}
use Rattle.sx_isa.specs.declared.instruction.Instr.TheVariants.{Two, One, Reti, Jump, Sancus}
use Rattle.sx_isa.specs.declared.instruction.Operand.{Operand}
use Rattle.sx_isa.specs.declared.instruction.Operand.TheVariants.{Reg, Indexed, Indirect, Increment, Symbolic, Absolute, Immediate, Const}
use Rattle.sx_isa.specs.declared.instruction.Op2.{Op2}
use Rattle.sx_isa.specs.declared.instruction.Op1.{Op1}
use Rattle.sx_isa.specs.declared.instruction.Op1.TheVariants as op1
use Rattle.sx_isa.specs.Reading.{length_of, instruction_at}
use Rattle.sx_alu.specs.declared.flags.Flags.{Flags}
use Rattle.sx_alu.specs.declared.calculation.Calc.{Calc}
use Rattle.sx_alu.specs.declared.calculation.Calc.TheVariants as calc
use Rattle.sx_rules.specs.declared.access.Violation.{Violation}
use Rattle.sx_rules.specs.declared.access.Violation.TheVariants as bad
use Rattle.sx_rules.specs.declared.access.Access.TheVariants.{Read, Write}
use Rattle.sx_rules.specs.declared.section.Section.{Section}
use Rattle.sx_rules.specs.declared.admission.Refusal.{Refusal}
use Rattle.sx_rules.specs.Access.{Sections, in_order}
use Rattle.sx_rules.specs.Admission.{refusal, admitted, removed}
use Rattle.sx_bus.specs.Devices.{places_of, device_at}
use Rattle.sx_tag.specs.Mac.{Mac}
use Rattle.sx_tag.specs.Wrap.{wrapped, unwrapped}
use Rattle.spec_machine.specs.declared.kinds.Event.{Event}
use Rattle.spec_machine.specs.declared.kinds.Event.TheVariants as event
use Rattle.spec_machine.specs.Memory.{word, bytes_from, put_bytes}
use Rattle.spec_machine.specs.State.{State}
use Rattle.spec_machine.specs.Plan.{Plan, Done, Tell, Stop, Fetch, Load, Store, Need, Writable, Bytes, Put}
use Rattle.spec_machine.specs.Run.{Moment, Outcome, Finished, Violated, Module, may_range, may_each, load, store, fetch, after_read, after_write, after_fetch, exec}
use Rattle.spec_machine.specs.Rows.{from_source, reads, writes, into_register, into_memory, on_memory, onto, in_place, one, row, row_of, with_words, program, computed}
use Rattle.spec_machine.specs.Given.{Given, own_section, untouched_with, concluded}
use Rattle.spec_machine.specs.Protect.{layout_in, provider_in, key_for, wiped, protected_if, protect, removed_if, unprotect}
use Rattle.spec_machine.specs.ModuleRows.{answer, within, exchanged, attested, attest, own_key, with_key, with_inputs, wrap, opened, unwrap, module_row}
use Rattle.spec_machine.specs.Modules.{module_instruction}
use Rattle.spec_machine.specs.Step.{pc_of, own_of, start, is_module_word, given_at_pc, instruction, ordered, word_outside, attempt}

-- the module whose code the instruction is
abbrev pub IsOwn : Given → ℕ → Type 0
IsOwn g id = (id ≡ g.own) × (s : Section) × (own_section g ≡ Some s)

-- an event that a plan may tell
abbrev pub IsTold : Given → Event → Type 0
IsTold g event.Quiet = Unit {0}
IsTold g (event.Reset v) = ⊥
IsTold g (event.Protected id) = ⊥
IsTold g (event.Removed id) = ⊥
IsTold g (event.Wrapped id) = IsOwn g id
IsTold g (event.Unwrapped id) = IsOwn g id
IsTold g (event.Left id) = ⊥

abbrev pub Tells : Given → Plan → Type 0
Tells g (Done regs) = Unit {0}
Tells g (Tell regs e c) = IsTold g e
Tells g (Stop v) = Unit {0}
Tells g (Fetch at k) = (w : ℕ) → Tells g (k w)
Tells g (Load wide at k) = (v : ℕ) → Tells g (k v)
Tells g (Store wide at v k) = Tells g k
Tells g (Need b v k) = Tells g k
Tells g (Writable at n k) = Tells g k
Tells g (Bytes at n k) = (bs : List ℕ) → Tells g (k bs)
Tells g (Put at bs k) = Tells g k

-- Each row tells such an event, or none.

tells_if : (g : Given) (b : Bool) (p q : Plan) → Tells g p → Tells g q → Tells g (if b then p else q)
tells_if g true p q f h = f
tells_if g false p q f h = h

tells_source : (g : Given) (wide : Bool) (o : Operand) (regs : List ℕ) (k : ℕ → List ℕ → Plan) → ((v : ℕ) (r : List ℕ) → Tells g (k v r)) → Tells g (from_source wide o regs k)
tells_source g wide (Reg r) regs k f = f _ _
tells_source g wide (Indexed r x) regs k f = λ v. f v _
tells_source g wide (Symbolic x) regs k f = λ v. f v _
tells_source g wide (Absolute x) regs k f = λ v. f v _
tells_source g wide (Indirect r) regs k f = λ v. f v _
tells_source g wide (Increment r) regs k f = λ v. f v _
tells_source g wide (Immediate x) regs k f = f _ _
tells_source g wide (Const c) regs k f = f _ _

tells_register : (g : Given) (written : Bool) (r : ℕ) (result : ℕ × Flags) (regs : List ℕ) → Tells g (into_register written r result regs)
tells_register g true r result regs = tt
tells_register g false r result regs = tt

tells_memory : (g : Given) (wide written : Bool) (at : ℕ) (result : ℕ × Flags) (regs : List ℕ) → Tells g (into_memory wide written at result regs)
tells_memory g wide true at result regs = tt
tells_memory g wide false at result regs = tt

tells_on : (g : Given) (op : Op2) (wide : Bool) (at s : ℕ) (regs : List ℕ) → Tells g (on_memory op wide at s regs)
tells_on g op wide at s regs = tells_if g (reads op) (Load wide at (λ d. into_memory wide (writes op) at (computed op wide s d _) regs)) (into_memory wide (writes op) at (computed op wide s 0 _) regs)
    (λ v. tells_memory g wide (writes op) at (computed op wide s v _) regs) (tells_memory g wide (writes op) at (computed op wide s 0 _) regs)

tells_onto : (g : Given) (op : Op2) (wide : Bool) (o : Operand) (s : ℕ) (regs : List ℕ) → Tells g (onto op wide o s regs)
tells_onto g op wide (Reg r) s regs = tells_register g (writes op) r _ regs
tells_onto g op wide (Indexed r x) s regs = tells_on g op wide _ s regs
tells_onto g op wide (Symbolic x) s regs = tells_on g op wide _ s regs
tells_onto g op wide (Absolute x) s regs = tells_on g op wide _ s regs
tells_onto g op wide (Indirect r) s regs = tt
tells_onto g op wide (Increment r) s regs = tt
tells_onto g op wide (Immediate x) s regs = tt
tells_onto g op wide (Const c) s regs = tt

tells_place : (g : Given) (kind : Calc) (wide : Bool) (o : Operand) (regs : List ℕ) (next : ℕ) → Tells g (in_place kind wide o regs next)
tells_place g kind wide (Reg r) regs next = tt
tells_place g kind wide (Indexed r x) regs next = λ v. tt
tells_place g kind wide (Symbolic x) regs next = λ v. tt
tells_place g kind wide (Absolute x) regs next = λ v. tt
tells_place g kind wide (Indirect r) regs next = λ v. tt
tells_place g kind wide (Increment r) regs next = λ v. tt
tells_place g kind wide (Immediate x) regs next = tt
tells_place g kind wide (Const c) regs next = tt

tells_one : (g : Given) (op : Op1) (wide : Bool) (o : Operand) (regs : List ℕ) (next : ℕ) → Tells g (one op wide o regs next)
tells_one g op1.Rrc wide o regs next = tells_place g calc.Rrc wide o regs next
tells_one g op1.Swpb wide o regs next = tells_place g calc.Swap true o regs next
tells_one g op1.Rra wide o regs next = tells_place g calc.Rra wide o regs next
tells_one g op1.Sxt wide o regs next = tells_place g calc.Extend true o regs next
tells_one g op1.Push wide o regs next = tells_source g wide o regs _ (λ v r. tt)
tells_one g op1.Call wide o regs next = tells_source g true o regs _ (λ v r. tt)

tells_row : (g : Given) (i : Instr) (regs : List ℕ) (next : ℕ) → Tells g (row i regs next)
tells_row g (Two op byte src dst) regs next = tells_source g _ src regs _ (λ v r. tells_onto g op _ dst v _)
tells_row g (One op byte o) regs next = tells_one g op _ o regs next
tells_row g Reti regs next = λ a b. tt
tells_row g (Jump c offset) regs next = tt
tells_row g (Sancus code) regs next = tt

tells_row_of : (g : Given) (o : Option (Instr × ℕ)) (regs : List ℕ) (pc : ℕ) → Tells g (row_of o regs pc)
tells_row_of g None regs pc = tt
tells_row_of g (Some i) regs pc = tells_row g i.0 regs _

tells_words : (g : Given) (o : Option ℕ) (w : ℕ) (regs : List ℕ) (pc : ℕ) → Tells g (with_words o w regs pc)
tells_words g None w regs pc = tt
tells_words g (Some n) w regs pc =
    tells_if g (n == 1) _ _ (tells_row_of g (instruction_at w 0 0) regs pc)
    (tells_if g (n == 2) _ _ (λ x. tells_row_of g (instruction_at w x 0) regs pc) (λ x y. tells_row_of g (instruction_at w x y) regs pc))

pub tells_program : (g : Given) (w : ℕ) (regs : List ℕ) → Tells g (program w regs)
unfolding program
tells_program g w regs = tells_words g (length_of w) w _ _

tells_within : (g : Given) (f : Section → Plan) (o : Option Section) → own_section g ≡ o → ((s : Section) → own_section g ≡ Some s → Tells g (f s)) → Tells g (within g f o)
tells_within g f None e h = tt
tells_within g f (Some s) e h = h s e

tells_attested : (mac : Mac) (g : Given) (own : Section) (tag : List ℕ) (o : Option Section) → Tells g (attested mac g own tag o)
tells_attested mac g own tag None = tt
tells_attested mac g own tag (Some s) = λ bs. tt

tells_key : (g : Given) (own : Section) (rest : List ℕ → Plan) → ((k : List ℕ) → Tells g (rest k)) → Tells g (with_key g own rest)
tells_key g own rest f = tells_if g (own_key g.regs) (rest own.key) (Bytes (slice_index g.regs 9) 16 rest) (f own.key) f

tells_inputs : (g : Given) (own : Section) (rest : List ℕ → List ℕ → List ℕ → Plan) → ((k a b : List ℕ) → Tells g (rest k a b)) → Tells g (with_inputs g own rest)
tells_inputs g own rest f = tells_key g own (λ key. Bytes (slice_index g.regs 10) (slice_index g.regs 11)
    (λ ad. Bytes (slice_index g.regs 12) (slice_index g.regs 13) (λ text. rest key ad text))) (λ k a b. f k a b)

tells_opened : (g : Given) (own : Section) → own_section g ≡ Some own → (ad : List ℕ) (o : Option (List ℕ)) → Tells g (opened g ad o)
tells_opened g own e ad None = tt
tells_opened g own e ad (Some body) = (refl, own, e)

tells_wrap : (mac : Mac) (g : Given) (own : Section) → own_section g ≡ Some own → Tells g (wrap mac g own)
tells_wrap mac g own e = tells_inputs g own
    (λ key ad body. Put (slice_index g.regs 14) (wrapped mac key ad body).cipher
    (Put (slice_index g.regs 15) (wrapped mac key ad body).tag (Tell (concluded g.regs 1) (event.Wrapped g.own) (exchanged g.regs ad body))))
    (λ k a b. (refl, own, e))

tells_unwrap : (mac : Mac) (g : Given) (own : Section) → own_section g ≡ Some own → Tells g (unwrap mac g own)
tells_unwrap mac g own e = tells_inputs g own
    (λ key ad cipher. Bytes (slice_index g.regs 15) 16 (λ tag. Writable (slice_index g.regs 14) (slice_index g.regs 13) (opened g ad (unwrapped mac key ad cipher tag))))
    (λ k a b tag. tells_opened g own e a (unwrapped mac k a b tag))

pub tells_module : (mac : Mac) (code : ℕ) (g : Given) → Tells g (module_row mac code g)
unfolding module_row
tells_module mac code g =
    tells_if g (code == 2) _ _ (tells_within g (attest mac g) (own_section g) refl (λ s e tag. tells_attested mac g s tag _))
    (tells_if g (code == 4) _ _ (tells_within g (wrap mac g) (own_section g) refl (λ s e. tells_wrap mac g s e))
    (tells_if g (code == 5) _ _ (tells_within g (unwrap mac g) (own_section g) refl (λ s e. tells_unwrap mac g s e))
    (tells_if g (code == 6) _ _ tt (tells_within g (λ own. answer g g.caller) (own_section g) refl (λ s e. tt)))))

-- What an instruction did to the sections and, where it changed them, to the memory that it began with.
pub data Told (mac : Mac) (g : Given) (m0 m : List ℕ) (t : Sections) : Event → Type 0 where
  Same : {e : Event} → IsTold g e → t ≡ g.sections → Told mac g m0 m t e
  Admits : refusal g.sections (layout_in g.regs) (places_of g.devices) ≡ None
      → t ≡ admitted g.sections (layout_in g.regs) (provider_in g.regs) (key_for mac g m0 (layout_in g.regs)) → m ≡ wiped m0 (layout_in g.regs)
      → Told mac g m0 m t (event.Protected g.sections.next)
  Removes : (s : Section) → own_section g ≡ Some s → t ≡ removed g.sections g.own → m ≡ wiped m0 s.layout → Told mac g m0 m t (event.Removed g.own)

abbrev pub ToldBy : Mac → Given → List ℕ → Outcome → Type 0
ToldBy mac g m0 (Finished regs x) = Unit {0}
ToldBy mac g m0 (Violated v) = Unit {0}
ToldBy mac g m0 (Module regs x t e c) = Told mac g m0 x.mem t e

told_if : (mac : Mac) (g : Given) (m0 : List ℕ) (b : Bool) (o : Outcome) (v : Violation) → ToldBy mac g m0 o → ToldBy mac g m0 (cond b o (Violated v))
told_if mac g m0 true o v h = h
told_if mac g m0 false o v h = tt

told_read : (mac : Mac) (g : Given) (m0 : List ℕ) (r : Result (ℕ × Moment) Violation) (f : ℕ → Moment → Outcome) → ((v : ℕ) (x : Moment) → ToldBy mac g m0 (f v x)) → ToldBy mac g m0 (after_read r f)
told_read mac g m0 (Ok r) f h = h r.0 r.1
told_read mac g m0 (Err v) f h = tt

told_write : (mac : Mac) (g : Given) (m0 : List ℕ) (r : Result Moment Violation) (f : Moment → Outcome) → ((x : Moment) → ToldBy mac g m0 (f x)) → ToldBy mac g m0 (after_write r f)
told_write mac g m0 (Ok x) f h = h x
told_write mac g m0 (Err v) f h = tt

told_fetch : (mac : Mac) (g : Given) (m0 : List ℕ) (r : Result ℕ Violation) (f : ℕ → Outcome) → ((w : ℕ) → ToldBy mac g m0 (f w)) → ToldBy mac g m0 (after_fetch r f)
told_fetch mac g m0 (Ok w) f h = h w
told_fetch mac g m0 (Err v) f h = tt

exec_told : (mac : Mac) (g : Given) (m0 : List ℕ) (own : ℕ) (p : Plan) (x : Moment) → Tells g p → ToldBy mac g m0 (exec g.sections own p x)
exec_told mac g m0 own (Done regs) x h = tt
exec_told mac g m0 own (Tell regs e c) x h = Same h refl
exec_told mac g m0 own (Stop v) x h = tt
exec_told mac g m0 own (Fetch at k) x h = told_fetch mac g m0 (fetch g.sections.live own at x) (λ w. exec g.sections own (k w) x) (λ w. exec_told mac g m0 own (k w) x (h w))
exec_told mac g m0 own (Load wide at k) x h = told_read mac g m0 (load g.sections.live own wide at x) (λ v y. exec g.sections own (k v) y) (λ v y. exec_told mac g m0 own (k v) y (h v))
exec_told mac g m0 own (Store wide at v k) x h = told_write mac g m0 (store g.sections.live own wide at v x) (λ y. exec g.sections own k y) (λ y. exec_told mac g m0 own k y h)
exec_told mac g m0 own (Need b v k) x h = told_if mac g m0 b (exec g.sections own k x) v (exec_told mac g m0 own k x h)
exec_told mac g m0 own (Writable at n k) x h = told_if mac g m0 (may_range g.sections.live own Write at n) (exec g.sections own k x) bad.Write (exec_told mac g m0 own k x h)
exec_told mac g m0 own (Bytes at n k) x h =
    told_if mac g m0 (may_range g.sections.live own Read at n) (exec g.sections own (k (bytes_from x.mem at n)) x) bad.Read (exec_told mac g m0 own (k (bytes_from x.mem at n)) x (h _))
exec_told mac g m0 own (Put at bs k) x h =
    told_if mac g m0 (may_each g.sections.live own Write at bs) (exec g.sections own k (record x { mem = put_bytes x.mem at bs })) bad.Write
    (exec_told mac g m0 own k (record x { mem = put_bytes x.mem at bs }) h)

protected_told : (mac : Mac) (g : Given) (m0 : List ℕ) (o : Option Refusal)
    → refusal g.sections (layout_in g.regs) (places_of g.devices) ≡ o → ToldBy mac g m0 (protected_if mac g m0 (layout_in g.regs) o)
protected_told mac g m0 None e = Admits e refl refl
protected_told mac g m0 (Some why) e = Same tt refl

protect_told : (mac : Mac) (g : Given) (m0 : List ℕ) → ToldBy mac g m0 (protect mac g m0)
unfolding protect
protect_told mac g m0 = protected_told mac g m0 (refusal g.sections (layout_in g.regs) (places_of g.devices)) refl

removed_told : (mac : Mac) (g : Given) (m0 : List ℕ) (o : Option Section) → own_section g ≡ o → ToldBy mac g m0 (removed_if g m0 o)
removed_told mac g m0 None e = Same tt refl
removed_told mac g m0 (Some s) e = Removes s e refl refl

unprotect_told : (mac : Mac) (g : Given) (m0 : List ℕ) → ToldBy mac g m0 (unprotect g m0)
unfolding unprotect
unprotect_told mac g m0 = removed_told mac g m0 (own_section g) refl

either_told : (mac : Mac) (g : Given) (m0 : List ℕ) (b : Bool) (o p : Outcome) → ToldBy mac g m0 o → ToldBy mac g m0 p → ToldBy mac g m0 (cond b o p)
either_told mac g m0 true o p f h = f
either_told mac g m0 false o p f h = h

instruction_told : (mac : Mac) (s : State) → ToldBy mac (given_at_pc mac s) s.mem (instruction mac s)
instruction_told mac s =
    let g = given_at_pc mac s in
    let w = word s.mem (pc_of s) in
    let code = w - 0x1380 in
    either_told mac g s.mem (is_module_word w) (module_instruction mac code g s.mem) (exec s.sections (own_of s) (program w s.regs) (start s))
    (either_told mac g s.mem (code == 0) (unprotect g s.mem)
    (cond (code == 1) (protect mac g s.mem) (exec s.sections (own_of s) (module_row mac code g) (untouched_with g s.mem)))
    (unprotect_told mac g s.mem)
    (either_told mac g s.mem (code == 1) (protect mac g s.mem) (exec s.sections (own_of s) (module_row mac code g) (untouched_with g s.mem)) (protect_told mac g s.mem)
    (exec_told mac g s.mem (own_of s) (module_row mac code g) (untouched_with g s.mem) (tells_module mac code g))))
    (exec_told mac g s.mem (own_of s) (program w s.regs) (start s) (tells_program g w s.regs))

ordered_told : (mac : Mac) (s : State) (d : Option ℕ) → ToldBy mac (given_at_pc mac s) s.mem (ordered mac s d)
ordered_told mac s (Some d) = tt
ordered_told mac s None = told_if mac (given_at_pc mac s) s.mem (in_order s.sections.live s.cur (pc_of s)) (instruction mac s) bad.Order (instruction_told mac s)

pub attempt_told : (mac : Mac) (s : State) → ToldBy mac (given_at_pc mac s) s.mem (attempt mac s)
attempt_told mac s =
    told_if mac (given_at_pc mac s) s.mem (word_outside s.sections.live (pc_of s)) (ordered mac s (device_at s.devices (pc_of s))) bad.Fetch (ordered_told mac s (device_at s.devices (pc_of s)))
