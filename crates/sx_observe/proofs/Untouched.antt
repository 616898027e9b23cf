-- A module instruction touches no device.
use Rattle.std.proofs.Common.{◌≡◌, ℕ, ◌-◌, ◌==◌, Bool, true, false, cond, if◌then◌else◌, List, Option, Some, None, Result, Ok, Err, refl}
use Rattle.std.specs.Prelude.{slice_index}
use Rattle.sx_isa.specs.declared.instruction.Instr.{Instr}
use Rattle.sx_isa.specs.declared.instruction.Instr.TheVariants.{Two, One, Reti, Jump, Sancus}
use Rattle.sx_isa.specs.declared.instruction.Operand.{Operand}
use Rattle.sx_isa.specs.declared.instruction.Operand.TheVariants.{Reg, Indexed, Indirect, Increment, Symbolic, Absolute, Immediate, Const}
use Rattle.sx_isa.specs.declared.instruction.Op2.{Op2}
use Rattle.sx_isa.specs.declared.instruction.Op1.{Op1}
use Rattle.sx_isa.specs.declared.instruction.Op1.TheVariants as op1
use Rattle.sx_isa.specs.Reading.{length_of, instruction_at}
use Rattle.sx_alu.specs.declared.flags.Flags.{Flags}
use Rattle.sx_alu.specs.declared.calculation.Calc.{Calc}
use Rattle.sx_alu.specs.declared.calculation.Calc.TheVariants as calc
use Rattle.sx_rules.specs.declared.access.Violation.{Violation}
use Rattle.sx_rules.specs.declared.access.Violation.TheVariants as bad
use Rattle.sx_rules.specs.declared.access.Access.TheVariants.{Read, Write}
use Rattle.sx_rules.specs.declared.section.Section.{Section}
use Rattle.sx_rules.specs.declared.section.Layout.{Layout}
use Rattle.sx_rules.specs.declared.admission.Refusal.{Refusal}
use Rattle.sx_rules.specs.Access.{Sections, in_order}
use Rattle.sx_rules.specs.Admission.{refusal}
use Rattle.sx_bus.specs.Devices.{places_of, device_at}
use Rattle.sx_tag.specs.Mac.{Mac}
use Rattle.sx_tag.specs.Wrap.{wrapped, unwrapped}
use Rattle.spec_machine.specs.declared.kinds.Event.TheVariants as event
use Rattle.spec_machine.specs.Memory.{word, bytes_from, put_bytes}
use Rattle.spec_machine.specs.State.{State}
use Rattle.spec_machine.specs.Plan.{Plan, Done, Tell, Stop, Fetch, Load, Store, Need, Writable, Bytes, Put}
use Rattle.spec_machine.specs.Run.{Moment, Outcome, Finished, Violated, Module, untouched, may_range, may_each, load, store, fetch, after_read, after_write, after_fetch, exec}
use Rattle.spec_machine.specs.Rows.{from_source, reads, writes, into_register, into_memory, on_memory, onto, in_place, one, row, row_of, with_words, program, computed}
use Rattle.spec_machine.specs.Given.{Given, own_section, untouched_with, concluded}
use Rattle.spec_machine.specs.Protect.{layout_in, protected_if, protect, removed_if, unprotect}
use Rattle.spec_machine.specs.ModuleRows.{answer, within, exchanged, attested, attest, own_key, with_key, with_inputs, wrap, opened, unwrap, module_row}
use Rattle.spec_machine.specs.Modules.{module_instruction}
use Rattle.spec_machine.specs.Step.{pc_of, own_of, start, is_module_word, given_at_pc, instruction, ordered, word_outside, attempt}

-- a plan without accesses that a device may answer
abbrev Silent : Plan → Type 0
Silent (Done regs) = Unit {0}
Silent (Tell regs e c) = Unit {0}
Silent (Stop v) = Unit {0}
Silent (Fetch at k) = ⊥
Silent (Load wide at k) = ⊥
Silent (Store wide at v k) = ⊥
Silent (Need b v k) = Silent k
Silent (Writable at n k) = Silent k
Silent (Bytes at n k) = (bs : List ℕ) → Silent (k bs)
Silent (Put at bs k) = Silent k

silent_if : (b : Bool) (p q : Plan) → Silent p → Silent q → Silent (if b then p else q)
silent_if true p q f g = f
silent_if false p q f g = g

silent_within : (g : Given) (f : Section → Plan) (o : Option Section) → ((s : Section) → Silent (f s)) → Silent (within g f o)
silent_within g f None h = tt
silent_within g f (Some s) h = h s

silent_attested : (mac : Mac) (g : Given) (own : Section) (tag : List ℕ) (o : Option Section) → Silent (attested mac g own tag o)
silent_attested mac g own tag None = tt
silent_attested mac g own tag (Some s) = λ bs. tt

silent_key : (g : Given) (own : Section) (rest : List ℕ → Plan) → ((k : List ℕ) → Silent (rest k)) → Silent (with_key g own rest)
silent_key g own rest f = silent_if (own_key g.regs) (rest own.key) (Bytes (slice_index g.regs 9) 16 rest) (f own.key) f

silent_inputs : (g : Given) (own : Section) (rest : List ℕ → List ℕ → List ℕ → Plan) → ((k a b : List ℕ) → Silent (rest k a b)) → Silent (with_inputs g own rest)
silent_inputs g own rest f = silent_key g own (λ key. Bytes (slice_index g.regs 10) (slice_index g.regs 11)
    (λ ad. Bytes (slice_index g.regs 12) (slice_index g.regs 13) (λ text. rest key ad text))) (λ k a b. f k a b)

silent_opened : (g : Given) (ad : List ℕ) (o : Option (List ℕ)) → Silent (opened g ad o)
silent_opened g ad None = tt
silent_opened g ad (Some body) = tt

silent_wrap : (mac : Mac) (g : Given) (own : Section) → Silent (wrap mac g own)
silent_wrap mac g own = silent_inputs g own
    (λ key ad body. Put (slice_index g.regs 14) (wrapped mac key ad body).cipher
    (Put (slice_index g.regs 15) (wrapped mac key ad body).tag (Tell (concluded g.regs 1) (event.Wrapped g.own) (exchanged g.regs ad body))))
    (λ k a b. tt)

silent_unwrap : (mac : Mac) (g : Given) (own : Section) → Silent (unwrap mac g own)
silent_unwrap mac g own = silent_inputs g own
    (λ key ad cipher. Bytes (slice_index g.regs 15) 16 (λ tag. Writable (slice_index g.regs 14) (slice_index g.regs 13) (opened g ad (unwrapped mac key ad cipher tag))))
    (λ k a b tag. silent_opened g a (unwrapped mac k a b tag))

silent_module : (mac : Mac) (code : ℕ) (g : Given) → Silent (module_row mac code g)
unfolding module_row
silent_module mac code g =
    silent_if (code == 2) _ _ (silent_within g (attest mac g) (own_section g) (λ s tag. silent_attested mac g s tag _))
    (silent_if (code == 4) _ _ (silent_within g (wrap mac g) (own_section g) (λ s. silent_wrap mac g s))
    (silent_if (code == 5) _ _ (silent_within g (unwrap mac g) (own_section g) (λ s. silent_unwrap mac g s))
    (silent_if (code == 6) _ _ tt (silent_within g (λ own. answer g g.caller) (own_section g) (λ s. tt)))))

-- a module instruction's outcome shows no touch
abbrev pub Untouched : Outcome → Type 0
Untouched (Finished regs x) = Unit {0}
Untouched (Violated v) = Unit {0}
Untouched (Module regs x t e c) = x.touches ≡ untouched

untouched_if : (b : Bool) (o : Outcome) (v : Violation) → Untouched o → Untouched (cond b o (Violated v))
untouched_if true o v h = h
untouched_if false o v h = tt

exec_silent : (t : Sections) (own : ℕ) (p : Plan) (x : Moment) → Silent p → x.touches ≡ untouched → Untouched (exec t own p x)
exec_silent t own (Done regs) x h e = tt
exec_silent t own (Tell regs v c) x h e = e
exec_silent t own (Stop v) x h e = tt
exec_silent t own (Fetch at k) x h e = absurd h
exec_silent t own (Load wide at k) x h e = absurd h
exec_silent t own (Store wide at v k) x h e = absurd h
exec_silent t own (Need b v k) x h e = untouched_if b (exec t own k x) v (exec_silent t own k x h e)
exec_silent t own (Writable at n k) x h e = untouched_if (may_range t.live own Write at n) (exec t own k x) bad.Write (exec_silent t own k x h e)
exec_silent t own (Bytes at n k) x h e =
    untouched_if (may_range t.live own Read at n) (exec t own (k (bytes_from x.mem at n)) x) bad.Read (exec_silent t own (k (bytes_from x.mem at n)) x (h _) e)
exec_silent t own (Put at bs k) x h e =
    untouched_if (may_each t.live own Write at bs) (exec t own k (record x { mem = put_bytes x.mem at bs })) bad.Write (exec_silent t own k (record x { mem = put_bytes x.mem at bs }) h e)

protected_untouched : (mac : Mac) (g : Given) (mem : List ℕ) (l : Layout) (o : Option Refusal) → Untouched (protected_if mac g mem l o)
protected_untouched mac g mem l None = refl
protected_untouched mac g mem l (Some why) = refl

protect_untouched : (mac : Mac) (g : Given) (mem : List ℕ) → Untouched (protect mac g mem)
unfolding protect
protect_untouched mac g mem = protected_untouched mac g mem (layout_in g.regs) (refusal g.sections (layout_in g.regs) (places_of g.devices))

removed_untouched : (g : Given) (mem : List ℕ) (o : Option Section) → Untouched (removed_if g mem o)
removed_untouched g mem None = refl
removed_untouched g mem (Some s) = refl

unprotect_untouched : (g : Given) (mem : List ℕ) → Untouched (unprotect g mem)
unfolding unprotect
unprotect_untouched g mem = removed_untouched g mem (own_section g)

either : (b : Bool) (o p : Outcome) → Untouched o → Untouched p → Untouched (cond b o p)
either true o p f g = f
either false o p f g = g

-- a plan that tells no event
abbrev Mute : Plan → Type 0
Mute (Done regs) = Unit {0}
Mute (Tell regs e c) = ⊥
Mute (Stop v) = Unit {0}
Mute (Fetch at k) = (w : ℕ) → Mute (k w)
Mute (Load wide at k) = (v : ℕ) → Mute (k v)
Mute (Store wide at v k) = Mute k
Mute (Need b v k) = Mute k
Mute (Writable at n k) = Mute k
Mute (Bytes at n k) = (bs : List ℕ) → Mute (k bs)
Mute (Put at bs k) = Mute k

mute_if : (b : Bool) (p q : Plan) → Mute p → Mute q → Mute (if b then p else q)
mute_if true p q f h = f
mute_if false p q f h = h

mute_source : (wide : Bool) (o : Operand) (regs : List ℕ) (k : ℕ → List ℕ → Plan) → ((v : ℕ) (r : List ℕ) → Mute (k v r)) → Mute (from_source wide o regs k)
mute_source wide (Reg r) regs k f = f _ _
mute_source wide (Indexed r x) regs k f = λ v. f v _
mute_source wide (Symbolic x) regs k f = λ v. f v _
mute_source wide (Absolute x) regs k f = λ v. f v _
mute_source wide (Indirect r) regs k f = λ v. f v _
mute_source wide (Increment r) regs k f = λ v. f v _
mute_source wide (Immediate x) regs k f = f _ _
mute_source wide (Const c) regs k f = f _ _

mute_register : (written : Bool) (r : ℕ) (result : ℕ × Flags) (regs : List ℕ) → Mute (into_register written r result regs)
mute_register true r result regs = tt
mute_register false r result regs = tt

mute_memory : (wide written : Bool) (at : ℕ) (result : ℕ × Flags) (regs : List ℕ) → Mute (into_memory wide written at result regs)
mute_memory wide true at result regs = tt
mute_memory wide false at result regs = tt

mute_on : (op : Op2) (wide : Bool) (at s : ℕ) (regs : List ℕ) → Mute (on_memory op wide at s regs)
mute_on op wide at s regs = mute_if (reads op) (Load wide at (λ d. into_memory wide (writes op) at (computed op wide s d _) regs)) (into_memory wide (writes op) at (computed op wide s 0 _) regs)
    (λ v. mute_memory wide (writes op) at (computed op wide s v _) regs) (mute_memory wide (writes op) at (computed op wide s 0 _) regs)

mute_onto : (op : Op2) (wide : Bool) (o : Operand) (s : ℕ) (regs : List ℕ) → Mute (onto op wide o s regs)
mute_onto op wide (Reg r) s regs = mute_register (writes op) r _ regs
mute_onto op wide (Indexed r x) s regs = mute_on op wide _ s regs
mute_onto op wide (Symbolic x) s regs = mute_on op wide _ s regs
mute_onto op wide (Absolute x) s regs = mute_on op wide _ s regs
mute_onto op wide (Indirect r) s regs = tt
mute_onto op wide (Increment r) s regs = tt
mute_onto op wide (Immediate x) s regs = tt
mute_onto op wide (Const c) s regs = tt

mute_place : (kind : Calc) (wide : Bool) (o : Operand) (regs : List ℕ) (next : ℕ) → Mute (in_place kind wide o regs next)
mute_place kind wide (Reg r) regs next = tt
mute_place kind wide (Indexed r x) regs next = λ v. tt
mute_place kind wide (Symbolic x) regs next = λ v. tt
mute_place kind wide (Absolute x) regs next = λ v. tt
mute_place kind wide (Indirect r) regs next = λ v. tt
mute_place kind wide (Increment r) regs next = λ v. tt
mute_place kind wide (Immediate x) regs next = tt
mute_place kind wide (Const c) regs next = tt

mute_one : (op : Op1) (wide : Bool) (o : Operand) (regs : List ℕ) (next : ℕ) → Mute (one op wide o regs next)
mute_one op1.Rrc wide o regs next = mute_place calc.Rrc wide o regs next
mute_one op1.Swpb wide o regs next = mute_place calc.Swap true o regs next
mute_one op1.Rra wide o regs next = mute_place calc.Rra wide o regs next
mute_one op1.Sxt wide o regs next = mute_place calc.Extend true o regs next
mute_one op1.Push wide o regs next = mute_source wide o regs _ (λ v r. tt)
mute_one op1.Call wide o regs next = mute_source true o regs _ (λ v r. tt)

mute_row : (i : Instr) (regs : List ℕ) (next : ℕ) → Mute (row i regs next)
mute_row (Two op byte src dst) regs next = mute_source _ src regs _ (λ v r. mute_onto op _ dst v _)
mute_row (One op byte o) regs next = mute_one op _ o regs next
mute_row Reti regs next = λ a b. tt
mute_row (Jump c offset) regs next = tt
mute_row (Sancus code) regs next = tt

mute_row_of : (o : Option (Instr × ℕ)) (regs : List ℕ) (pc : ℕ) → Mute (row_of o regs pc)
mute_row_of None regs pc = tt
mute_row_of (Some i) regs pc = mute_row i.0 regs _

mute_words : (o : Option ℕ) (w : ℕ) (regs : List ℕ) (pc : ℕ) → Mute (with_words o w regs pc)
mute_words None w regs pc = tt
mute_words (Some n) w regs pc =
    mute_if (n == 1) _ _ (mute_row_of (instruction_at w 0 0) regs pc)
    (mute_if (n == 2) _ _ (λ x. mute_row_of (instruction_at w x 0) regs pc) (λ x y. mute_row_of (instruction_at w x y) regs pc))

mute_program : (w : ℕ) (regs : List ℕ) → Mute (program w regs)
unfolding program
mute_program w regs = mute_words (length_of w) w _ _

untouched_read : (r : Result (ℕ × Moment) Violation) (f : ℕ → Moment → Outcome) → ((v : ℕ) (x : Moment) → Untouched (f v x)) → Untouched (after_read r f)
untouched_read (Ok r) f h = h r.0 r.1
untouched_read (Err v) f h = tt

untouched_write : (r : Result Moment Violation) (f : Moment → Outcome) → ((x : Moment) → Untouched (f x)) → Untouched (after_write r f)
untouched_write (Ok x) f h = h x
untouched_write (Err v) f h = tt

untouched_fetch : (r : Result ℕ Violation) (f : ℕ → Outcome) → ((w : ℕ) → Untouched (f w)) → Untouched (after_fetch r f)
untouched_fetch (Ok w) f h = h w
untouched_fetch (Err v) f h = tt

exec_mute : (t : Sections) (own : ℕ) (p : Plan) (x : Moment) → Mute p → Untouched (exec t own p x)
exec_mute t own (Done regs) x h = tt
exec_mute t own (Tell regs e c) x h = absurd h
exec_mute t own (Stop v) x h = tt
exec_mute t own (Fetch at k) x h = untouched_fetch (fetch t.live own at x) (λ w. exec t own (k w) x) (λ w. exec_mute t own (k w) x (h w))
exec_mute t own (Load wide at k) x h = untouched_read (load t.live own wide at x) (λ v y. exec t own (k v) y) (λ v y. exec_mute t own (k v) y (h v))
exec_mute t own (Store wide at v k) x h = untouched_write (store t.live own wide at v x) (λ y. exec t own k y) (λ y. exec_mute t own k y h)
exec_mute t own (Need b v k) x h = untouched_if b (exec t own k x) v (exec_mute t own k x h)
exec_mute t own (Writable at n k) x h = untouched_if (may_range t.live own Write at n) (exec t own k x) bad.Write (exec_mute t own k x h)
exec_mute t own (Bytes at n k) x h =
    untouched_if (may_range t.live own Read at n) (exec t own (k (bytes_from x.mem at n)) x) bad.Read (exec_mute t own (k (bytes_from x.mem at n)) x (h _))
exec_mute t own (Put at bs k) x h =
    untouched_if (may_each t.live own Write at bs) (exec t own k (record x { mem = put_bytes x.mem at bs })) bad.Write (exec_mute t own k (record x { mem = put_bytes x.mem at bs }) h)

instruction_untouched : (mac : Mac) (s : State) → Untouched (instruction mac s)
instruction_untouched mac s =
    let g = given_at_pc mac s in
    let w = word s.mem (pc_of s) in
    let code = w - 0x1380 in
    either (is_module_word w) (module_instruction mac code g s.mem) (exec s.sections (own_of s) (program w s.regs) (start s))
    (either (code == 0) (unprotect g s.mem) (cond (code == 1) (protect mac g s.mem) (exec s.sections (own_of s) (module_row mac code g) (untouched_with g s.mem))) (unprotect_untouched g s.mem)
    (either (code == 1) (protect mac g s.mem) (exec s.sections (own_of s) (module_row mac code g) (untouched_with g s.mem)) (protect_untouched mac g s.mem)
    (exec_silent s.sections (own_of s) (module_row mac code g) (untouched_with g s.mem) (silent_module mac code g) refl)))
    (exec_mute s.sections (own_of s) (program w s.regs) (start s) (mute_program w s.regs))

ordered_untouched : (mac : Mac) (s : State) (d : Option ℕ) → Untouched (ordered mac s d)
ordered_untouched mac s (Some d) = tt
ordered_untouched mac s None = untouched_if (in_order s.sections.live s.cur (pc_of s)) (instruction mac s) bad.Order (instruction_untouched mac s)

pub attempt_untouched : (mac : Mac) (s : State) → Untouched (attempt mac s)
attempt_untouched mac s = untouched_if (word_outside s.sections.live (pc_of s)) (ordered mac s (device_at s.devices (pc_of s))) bad.Fetch (ordered_untouched mac s (device_at s.devices (pc_of s)))
