-- Whatever happens to a node, its sections stay placed.
use Rattle.std.proofs.Common.{◌≡◌, ℕ, ◌-◌, Bool, true, false, cond, ◌==◌, List, [], ◌∷◌, refl, Option, Some, None, Result, Ok, Err}
use Rattle.sx_rules.specs.declared.access.Violation.{Violation}
use Rattle.sx_rules.specs.declared.access.Violation.TheVariants as bad
use Rattle.sx_rules.specs.declared.access.Access.TheVariants.{Read, Write}
use Rattle.sx_rules.specs.declared.section.Layout.{Layout}
use Rattle.sx_rules.specs.declared.section.Section.{Section}
use Rattle.sx_rules.specs.declared.admission.Refusal.{Refusal}
use Rattle.sx_rules.specs.Access.{Sections, in_order}
use Rattle.sx_rules.specs.Admission.{refusal}
use Rattle.sx_rules.specs.Placed.{Placed}
use Rattle.sx_rules.proofs.Placing.{starts_placed, admit_keeps_placed, remove_keeps_placed}
use Rattle.sx_bus.specs.Devices.{places_of, device_at}
use Rattle.sx_tag.specs.Mac.{Mac}
use Rattle.spec_machine.specs.declared.kinds.Refused.{Refused}
use Rattle.spec_machine.specs.Memory.{word, bytes_from, put_bytes}
use Rattle.spec_machine.specs.State.{State}
use Rattle.spec_machine.specs.Plan.{Plan, Done, Tell, Stop, Fetch, Load, Store, Need, Writable, Bytes, Put}
use Rattle.spec_machine.specs.Run.{Moment, Outcome, Finished, Violated, Module, may_range, may_each, load, store, fetch, after_read, after_write, after_fetch, exec}
use Rattle.spec_machine.specs.Rows.{program}
use Rattle.spec_machine.specs.Given.{Given, own_section, untouched_with}
use Rattle.spec_machine.specs.Protect.{layout_in, provider_in, key_for, protected_if, protect, removed_if, unprotect}
use Rattle.spec_machine.specs.ModuleRows.{module_row}
use Rattle.spec_machine.specs.Modules.{module_instruction}
use Rattle.spec_machine.specs.Step.{Shown, pc_of, own_of, start, is_module_word, given_at_pc, instruction, ordered, word_outside, attempt, settled_step, step}
use Rattle.spec_machine.specs.Acts.{unless, put_refusal, take_refusal, busy, irq_refusal, interrupt, interrupted}
use Rattle.spec_machine.specs.Acting.{Act, Step, Restart, Put as PutAct, Set, Take, Sense, Interrupt, acted, acted_all}

abbrev PlacedBy : Outcome → Type 0
PlacedBy (Finished regs x) = Unit {0}
PlacedBy (Violated v) = Unit {0}
PlacedBy (Module regs x t e c) = Placed t

placed_if : (b : Bool) (o : Outcome) (v : Violation) → PlacedBy o → PlacedBy (cond b o (Violated v))
placed_if true o v h = h
placed_if false o v h = tt

after_read_placed : (r : Result (ℕ × Moment) Violation) (f : ℕ → Moment → Outcome) → ((v : ℕ) (x : Moment) → PlacedBy (f v x)) → PlacedBy (after_read r f)
after_read_placed (Ok r) f g = g r.0 r.1
after_read_placed (Err v) f g = tt

after_write_placed : (r : Result Moment Violation) (f : Moment → Outcome) → ((x : Moment) → PlacedBy (f x)) → PlacedBy (after_write r f)
after_write_placed (Ok x) f g = g x
after_write_placed (Err v) f g = tt

after_fetch_placed : (r : Result ℕ Violation) (f : ℕ → Outcome) → ((w : ℕ) → PlacedBy (f w)) → PlacedBy (after_fetch r f)
after_fetch_placed (Ok w) f g = g w
after_fetch_placed (Err v) f g = tt

exec_placed : (t : Sections) (own : ℕ) → Placed t → (p : Plan) (x : Moment) → PlacedBy (exec t own p x)
exec_placed t own h (Done regs) x = tt
exec_placed t own h (Tell regs e c) x = h
exec_placed t own h (Stop v) x = tt
exec_placed t own h (Fetch at k) x = after_fetch_placed (fetch t.live own at x) (λ w. exec t own (k w) x) (λ w. exec_placed t own h (k w) x)
exec_placed t own h (Load wide at k) x = after_read_placed (load t.live own wide at x) (λ v y. exec t own (k v) y) (λ v y. exec_placed t own h (k v) y)
exec_placed t own h (Store wide at v k) x = after_write_placed (store t.live own wide at v x) (λ y. exec t own k y) (λ y. exec_placed t own h k y)
exec_placed t own h (Need b v k) x = placed_if b (exec t own k x) v (exec_placed t own h k x)
exec_placed t own h (Writable at n k) x = placed_if (may_range t.live own Write at n) (exec t own k x) bad.Write (exec_placed t own h k x)
exec_placed t own h (Bytes at n k) x = placed_if (may_range t.live own Read at n) (exec t own (k (bytes_from x.mem at n)) x) bad.Read (exec_placed t own h (k (bytes_from x.mem at n)) x)
exec_placed t own h (Put at bs k) x =
    placed_if (may_each t.live own Write at bs) (exec t own k (record x { mem = put_bytes x.mem at bs })) bad.Write (exec_placed t own h k (record x { mem = put_bytes x.mem at bs }))

protected_placed : (mac : Mac) (g : Given) (m : List ℕ) (l : Layout) (o : Option Refusal) → Placed g.sections → (o ≡ None → refusal g.sections l (places_of g.devices) ≡ None)
    → PlacedBy (protected_if mac g m l o)
protected_placed mac g m l None h f = admit_keeps_placed g.sections l (provider_in g.regs) (key_for mac g m l) (places_of g.devices) h (f refl)
protected_placed mac g m l (Some why) h f = h

protect_placed : (mac : Mac) (g : Given) (m : List ℕ) → Placed g.sections → PlacedBy (protect mac g m)
unfolding protect
protect_placed mac g m h = protected_placed mac g m (layout_in g.regs) (refusal g.sections (layout_in g.regs) (places_of g.devices)) h (λ e. e)

removed_placed : (g : Given) (m : List ℕ) (o : Option Section) → Placed g.sections → PlacedBy (removed_if g m o)
removed_placed g m None h = h
removed_placed g m (Some own) h = remove_keeps_placed g.sections g.own h

unprotect_placed : (g : Given) (m : List ℕ) → Placed g.sections → PlacedBy (unprotect g m)
unfolding unprotect
unprotect_placed g m h = removed_placed g m (own_section g) h

either_placed : (b : Bool) (o p : Outcome) → PlacedBy o → PlacedBy p → PlacedBy (cond b o p)
either_placed true o p h g = h
either_placed false o p h g = g

module_placed : (mac : Mac) (code : ℕ) (g : Given) (m : List ℕ) → Placed g.sections → PlacedBy (module_instruction mac code g m)
module_placed mac code g m h =
    either_placed (code == 0) (unprotect g m) (cond (code == 1) (protect mac g m) (exec g.sections g.own (module_row mac code g) (untouched_with g m))) (unprotect_placed g m h)
    (either_placed (code == 1) (protect mac g m) (exec g.sections g.own (module_row mac code g) (untouched_with g m)) (protect_placed mac g m h)
    (exec_placed g.sections g.own h (module_row mac code g) (untouched_with g m)))

instruction_placed : (mac : Mac) (a : State) → Placed a.sections → PlacedBy (instruction mac a)
instruction_placed mac a h =
    let w = word a.mem (pc_of a) in
    either_placed (is_module_word w) (module_instruction mac (w - 0x1380) (given_at_pc mac a) a.mem) (exec a.sections (own_of a) (program w a.regs) (start a))
    (module_placed mac (w - 0x1380) (given_at_pc mac a) a.mem h) (exec_placed a.sections (own_of a) h (program w a.regs) (start a))

ordered_placed : (mac : Mac) (a : State) (d : Option ℕ) → Placed a.sections → PlacedBy (ordered mac a d)
ordered_placed mac a (Some d) h = tt
ordered_placed mac a None h = placed_if (in_order a.sections.live a.cur (pc_of a)) (instruction mac a) bad.Order (instruction_placed mac a h)

settled_placed : (a : State) (o : Outcome) → Placed a.sections → PlacedBy o → Placed (settled_step a o).state.sections
settled_placed a (Finished regs x) h g = h
settled_placed a (Violated v) h g = starts_placed
settled_placed a (Module regs x t e c) h g = g

step_placed : (mac : Mac) (a : State) → Placed a.sections → Placed (step mac a).state.sections
step_placed mac a h =
    settled_placed a (attempt mac a) h
    (placed_if (word_outside a.sections.live (pc_of a)) (ordered mac a (device_at a.devices (pc_of a))) bad.Fetch (ordered_placed mac a (device_at a.devices (pc_of a)) h))

unless_placed : {T : Type 0} (o : Option Refused) (a : State) (done : Shown T) → Placed a.sections → Placed done.state.sections → Placed (unless o a done).state.sections
unless_placed None a done h g = g
unless_placed (Some r) a done h g = h

interrupted_placed : (a : State) (o : Outcome) → Placed a.sections → Placed (interrupted a o).state.sections
interrupted_placed a (Finished regs x) h = h
interrupted_placed a (Violated v) h = starts_placed
interrupted_placed a (Module regs x t e c) h = h

pub acted_placed : (mac : Mac) (act : Act) (a : State) → Placed a.sections → Placed (acted mac act a).state.sections
acted_placed mac Step a h = step_placed mac a h
acted_placed mac Restart a h = starts_placed
acted_placed mac (PutAct at bytes) a h = unless_placed {T = Unit {0}} (put_refusal a at _) a (record { state = record a { mem = put_bytes a.mem at bytes }; shown = tt }) h h
acted_placed mac (Set r v) a h = unless_placed (busy a) a _ h h
acted_placed mac (Take at n) a h = unless_placed (take_refusal a at n) a _ h h
acted_placed mac (Sense device v) a h = unless_placed (busy a) a _ h h
acted_placed mac (Interrupt line) a h =
    unless_placed (irq_refusal a) a _ h (interrupted_placed a (exec a.sections 0 (interrupt line a.regs) (start a)) h)

pub stays_placed : (mac : Mac) (acts : List Act) (a : State) → Placed a.sections → Placed (acted_all mac acts a).state.sections
stays_placed mac [] a h = h
stays_placed mac (act ∷ acts) a h = stays_placed mac acts (acted mac act a).state (acted_placed mac act a h)
