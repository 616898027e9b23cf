-- No step changes a byte that its code may not write, unless the node is reset.
use Rattle.std.proofs.Common.{◌≡◌, ℕ, zero, suc, ◌+◌, ◌-◌, ◌/◌, ◌%◌, ◌<◌, ◌≤◌, ◌⊎◌, inl, inr, ◌==◌, ◌&&◌, not, Bool, true, false, cond, if◌then◌else◌, List, []}
use Rattle.std.proofs.Common.{◌∷◌, Option, Some, None, Result, Ok, Err, refl, sym, ◌∙◌, ap, subst, arith}
use Rattle.std.specs.Prelude.{slice_set, slice_index, nat_le, nat_lt}
use Rattle.std.specs.List.{list_all, list_any}
use Rattle.std.proofs.lemmas.Bool.{true≢false, and_parts, and_from, or_cases, or_from, or_right, cases_eq, cases_lt, leb-true, ltb-true, eq-eqb, false_from_ne_true}
use Rattle.std.proofs.lemmas.List.{get_or-set_other}
use Rattle.sx_rules.specs.declared.access.Access.TheVariants.{Read, Write}
use Rattle.sx_rules.specs.declared.access.Violation.{Violation}
use Rattle.sx_rules.specs.declared.access.Violation.TheVariants as bad
use Rattle.sx_rules.specs.declared.section.Section.{Section}
use Rattle.sx_rules.specs.declared.section.Layout.{Layout}
use Rattle.sx_rules.specs.declared.admission.Refusal.{Refusal}
use Rattle.sx_rules.specs.Access.{Sections, may, allows, in_public, in_private, Lives, section_of, in_order}
use Rattle.sx_rules.specs.Admission.{refusal, apart, clear_of, parts_apart}
use Rattle.sx_rules.specs.Placed.{Placed, Sound, AllSound}
use Rattle.sx_rules.proofs.Placing.{placed_beside, placed_found, apart-swap}
use Rattle.sx_rules.proofs.Admits.{admits}
use Rattle.sx_bus.specs.declared.devices.Kind.{Kind}
use Rattle.sx_bus.specs.declared.devices.Kind.TheVariants.{Sensor, Actuator}
use Rattle.sx_bus.specs.declared.devices.Window.{Window}
use Rattle.sx_bus.specs.Devices.{places_of, device_at}
use Rattle.sx_tag.specs.Mac.{Mac}
use Rattle.spec_machine.specs.Memory.{even, word, write_at, bytes_from, put_bytes, zeroed}
use Rattle.spec_machine.specs.State.{State, reset}
use Rattle.spec_machine.specs.Plan.{Plan, Done, Tell, Stop, Fetch, Load, Store, Need, Writable, Bytes, Put}
use Rattle.spec_machine.specs.Run.{Moment, Outcome, Finished, Violated, Module, may_at, may_range, may_each, sampled, read_device, read_place, load}
use Rattle.spec_machine.specs.Run.{write_device, write_place, store, fetch, device_of, after_read, after_write, after_fetch, exec}
use Rattle.spec_machine.specs.Rows.{program}
use Rattle.spec_machine.specs.Given.{Given, own_section, untouched_with}
use Rattle.spec_machine.specs.Protect.{layout_in, wiped, protected_if, protect, removed_if, unprotect}
use Rattle.spec_machine.specs.ModuleRows.{module_row}
use Rattle.spec_machine.specs.Modules.{module_instruction}
use Rattle.spec_machine.specs.Step.{own_of, pc_of, start, is_module_word, given_at_pc, instruction, ordered, word_outside, attempt, settled_step}
use Rattle.spec_machine.specs.Acts.{interrupt, interrupted, irq_refusal}
use Rattle.spec_machine.specs.Frame.{Framed, StepsFramed, InterruptsFramed}
use Rattle.spec_machine.proofs.PlanGuard.{passes}
use Rattle.spec_machine.proofs.Devices.{some_inj, by_sample}
use Rattle.spec_machine.proofs.Stays.{found_lives}
use Rattle.spec_machine.proofs.Sparse.{done_is}

set_framed : (live : List Section) (own : ℕ) (m0 m : List ℕ) (i v : ℕ) → may live own Write i ≡ true → Framed live own m0 m → Framed live own m0 (slice_set m i v)
set_framed live own m0 m i v q h k p =
    get_or-set_other m i k v 0 (λ e. true≢false (sym q ∙ sym (ap (may live own Write) e) ∙ p)) ∙ h k p

write_framed : (live : List Section) (own : ℕ) (wide : Bool) (m0 m : List ℕ) (at v : ℕ) → may_at wide live own Write at ≡ true → Framed live own m0 m → Framed live own m0 (write_at wide m at v)
write_framed live own true m0 m at v h g =
    let p = and_parts (may live own Write (even at)) (may live own Write (even at + 1)) h in
    set_framed live own m0 (slice_set m (even at) (v % 256)) (even at + 1) (v / 256) p.1 (set_framed live own m0 m (even at) (v % 256) p.0 g)
write_framed live own false m0 m at v h g = set_framed live own m0 m at (v % 256) h g

put_framed : (live : List Section) (own : ℕ) (bs m0 m : List ℕ) (at : ℕ) → may_each live own Write at bs ≡ true → Framed live own m0 m → Framed live own m0 (put_bytes m at bs)
put_framed live own [] m0 m at h g = g
put_framed live own (b ∷ bs) m0 m at h g =
    let p = and_parts (may live own Write at) (may_each live own Write (at + 1) bs) h in
    put_framed live own bs m0 (slice_set m at (b % 256)) (at + 1) p.1 (set_framed live own m0 m at (b % 256) p.0 g)

-- The executor.

abbrev pub FramedBy : List Section → ℕ → List ℕ → Outcome → Type 0
FramedBy live own m0 (Finished regs x) = Framed live own m0 x.mem
FramedBy live own m0 (Violated v) = Unit {0}
FramedBy live own m0 (Module regs x t e c) = Framed live own m0 x.mem

framed_if : (live : List Section) (own : ℕ) (m0 : List ℕ) (b : Bool) (o : Outcome) (v : Violation) → (b ≡ true → FramedBy live own m0 o) → FramedBy live own m0 (cond b o (Violated v))
framed_if live own m0 true o v h = h refl
framed_if live own m0 false o v h = tt

abbrev ReadFramed : List Section → ℕ → List ℕ → Result (ℕ × Moment) Violation → Type 0
ReadFramed live own m0 (Ok r) = Framed live own m0 r.1.mem
ReadFramed live own m0 (Err v) = Unit {0}

sampled_framed : (live : List Section) (own : ℕ) (m0 : List ℕ) (device : ℕ) (w : Window) (x : Moment) → Framed live own m0 x.mem → ReadFramed live own m0 (Ok (sampled device w x))
sampled_framed live own m0 device w x h = by_sample (λ r. Framed live own m0 r.1.mem) device w x h h

device_framed : (live : List Section) (own : ℕ) (m0 : List ℕ) (wide : Bool) (device : ℕ) (w : Window) (k : Kind) (x : Moment)
    → Framed live own m0 x.mem → ReadFramed live own m0 (read_device wide device w k x)
device_framed live own m0 true device w Sensor x h = sampled_framed live own m0 device w x h
device_framed live own m0 false device w Sensor x h = tt
device_framed live own m0 true device w Actuator x h = tt
device_framed live own m0 false device w Actuator x h = tt

place_framed : (live : List Section) (own : ℕ) (m0 : List ℕ) (wide : Bool) (at : ℕ) (d : Option (ℕ × Window)) (x : Moment) → Framed live own m0 x.mem → ReadFramed live own m0 (read_place wide at d x)
place_framed live own m0 wide at None x h = h
place_framed live own m0 wide at (Some d) x h = device_framed live own m0 wide d.0 d.1 d.1.kind x h

load_framed : (live : List Section) (own : ℕ) (m0 : List ℕ) (wide : Bool) (at : ℕ) (x : Moment) → Framed live own m0 x.mem → ReadFramed live own m0 (load live own wide at x)
load_framed live own m0 wide at x h = either (may_at wide live own Read at)
  where
    either : (b : Bool) → ReadFramed live own m0 (if b then read_place wide at (device_of x.devices at) x else Err bad.Read)
    either true = place_framed live own m0 wide at (device_of x.devices at) x h
    either false = tt

abbrev WriteFramed : List Section → ℕ → List ℕ → Result Moment Violation → Type 0
WriteFramed live own m0 (Ok x) = Framed live own m0 x.mem
WriteFramed live own m0 (Err v) = Unit {0}

write_device_framed : (live : List Section) (own : ℕ) (m0 : List ℕ) (wide : Bool) (device v : ℕ) (k : Kind) (x : Moment)
    → Framed live own m0 x.mem → WriteFramed live own m0 (write_device wide device v k x)
write_device_framed live own m0 true device v Actuator x h = h
write_device_framed live own m0 false device v Actuator x h = tt
write_device_framed live own m0 true device v Sensor x h = tt
write_device_framed live own m0 false device v Sensor x h = tt

write_place_framed : (live : List Section) (own : ℕ) (m0 : List ℕ) (wide : Bool) (at v : ℕ) (d : Option (ℕ × Window)) (x : Moment) → may_at wide live own Write at ≡ true → Framed live own m0 x.mem
    → WriteFramed live own m0 (write_place wide at v d x)
write_place_framed live own m0 wide at v None x p h = write_framed live own wide m0 x.mem at v p h
write_place_framed live own m0 wide at v (Some d) x p h = write_device_framed live own m0 wide d.0 v d.1.kind x h

store_framed : (live : List Section) (own : ℕ) (m0 : List ℕ) (wide : Bool) (at v : ℕ) (x : Moment) → Framed live own m0 x.mem → WriteFramed live own m0 (store live own wide at v x)
store_framed live own m0 wide at v x h = either (may_at wide live own Write at) refl
  where
    either : (b : Bool) → may_at wide live own Write at ≡ b → WriteFramed live own m0 (if b then write_place wide at v (device_of x.devices at) x else Err bad.Write)
    either true e = write_place_framed live own m0 wide at v (device_of x.devices at) x e h
    either false e = tt

read_framed : (live : List Section) (own : ℕ) (m0 : List ℕ) (r : Result (ℕ × Moment) Violation) (f : ℕ → Moment → Outcome) → ReadFramed live own m0 r
    → ((v : ℕ) (x : Moment) → Framed live own m0 x.mem → FramedBy live own m0 (f v x)) → FramedBy live own m0 (after_read r f)
read_framed live own m0 (Ok r) f h g = g r.0 r.1 h
read_framed live own m0 (Err v) f h g = tt

written_framed : (live : List Section) (own : ℕ) (m0 : List ℕ) (r : Result Moment Violation) (f : Moment → Outcome) → WriteFramed live own m0 r
    → ((x : Moment) → Framed live own m0 x.mem → FramedBy live own m0 (f x)) → FramedBy live own m0 (after_write r f)
written_framed live own m0 (Ok x) f h g = g x h
written_framed live own m0 (Err v) f h g = tt

fetch_framed : (live : List Section) (own : ℕ) (m0 : List ℕ) (r : Result ℕ Violation) (f : ℕ → Outcome) → ((w : ℕ) → FramedBy live own m0 (f w)) → FramedBy live own m0 (after_fetch r f)
fetch_framed live own m0 (Ok w) f g = g w
fetch_framed live own m0 (Err v) f g = tt

pub exec_framed : (t : Sections) (own : ℕ) (m0 : List ℕ) (p : Plan) (x : Moment) → Framed t.live own m0 x.mem → FramedBy t.live own m0 (exec t own p x)
exec_framed t own m0 (Done regs) x h = h
exec_framed t own m0 (Tell regs e c) x h = h
exec_framed t own m0 (Stop v) x h = tt
exec_framed t own m0 (Fetch at k) x h = fetch_framed t.live own m0 (fetch t.live own at x) (λ w. exec t own (k w) x) (λ w. exec_framed t own m0 (k w) x h)
exec_framed t own m0 (Load wide at k) x h =
    read_framed t.live own m0 (load t.live own wide at x) (λ v y. exec t own (k v) y) (load_framed t.live own m0 wide at x h) (λ v y g. exec_framed t own m0 (k v) y g)
exec_framed t own m0 (Store wide at v k) x h =
    written_framed t.live own m0 (store t.live own wide at v x) (λ y. exec t own k y) (store_framed t.live own m0 wide at v x h) (λ y g. exec_framed t own m0 k y g)
exec_framed t own m0 (Need b v k) x h = framed_if t.live own m0 b (exec t own k x) v (λ _. exec_framed t own m0 k x h)
exec_framed t own m0 (Writable at n k) x h = framed_if t.live own m0 (may_range t.live own Write at n) (exec t own k x) bad.Write (λ _. exec_framed t own m0 k x h)
exec_framed t own m0 (Bytes at n k) x h =
    framed_if t.live own m0 (may_range t.live own Read at n) (exec t own (k (bytes_from x.mem at n)) x) bad.Read (λ _. exec_framed t own m0 (k (bytes_from x.mem at n)) x h)
exec_framed t own m0 (Put at bs k) x h =
    framed_if t.live own m0 (may_each t.live own Write at bs) (exec t own k (record x { mem = put_bytes x.mem at bs })) bad.Write (λ e.
    exec_framed t own m0 k (record x { mem = put_bytes x.mem at bs }) (put_framed t.live own bs m0 x.mem at e h))

-- The private part that protect and unprotect zero is one that the code may write.

pub zeroed_other : (mem : List ℕ) (at n k : ℕ) → (k < at) ⊎ (at + n ≤ k) → slice_index (zeroed mem at n) k ≡ slice_index mem k
unfolding zeroed
zeroed_other mem at zero k h = refl
zeroed_other mem at (suc n) k h =
    get_or-set_other (zeroed mem at n) (at + n) k 0 0 (λ e. elim h [ inl lt ↦ absurd (omega (arith, lt, e)) | inr ge ↦ absurd (omega (arith, ge, e)) ])
    ∙ zeroed_other mem at n k (elim h [ inl lt ↦ inl lt | inr ge ↦ inr (omega (arith, ge)) ])

-- code of `own` may write each byte of the layout's private part
abbrev pub MayWipe : List Section → ℕ → Layout → Type 0
MayWipe live own l = (k : ℕ) → l.priv_from ≤ k → k < l.priv_to → may live own Write k ≡ true

wiped_framed : (live : List Section) (own : ℕ) (m : List ℕ) (l : Layout) → MayWipe live own l → Framed live own m (wiped m l)
wiped_framed live own m l may_wipe k p = elim (cases_lt k l.priv_from) [
  | inl lt ↦ zeroed_other m l.priv_from (l.priv_to - l.priv_from) k (inl lt)
  | inr ge ↦ elim (cases_lt k l.priv_to) [
    | inl lt ↦ absurd (true≢false (sym (may_wipe k ge lt) ∙ p))
    | inr past ↦ zeroed_other m l.priv_from (l.priv_to - l.priv_from) k (inr (omega (arith, ge, past)))
  ]
]

pub all_pass : (test : Section → Bool) (live : List Section) → ((s : Section) → Lives live s → test s ≡ true) → list_all test live ≡ true
all_pass test [] f = refl
all_pass test (x ∷ live) f = and_from (test x) (list_all test live) (f x (inl refl)) (all_pass test live (λ s l. f s (inr l)))

-- and none passes what each fails
pub none_pass : (test : Section → Bool) (live : List Section) → ((s : Section) → Lives live s → test s ≡ false) → list_any test live ≡ false
none_pass test [] f = refl
none_pass test (x ∷ live) f = or_from (test x) (list_any test live) (f x (inl refl)) (none_pass test live (λ s l. f s (inr l)))

-- a byte of one range is none of a range that doesn't meet it
pub out_of : (a b c d k : ℕ) → apart a b c d ≡ true → a ≤ k → k < b → (nat_le c k && nat_lt k d) ≡ false
out_of a b c d k h lo hi = false_from_ne_true (nat_le c k && nat_lt k d) (λ e.
    let p = and_parts (nat_le c k) (nat_lt k d) e in
    elim (or_cases (nat_le b c) (nat_le d a) h) [
      | inl g ↦ omega (arith, leb-true b c g, leb-true c k p.0, hi)
      | inr g ↦ omega (arith, leb-true d a g, ltb-true k d p.1, lo)
    ])

-- a section that holds the byte in neither part lets all code write it
allowed_out : (s : Section) (own k : ℕ) → in_public s k ≡ false → in_private s k ≡ false → allows own Write k s ≡ true
allowed_out s own k p q = rw (p, q) refl

-- and a section lets its own code write its private part
allowed_own : (s : Section) (own k : ℕ) → in_public s k ≡ false → s.id ≡ own → allows own Write k s ≡ true
allowed_own s own k p e = rw p (or_right (not (in_private s k)) (own == s.id) (eq-eqb own s.id (sym e)))

clear_parts : (l : Layout) (s : Section) → clear_of l s ≡ true
    → (apart l.priv_from l.priv_to s.layout.pub_from s.layout.pub_to ≡ true) × (apart l.priv_from l.priv_to s.layout.priv_from s.layout.priv_to ≡ true)
clear_parts l s h =
    let first = and_parts (apart l.pub_from l.pub_to s.layout.pub_from s.layout.pub_to) _ h in
    let second = and_parts (apart l.pub_from l.pub_to s.layout.priv_from s.layout.priv_to) _ first.1 in
    and_parts (apart l.priv_from l.priv_to s.layout.pub_from s.layout.pub_to) (apart l.priv_from l.priv_to s.layout.priv_from s.layout.priv_to) second.1

beside_wipe : (l : Layout) (s : Section) (own k : ℕ) → clear_of l s ≡ true → l.priv_from ≤ k → k < l.priv_to → allows own Write k s ≡ true
beside_wipe l s own k h lo hi =
    let c = clear_parts l s h in
    allowed_out s own k (out_of l.priv_from l.priv_to s.layout.pub_from s.layout.pub_to k c.0 lo hi) (out_of l.priv_from l.priv_to s.layout.priv_from s.layout.priv_to k c.1 lo hi)

protect_may : (t : Sections) (own : ℕ) (l : Layout) (places : List ℕ) → refusal t l places ≡ None → MayWipe t.live own l
unfolding may
protect_may t own l places e k lo hi =
    let clear = (and_parts (parts_apart l) (list_all (clear_of l) t.live) (admits t l places e).overlap).1 in
    all_pass (allows own Write k) t.live (λ s lives. beside_wipe l s own k (passes (clear_of l) t.live s lives clear) lo hi)

pub lives_sound : (next : ℕ) (live : List Section) (s : Section) → AllSound next live → Lives live s → Sound next s
lives_sound next [] s h l = absurd l
lives_sound next (x ∷ live) s h l = elim l [ inl e ↦ subst (λ z. Sound next z) e h.0 | inr r ↦ lives_sound next live s h.1 r ]

-- a live section lets code of another live one write that one's private part, and its own code its own
own_wipe : (t : Sections) (own : Section) (s : Section) (k : ℕ) → Placed t → Lives t.live own → Lives t.live s → own.layout.priv_from ≤ k → k < own.layout.priv_to
    → allows own.id Write k s ≡ true
own_wipe t own s k p lo ls from to = elim (cases_eq own.id s.id) [
  | inl same ↦
      let one : own ≡ s = some_inj own s (sym (placed_found t own p lo) ∙ ap (λ i. section_of t.live i) same ∙ placed_found t s p ls) in
      let parts = apart-swap own.layout.pub_from own.layout.pub_to own.layout.priv_from own.layout.priv_to (lives_sound t.next t.live own p.each lo).parts in
      subst (λ (z : Section). allows own.id Write k z ≡ true) one
      (allowed_own own own.id k (out_of own.layout.priv_from own.layout.priv_to own.layout.pub_from own.layout.pub_to k parts from to) refl)
  | inr ne ↦ beside_wipe own.layout s own.id k (placed_beside t own s p lo ls ne).parts from to
]

unprotect_may : (t : Sections) (own : ℕ) (s : Section) → Placed t → section_of t.live own ≡ Some s → MayWipe t.live own s.layout
unfolding may
unprotect_may t own s p e k lo hi =
    let f = found_lives t.live own s e in
    subst (λ (i : ℕ). list_all (allows i Write k) t.live ≡ true) f.1
    (all_pass (allows s.id Write k) t.live (λ u lives. own_wipe t s u k p f.0 lives lo hi))

protected_framed : (mac : Mac) (g : Given) (m : List ℕ) (l : Layout) (o : Option Refusal) → refusal g.sections l (places_of g.devices) ≡ o → FramedBy g.sections.live g.own m (protected_if mac g m l o)
protected_framed mac g m l None e = wiped_framed g.sections.live g.own m l (protect_may g.sections g.own l (places_of g.devices) e)
protected_framed mac g m l (Some why) e = λ k p. refl

protect_framed : (mac : Mac) (g : Given) (m : List ℕ) → FramedBy g.sections.live g.own m (protect mac g m)
unfolding protect
protect_framed mac g m = protected_framed mac g m (layout_in g.regs) (refusal g.sections (layout_in g.regs) (places_of g.devices)) refl

removed_framed : (g : Given) (m : List ℕ) (o : Option Section) → Placed g.sections → own_section g ≡ o → FramedBy g.sections.live g.own m (removed_if g m o)
removed_framed g m None p e = λ k q. refl
removed_framed g m (Some own) p e = wiped_framed g.sections.live g.own m own.layout (unprotect_may g.sections g.own own p e)

unprotect_framed : (g : Given) (m : List ℕ) → Placed g.sections → FramedBy g.sections.live g.own m (unprotect g m)
unfolding unprotect
unprotect_framed g m p = removed_framed g m (own_section g) p refl

-- The step, and the interrupt.

either_framed : (live : List Section) (own : ℕ) (m : List ℕ) (b : Bool) (o p : Outcome) → FramedBy live own m o → FramedBy live own m p → FramedBy live own m (cond b o p)
either_framed live own m true o p f g = f
either_framed live own m false o p f g = g

instruction_framed : (mac : Mac) (a : State) → Placed a.sections → FramedBy a.sections.live (own_of a) a.mem (instruction mac a)
instruction_framed mac a p =
    let g = given_at_pc mac a in
    let w = word a.mem (pc_of a) in
    let code = w - 0x1380 in
    let by_row = exec a.sections (own_of a) (module_row mac code g) (untouched_with g a.mem) in
    let either = either_framed a.sections.live (own_of a) a.mem in
    either (is_module_word w) (module_instruction mac code g a.mem) (exec a.sections (own_of a) (program w a.regs) (start a))
    (either (code == 0) (unprotect g a.mem) (cond (code == 1) (protect mac g a.mem) by_row) (unprotect_framed g a.mem p)
    (either (code == 1) (protect mac g a.mem) by_row (protect_framed mac g a.mem)
    (exec_framed a.sections (own_of a) a.mem (module_row mac code g) (untouched_with g a.mem) (λ k q. refl))))
    (exec_framed a.sections (own_of a) a.mem (program w a.regs) (start a) (λ k q. refl))

ordered_framed : (mac : Mac) (a : State) (d : Option ℕ) → Placed a.sections → FramedBy a.sections.live (own_of a) a.mem (ordered mac a d)
ordered_framed mac a (Some d) p = tt
ordered_framed mac a None p = framed_if a.sections.live (own_of a) a.mem (in_order a.sections.live a.cur (pc_of a)) (instruction mac a) bad.Order (λ _. instruction_framed mac a p)

settled_framed : (a : State) (o : Outcome) → FramedBy a.sections.live (own_of a) a.mem o
    → Framed a.sections.live (own_of a) a.mem (settled_step a o).state.mem ⊎ ((settled_step a o).state ≡ reset a)
settled_framed a (Finished regs x) h = inl h
settled_framed a (Violated v) h = inr refl
settled_framed a (Module regs x t e c) h = inl h

pub steps_framed : StepsFramed
steps_framed mac a p =
    settled_framed a (attempt mac a)
    (framed_if a.sections.live (own_of a) a.mem (word_outside a.sections.live (pc_of a))
    (ordered mac a (device_at a.devices (pc_of a))) bad.Fetch (λ _. ordered_framed mac a (device_at a.devices (pc_of a)) p))

interrupted_framed : (a : State) (o : Outcome) → FramedBy a.sections.live 0 a.mem o → Framed a.sections.live 0 a.mem (interrupted a o).state.mem ⊎ ((interrupted a o).state ≡ reset a)
interrupted_framed a (Finished regs x) h = inl h
interrupted_framed a (Violated v) h = inr refl
interrupted_framed a (Module regs x t e c) h = inl (λ k p. refl)

pub interrupt_framed : (line : ℕ) (a : State)
    → (let r = interrupted a (exec a.sections 0 (interrupt line a.regs) (start a)) in Framed a.sections.live 0 a.mem r.state.mem ⊎ (r.state ≡ reset a))
interrupt_framed line a = interrupted_framed a (exec a.sections 0 (interrupt line a.regs) (start a)) (exec_framed a.sections 0 a.mem (interrupt line a.regs) (start a) (λ k p. refl))

pub interrupts_framed : InterruptsFramed
interrupts_framed line a seen e =
    let done = interrupted a (exec a.sections 0 (interrupt line a.regs) (start a)) in
    subst (λ (z : State). Framed a.sections.live 0 a.mem z.mem ⊎ (z ≡ reset a)) (sym (done_is (irq_refusal a) a done seen e).0) (interrupt_framed line a)
