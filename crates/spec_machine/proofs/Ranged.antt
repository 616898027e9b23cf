-- Every plan ends in registers in range and stores words, given that it reads words.
use Rattle.std.proofs.Common.{◌≡◌, ℕ, ◌+◌, ◌-◌, ◌*◌, ◌/◌, ◌%◌, ◌<◌, ◌==◌, ◌&&◌, not, Bool, true, false, cond, if◌then◌else◌, List, [], ◌∷◌, Option, Some, None, Result, Ok, Err, refl, ◌∙◌, arith, ℤ}
use Rattle.std.specs.Prelude.{slice_index, slice_set}
use Rattle.std.proofs.lemmas.Nat.{xor_of_16, and_le_l, or_of_16}
use Rattle.sx_isa.specs.declared.instruction.Instr.{Instr}
use Rattle.sx_isa.specs.declared.instruction.Instr.TheVariants.{Two, One, Reti, Jump, Sancus}
use Rattle.sx_isa.specs.declared.instruction.Operand.{Operand}
use Rattle.sx_isa.specs.declared.instruction.Operand.TheVariants.{Reg, Indexed, Indirect, Increment, Symbolic, Absolute, Immediate, Const}
use Rattle.sx_isa.specs.declared.instruction.Op2.{Op2}
use Rattle.sx_isa.specs.declared.instruction.Op2.TheVariants as op2
use Rattle.sx_isa.specs.declared.instruction.Op1.{Op1}
use Rattle.sx_isa.specs.declared.instruction.Op1.TheVariants as op1
use Rattle.sx_isa.specs.Instructions.{IsSource, IsInstruction}
use Rattle.sx_isa.specs.Reading.{length_of, instruction_at}
use Rattle.sx_isa.proofs.Sound.{sound}
use Rattle.sx_alu.specs.declared.flags.Flags.{Flags}
use Rattle.sx_alu.specs.declared.calculation.Calc.{Calc}
use Rattle.sx_alu.specs.declared.calculation.Calc.TheVariants as calc
use Rattle.sx_alu.specs.Table as alu
use Rattle.sx_alu.specs.Table.{limit, half, is_negative, inverse}
use Rattle.sx_rules.specs.declared.access.Access.TheVariants.{Read, Write}
use Rattle.sx_rules.specs.declared.access.Violation.{Violation}
use Rattle.sx_rules.specs.declared.access.Violation.TheVariants as bad
use Rattle.sx_rules.specs.Access.{Sections}
use Rattle.sx_bus.specs.declared.devices.Kind.{Kind}
use Rattle.sx_bus.specs.declared.devices.Kind.TheVariants.{Sensor, Actuator}
use Rattle.sx_bus.specs.declared.devices.Window.{Window}
use Rattle.sx_bus.specs.Devices.{HaveSamples}
use Rattle.spec_machine.specs.Memory.{bytes_from, put_bytes}
use Rattle.spec_machine.specs.Plan.{Plan, Done, Tell, Stop, Fetch, Load, Store, Need, Writable, Bytes, Put}
use Rattle.spec_machine.specs.Run.{Moment, Outcome, Finished, Violated, Module, may_at, may_range, may_each, device_of, sampled, read_device, with_touch, untouched}
use Rattle.spec_machine.specs.Run.{read_place, load, write_device, write_place, store, fetch_place, fetch, after_read, after_write, after_fetch, exec}
use Rattle.spec_machine.specs.Registers.{cut_value, onward, reg, set_reg, at_pc, flags, set_flags, incremented}
use Rattle.spec_machine.specs.Rows.{from_source, reads, writes, into_register, into_memory, on_memory, onto, lowered, pushed, in_memory, in_place, one, reti}
use Rattle.spec_machine.specs.Rows.{jump_taken, distance, jump, row, row_of, with_words, program, computed}
use Rattle.spec_machine.specs.Acts.{interrupt}
use Rattle.sx_bus.specs.Memory.{AreMemoryBytes}
use Rattle.sx_bus.proofs.Changed.{HaveSamples-cleared}
use Rattle.spec_machine.specs.Node.{AreRegisters}
use Rattle.spec_machine.specs.NodeLaws.{shapes}
use Rattle.spec_machine.proofs.Registers.{Holds, holds_pc, holds_sp, holds_zero, pc_even, sp_even, set_registers, set_reg_registers, at_pc_registers}
use Rattle.spec_machine.proofs.Registers.{flags_registers, lowered_registers, incremented_registers, distance_even, word_small, read_small, write_bytes}
use Rattle.spec_machine.proofs.Registers.{put_small}
use Rattle.spec_machine.proofs.Devices.{device_there, sample_small, cleared_shapes, by_sample}
use Rattle.spec_machine.specs.declared.kinds.Touch.{Touch}
use Rattle.spec_machine.specs.declared.kinds.Touch.TheVariants.{Quiet, DeviceRead, DeviceWrite}
use Rattle.lemmas.specs.Truth.{truth}

-- every way that a plan goes on, when it reads words, stores words and ends in registers in range
abbrev pub Ranged : Plan → Type 0
Ranged (Done regs) = AreRegisters regs
Ranged (Tell regs e c) = AreRegisters regs
Ranged (Stop v) = Unit {0}
Ranged (Fetch at k) = (w : ℕ) → w < 65536 → Ranged (k w)
Ranged (Load wide at k) = (v : ℕ) → v < 65536 → Ranged (k v)
Ranged (Store wide at v k) = (v < 65536) × Ranged k
Ranged (Need b v k) = Ranged k
Ranged (Writable at n k) = Ranged k
Ranged (Bytes at n k) = (bs : List ℕ) → Ranged (k bs)
Ranged (Put at bs k) = Ranged k

-- The executor.

-- what is written to a device is a word
abbrev pub Word : Touch → Type 0
Word Quiet = Unit {0}
Word (DeviceRead k v) = Unit {0}
Word (DeviceWrite k v) = v < 65536

abbrev pub Words : List Touch → Type 0
Words [] = Unit {0}
Words (t ∷ ts) = Word t × Words ts

with_touch_words : (ts : List Touch) (t : Touch) → Words ts → Word t → Words (with_touch ts t)
with_touch_words [] t h w = tt
with_touch_words (Quiet ∷ ts) t h w = (w, h.1)
with_touch_words (DeviceRead k v ∷ ts) t h w = (h.0, with_touch_words ts t h.1 w)
with_touch_words (DeviceWrite k v ∷ ts) t h w = (h.0, with_touch_words ts t h.1 w)

pub no_words : Words untouched
no_words = (tt, (tt, tt))

-- memory in range, devices as they were but for their fresh marks, and words written to them
pub record Steady (devices : List Window) (x : Moment) : Type 0 where
  pub memory : AreMemoryBytes x.mem
  pub shapes : shapes x.devices ≡ shapes devices
  pub samples : HaveSamples x.devices
  pub words : Words x.touches

abbrev pub RangedBy : List Window → Outcome → Type 0
RangedBy devices (Finished regs x) = AreRegisters regs × Steady devices x
RangedBy devices (Violated v) = Unit {0}
RangedBy devices (Module regs x t e c) = AreRegisters regs × Steady devices x

pub ranged_outcome : (ds : List Window) (b : Bool) (o : Outcome) (v : Violation) → RangedBy ds o → RangedBy ds (cond b o (Violated v))
ranged_outcome ds true o v h = h
ranged_outcome ds false o v h = tt

abbrev ReadRanged : List Window → Result (ℕ × Moment) Violation → Type 0
ReadRanged ds (Ok r) = (r.0 < 65536) × Steady ds r.1
ReadRanged ds (Err v) = Unit {0}

sampled_ranged : (ds : List Window) (k : ℕ) (w : Window) (x : Moment) → w.value < 32768 → Steady ds x → ReadRanged ds (Ok (sampled k w x))
sampled_ranged ds k w x lt h =
    by_sample (λ r. (r.0 < 65536) × Steady ds r.1) k w x
    (omega (arith, lt), record { memory = h.memory; shapes = cleared_shapes x.devices k ∙ h.shapes; samples = HaveSamples-cleared x.devices k h.samples; words = with_touch_words x.touches (DeviceRead k w.value) h.words tt }) (omega arith, h)

device_ranged : (ds : List Window) (wide : Bool) (k : ℕ) (w : Window) (kind : Kind) (x : Moment) → w.value < 32768 → Steady ds x → ReadRanged ds (read_device wide k w kind x)
device_ranged ds true k w Sensor x lt h = sampled_ranged ds k w x lt h
device_ranged ds false k w Sensor x lt h = tt
device_ranged ds true k w Actuator x lt h = tt
device_ranged ds false k w Actuator x lt h = tt

place_ranged : (ds : List Window) (wide : Bool) (at : ℕ) (o : Option (ℕ × Window)) (x : Moment) → device_of x.devices at ≡ o → Steady ds x → ReadRanged ds (read_place wide at o x)
place_ranged ds wide at None x e h = (read_small wide x.mem at h.memory, h)
place_ranged ds wide at (Some d) x e h = device_ranged ds wide d.0 d.1 d.1.kind x (sample_small x.devices d.0 d.1 h.samples (device_there x.devices at d.0 d.1 e)) h

load_ranged : (ds : List Window) (t : Sections) (own : ℕ) (wide : Bool) (at : ℕ) (x : Moment) → Steady ds x → ReadRanged ds (load t.live own wide at x)
load_ranged ds t own wide at x h = by (may_at wide t.live own Read at)
  where
    by : (b : Bool) → ReadRanged ds (if b then read_place wide at (device_of x.devices at) x else Err bad.Read)
    by true = place_ranged ds wide at (device_of x.devices at) x refl h
    by false = tt

abbrev WriteRanged : List Window → Result Moment Violation → Type 0
WriteRanged ds (Ok x) = Steady ds x
WriteRanged ds (Err v) = Unit {0}

actuated_ranged : (ds : List Window) (wide : Bool) (k v : ℕ) (kind : Kind) (x : Moment) → v < 65536 → Steady ds x → WriteRanged ds (write_device wide k v kind x)
actuated_ranged ds true k v Actuator x lt h = record { memory = h.memory; shapes = h.shapes; samples = h.samples; words = with_touch_words x.touches (DeviceWrite k v) h.words lt }
actuated_ranged ds false k v Actuator x lt h = tt
actuated_ranged ds true k v Sensor x lt h = tt
actuated_ranged ds false k v Sensor x lt h = tt

written_ranged : (ds : List Window) (wide : Bool) (at v : ℕ) (o : Option (ℕ × Window)) (x : Moment) → v < 65536 → Steady ds x → WriteRanged ds (write_place wide at v o x)
written_ranged ds wide at v None x lt h = record { memory = write_bytes wide x.mem at v h.memory lt; shapes = h.shapes; samples = h.samples; words = h.words }
written_ranged ds wide at v (Some d) x lt h = actuated_ranged ds wide d.0 v d.1.kind x lt h

store_ranged : (ds : List Window) (t : Sections) (own : ℕ) (wide : Bool) (at v : ℕ) (x : Moment) → v < 65536 → Steady ds x → WriteRanged ds (store t.live own wide at v x)
store_ranged ds t own wide at v x lt h = by (may_at wide t.live own Write at)
  where
    by : (b : Bool) → WriteRanged ds (if b then write_place wide at v (device_of x.devices at) x else Err bad.Write)
    by true = written_ranged ds wide at v (device_of x.devices at) x lt h
    by false = tt

abbrev FetchRanged : Result ℕ Violation → Type 0
FetchRanged (Ok w) = w < 65536
FetchRanged (Err v) = Unit {0}

fetch_ranged : (ds : List Window) (t : Sections) (own : ℕ) (at : ℕ) (x : Moment) → Steady ds x → FetchRanged (fetch t.live own at x)
fetch_ranged ds t own at x h = by (Rattle.sx_rules.specs.Access.extends t.live own
    (Rattle.spec_machine.specs.Memory.even at) && Rattle.sx_rules.specs.Access.extends t.live own (Rattle.spec_machine.specs.Memory.even at + 1))
  where
    at_place : (o : Option (ℕ × Window)) → FetchRanged (fetch_place at o x)
    at_place None = word_small x.mem at h.memory
    at_place (Some d) = tt

    by : (b : Bool) → FetchRanged (if b then fetch_place at (device_of x.devices at) x else Err bad.Fetch)
    by true = at_place (device_of x.devices at)
    by false = tt

read_by : (ds : List Window) (r : Result (ℕ × Moment) Violation) (f : ℕ → Moment → Outcome) → ReadRanged ds r
    → ((v : ℕ) (x : Moment) → v < 65536 → Steady ds x → RangedBy ds (f v x)) → RangedBy ds (after_read r f)
read_by ds (Ok r) f h g = g r.0 r.1 h.0 h.1
read_by ds (Err v) f h g = tt

write_by : (ds : List Window) (r : Result Moment Violation) (f : Moment → Outcome) → WriteRanged ds r → ((x : Moment) → Steady ds x → RangedBy ds (f x)) → RangedBy ds (after_write r f)
write_by ds (Ok x) f h g = g x h
write_by ds (Err v) f h g = tt

fetch_by : (ds : List Window) (r : Result ℕ Violation) (f : ℕ → Outcome) → FetchRanged r → ((w : ℕ) → w < 65536 → RangedBy ds (f w)) → RangedBy ds (after_fetch r f)
fetch_by ds (Ok w) f h g = g w h
fetch_by ds (Err v) f h g = tt

pub exec_ranged : (t : Sections) (own : ℕ) (ds : List Window) (p : Plan) (x : Moment) → Ranged p → Steady ds x → RangedBy ds (exec t own p x)
exec_ranged t own ds (Done regs) x r h = (r, h)
exec_ranged t own ds (Tell regs e c) x r h = (r, h)
exec_ranged t own ds (Stop v) x r h = tt
exec_ranged t own ds (Fetch at k) x r h = fetch_by ds (fetch t.live own at x) (λ w. exec t own (k w) x) (fetch_ranged ds t own at x h) (λ w lt. exec_ranged t own ds (k w) x (r w lt) h)
exec_ranged t own ds (Load wide at k) x r h = read_by ds (load t.live own wide at x) (λ v y. exec t own (k v) y)
    (load_ranged ds t own wide at x h) (λ v y lt g. exec_ranged t own ds (k v) y (r v lt) g)
exec_ranged t own ds (Store wide at v k) x r h = write_by ds (store t.live own wide at v x) (λ y. exec t own k y) (store_ranged ds t own wide at v x r.0 h) (λ y g. exec_ranged t own ds k y r.1 g)
exec_ranged t own ds (Need b v k) x r h = ranged_outcome ds b (exec t own k x) v (exec_ranged t own ds k x r h)
exec_ranged t own ds (Writable at n k) x r h = ranged_outcome ds (may_range t.live own Write at n) (exec t own k x) bad.Write (exec_ranged t own ds k x r h)
exec_ranged t own ds (Bytes at n k) x r h = ranged_outcome ds (may_range t.live own Read at n)
    (exec t own (k (bytes_from x.mem at n)) x) bad.Read (exec_ranged t own ds (k (bytes_from x.mem at n)) x (r (bytes_from x.mem at n)) h)
exec_ranged t own ds (Put at bs k) x r h =
    ranged_outcome ds (may_each t.live own Write at bs) (exec t own k (record x { mem = put_bytes x.mem at bs })) bad.Write
    (exec_ranged t own ds k (record x { mem = put_bytes x.mem at bs }) r (record { memory = put_small bs x.mem at h.memory; shapes = h.shapes; samples = h.samples; words = h.words }))

-- Calculations give words.

cut_small : (wide : Bool) (v : ℕ) → cut_value wide v < 65536
cut_small true v = omega arith
cut_small false v = omega arith

sum_small : (wide : Bool) (n : ℕ) → n % limit wide < 65536
sum_small true n = omega arith
sum_small false n = omega arith

shifted_small : (wide : Bool) (s : ℕ) (top : Bool) → s < 65536 → s / 2 + truth top * half wide < 65536
shifted_small true s true lt = omega (arith, lt)
shifted_small true s false lt = omega (arith, lt)
shifted_small false s true lt = omega (arith, lt)
shifted_small false s false lt = omega (arith, lt)

extended_small : (s : ℕ) (b : Bool) → s % 256 + truth b * 0xff00 < 65536
extended_small s true = omega arith
extended_small s false = omega arith

pub alu_small : (kind : Calc) (wide : Bool) (s d : ℕ) (f : Flags) → s < 65536 → d < 65536 → (alu.row kind wide s d f).0 < 65536
alu_small calc.Add wide s d f a b = sum_small wide (d + s + 0)
alu_small calc.AddCarry wide s d f a b = sum_small wide (d + s + truth f.c)
alu_small calc.Sub wide s d f a b = sum_small wide (d + inverse wide s + 1)
alu_small calc.SubCarry wide s d f a b = sum_small wide (d + inverse wide s + truth f.c)
alu_small calc.And wide s d f a b = omega (arith, and_le_l d s, b)
alu_small calc.AndNot wide s d f a b = omega (arith, and_le_l d (inverse wide s), b)
alu_small calc.Or wide s d f a b = or_of_16 d s b a
alu_small calc.Xor wide s d f a b = xor_of_16 d s b a
alu_small calc.Rrc wide s d f a b = shifted_small wide s f.c a
alu_small calc.Rra wide s d f a b = shifted_small wide s (is_negative wide s) a
alu_small calc.Swap wide s d f a b = omega (arith, a)
alu_small calc.Extend wide s d f a b = extended_small s (is_negative false (s % 256))

pub computed_small : (op : Op2) (wide : Bool) (s d : ℕ) (f : Flags) → s < 65536 → d < 65536 → (computed op wide s d f).0 < 65536
computed_small op2.Mov wide s d f a b = a
computed_small op2.Add wide s d f a b = alu_small calc.Add wide s d f a b
computed_small op2.Addc wide s d f a b = alu_small calc.AddCarry wide s d f a b
computed_small op2.Subc wide s d f a b = alu_small calc.SubCarry wide s d f a b
computed_small op2.Sub wide s d f a b = alu_small calc.Sub wide s d f a b
computed_small op2.Cmp wide s d f a b = alu_small calc.Sub wide s d f a b
computed_small op2.Bit wide s d f a b = alu_small calc.And wide s d f a b
computed_small op2.Bic wide s d f a b = alu_small calc.AndNot wide s d f a b
computed_small op2.Bis wide s d f a b = alu_small calc.Or wide s d f a b
computed_small op2.Xor wide s d f a b = alu_small calc.Xor wide s d f a b
computed_small op2.And wide s d f a b = alu_small calc.And wide s d f a b

-- The rows.

pub ranged_if : (b : Bool) (p q : Plan) → Ranged p → Ranged q → Ranged (if b then p else q)
ranged_if true p q f g = f
ranged_if false p q f g = g

ranged_source : (wide : Bool) (o : Operand) (regs : List ℕ) (k : ℕ → List ℕ → Plan) → IsSource o
    → AreRegisters regs → ((v : ℕ) (r : List ℕ) → v < 65536 → AreRegisters r → Ranged (k v r)) → Ranged (from_source wide o regs k)
ranged_source wide (Reg r) regs k o h f = f (cut_value wide (reg regs r)) regs (cut_small wide (reg regs r)) h
ranged_source wide (Indexed r x) regs k o h f = λ v lt. f v regs lt h
ranged_source wide (Symbolic x) regs k o h f = λ v lt. f v regs lt h
ranged_source wide (Absolute x) regs k o h f = λ v lt. f v regs lt h
ranged_source wide (Indirect r) regs k o h f = λ v lt. f v regs lt h
ranged_source wide (Increment r) regs k o h f = λ v lt. f v (incremented wide regs r) lt (incremented_registers wide regs r h o)
ranged_source wide (Immediate x) regs k o h f = f (cut_value wide x) regs (cut_small wide x) h
ranged_source wide (Const c) regs k o h f = f (cut_value wide c) regs (cut_small wide c) h

ranged_register : (written : Bool) (r : ℕ) (result : ℕ × Flags) (regs : List ℕ) → result.0 < 65536 → AreRegisters regs → Ranged (into_register written r result regs)
ranged_register true r result regs lt h = set_reg_registers (set_flags regs result.1) r result.0 (flags_registers regs result.1 h) lt
ranged_register false r result regs lt h = flags_registers regs result.1 h

ranged_memory : (wide written : Bool) (at : ℕ) (result : ℕ × Flags) (regs : List ℕ) → result.0 < 65536 → AreRegisters regs → Ranged (into_memory wide written at result regs)
ranged_memory wide true at result regs lt h = (lt, flags_registers regs result.1 h)
ranged_memory wide false at result regs lt h = flags_registers regs result.1 h

ranged_on : (op : Op2) (wide : Bool) (at s : ℕ) (regs : List ℕ) → s < 65536 → AreRegisters regs → Ranged (on_memory op wide at s regs)
ranged_on op wide at s regs lt h =
    ranged_if (reads op) (Load wide at (λ d. into_memory wide (writes op) at (computed op wide s d (flags regs)) regs)) (into_memory wide (writes op) at (computed op wide s 0 (flags regs)) regs)
    (λ v b. ranged_memory wide (writes op) at (computed op wide s v (flags regs)) regs (computed_small op wide s v (flags regs) lt b) h)
    (ranged_memory wide (writes op) at (computed op wide s 0 (flags regs)) regs (computed_small op wide s 0 (flags regs) lt (omega arith)) h)

ranged_onto : (op : Op2) (wide : Bool) (o : Operand) (s : ℕ) (regs : List ℕ) → s < 65536 → AreRegisters regs → Ranged (onto op wide o s regs)
ranged_onto op wide (Reg r) s regs lt h =
    ranged_register (writes op) r (computed op wide s (cut_value wide (reg regs r)) (flags regs)) regs
    (computed_small op wide s (cut_value wide (reg regs r)) (flags regs) lt (cut_small wide (reg regs r))) h
ranged_onto op wide (Indexed r x) s regs lt h = ranged_on op wide (onward (reg regs r) x) s regs lt h
ranged_onto op wide (Symbolic x) s regs lt h = ranged_on op wide (onward (reg regs 0) (65534 + x)) s regs lt h
ranged_onto op wide (Absolute x) s regs lt h = ranged_on op wide x s regs lt h
ranged_onto op wide (Indirect r) s regs lt h = tt
ranged_onto op wide (Increment r) s regs lt h = tt
ranged_onto op wide (Immediate x) s regs lt h = tt
ranged_onto op wide (Const c) s regs lt h = tt

ranged_in : (kind : Calc) (wide : Bool) (at : ℕ) (regs : List ℕ) → AreRegisters regs → Ranged (in_memory kind wide at regs)
ranged_in kind wide at regs h v lt = ranged_memory wide true at (alu.row kind wide v 0 (flags regs)) regs (alu_small kind wide v 0 (flags regs) lt (omega arith)) h

ranged_place : (kind : Calc) (wide : Bool) (o : Operand) (regs : List ℕ) (next : ℕ) → IsSource o → AreRegisters regs → Holds 0 next → Ranged (in_place kind wide o regs next)
ranged_place kind wide (Reg r) regs next o h n =
    ranged_register true r (alu.row kind wide (cut_value wide (reg regs r)) 0 (flags regs)) (at_pc regs next)
    (alu_small kind wide (cut_value wide (reg regs r)) 0 (flags regs) (cut_small wide (reg regs r)) (omega arith)) (at_pc_registers regs next h n)
ranged_place kind wide (Indexed r x) regs next o h n = ranged_in kind wide (onward (reg regs r) x) (at_pc regs next) (at_pc_registers regs next h n)
ranged_place kind wide (Symbolic x) regs next o h n = ranged_in kind wide (onward (reg regs 0) x) (at_pc regs next) (at_pc_registers regs next h n)
ranged_place kind wide (Absolute x) regs next o h n = ranged_in kind wide x (at_pc regs next) (at_pc_registers regs next h n)
ranged_place kind wide (Indirect r) regs next o h n = ranged_in kind wide (reg regs r) (at_pc regs next) (at_pc_registers regs next h n)
ranged_place kind wide (Increment r) regs next o h n =
    ranged_in kind wide (reg regs r) (at_pc (incremented wide regs r) next) (at_pc_registers (incremented wide regs r) next (incremented_registers wide regs r h o) n)
ranged_place kind wide (Immediate x) regs next o h n = tt
ranged_place kind wide (Const c) regs next o h n = tt

ranged_pushed : (wide : Bool) (v pc : ℕ) (regs : List ℕ) → v < 65536 → AreRegisters regs → Holds 0 pc → Ranged (pushed wide v pc regs)
ranged_pushed wide v pc regs lt h n = (lt, at_pc_registers (lowered regs) pc (lowered_registers regs h) n)

ranged_one : (op : Op1) (wide : Bool) (o : Operand) (regs : List ℕ) (next : ℕ) → IsSource o → AreRegisters regs → Holds 0 next → Ranged (one op wide o regs next)
ranged_one op1.Rrc wide o regs next s h n = ranged_place calc.Rrc wide o regs next s h n
ranged_one op1.Swpb wide o regs next s h n = ranged_place calc.Swap true o regs next s h n
ranged_one op1.Rra wide o regs next s h n = ranged_place calc.Rra wide o regs next s h n
ranged_one op1.Sxt wide o regs next s h n = ranged_place calc.Extend true o regs next s h n
ranged_one op1.Push wide o regs next s h n = ranged_source wide o regs (λ v r. pushed wide v next r) s h (λ v r lt g. ranged_pushed wide v next r lt g n)
ranged_one op1.Call wide o regs next s h n =
    ranged_source true o regs (λ v r. pushed true next (v - v % 2) r) s h (λ v r lt g. ranged_pushed true next (v - v % 2) r n.0 g (holds_pc (v - v % 2) (omega (arith, lt)) (omega arith)))

ranged_reti : (regs : List ℕ) → AreRegisters regs → Ranged (reti regs)
ranged_reti regs h sr a pc b =
    let sp = slice_index regs 1 in
    let e = sp_even regs h in
    set_reg_registers (slice_set (set_reg regs 2 sr) 1 (onward sp 4)) 0 pc
    (set_registers (set_reg regs 2 sr) 1 (onward sp 4) (set_reg_registers regs 2 sr h a) (holds_sp (onward sp 4) (omega arith) (omega (arith, e)))) b

ranged_jump : (c : ℕ) (o : ℤ) (regs : List ℕ) (next : ℕ) → AreRegisters regs → Holds 0 next → Ranged (jump c o regs next)
ranged_jump c o regs next h n =
    at_pc_registers regs (if jump_taken c (flags regs) then onward next (distance o) else next) h (by (jump_taken c (flags regs)))
  where
    by : (b : Bool) → Holds 0 (if b then onward next (distance o) else next)
    by true = let e = n.1 in holds_pc (onward next (distance o)) (omega arith) (omega (arith, e, distance_even o))
    by false = n

ranged_row : (i : Instr) (regs : List ℕ) (next : ℕ) → IsInstruction i → AreRegisters regs → Holds 0 next → Ranged (row i regs next)
ranged_row (Two op byte src dst) regs next i h n =
    ranged_source (not byte) src regs (λ s r. onto op (not byte) dst s (at_pc r next)) i.0 h (λ v r lt g. ranged_onto op (not byte) dst v (at_pc r next) lt (at_pc_registers r next g n))
ranged_row (One op byte o) regs next i h n = ranged_one op (not byte) o regs next i.0 h n
ranged_row Reti regs next i h n = ranged_reti regs h
ranged_row (Jump c offset) regs next i h n = ranged_jump c offset regs next h n
ranged_row (Sancus code) regs next i h n = tt

ranged_row_of : (o : Option (Instr × ℕ)) (regs : List ℕ) (pc : ℕ) → ((f : Instr × ℕ) → o ≡ Some f → IsInstruction f.0) → AreRegisters regs → pc % 2 ≡ 0 → Ranged (row_of o regs pc)
ranged_row_of None regs pc i h e = tt
ranged_row_of (Some f) regs pc i h e = ranged_row f.0 regs (onward pc (2 * f.1)) (i f refl) h (holds_pc (onward pc (2 * f.1)) (omega arith) (omega (arith, e)))

ranged_words : (o : Option ℕ) (w : ℕ) (regs : List ℕ) (pc : ℕ) → w < 65536 → AreRegisters regs → pc % 2 ≡ 0 → Ranged (with_words o w regs pc)
ranged_words None w regs pc lt h e = tt
ranged_words (Some n) w regs pc lt h e =
    ranged_if (n == 1) _ _ (ranged_row_of (instruction_at w 0 0) regs pc (λ f q. (sound w 0 0 lt (omega arith) (omega arith) f q).0) h e)
    (ranged_if (n == 2) _ _ (λ x a. ranged_row_of (instruction_at w x 0) regs pc (λ f q. (sound w x 0 lt a (omega arith) f q).0) h e)
    (λ x a y b. ranged_row_of (instruction_at w x y) regs pc (λ f q. (sound w x y lt a b f q).0) h e))

pub ranged_program : (w : ℕ) (regs : List ℕ) → w < 65536 → AreRegisters regs → Ranged (program w regs)
unfolding program
ranged_program w regs lt h =
    let pc = slice_index regs 0 in
    let e = pc_even regs h in
    ranged_words (length_of w) w (at_pc regs (onward pc 2)) pc lt (at_pc_registers regs (onward pc 2) h (holds_pc (onward pc 2) (omega arith) (omega (arith, e)))) e

pub ranged_interrupt : (line : ℕ) (regs : List ℕ) → AreRegisters regs → Ranged (interrupt line regs)
unfolding interrupt
ranged_interrupt line regs h =
    let sp = slice_index regs 1 in
    let e = sp_even regs h in
    let second = onward sp 65532 in (
      h.words 0,
      (
        h.words 2,
        λ pc lt.
            set_reg_registers (slice_set (slice_set regs 1 second) 2 0) 0 pc
            (set_registers (slice_set regs 1 second) 2 0 (set_registers regs 1 second h (holds_sp second (omega arith) (omega (arith, e)))) (holds_zero 2)) lt,
      ),
    )
