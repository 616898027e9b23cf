-- Registers and bytes in range, and what keeps them there.
use Rattle.std.proofs.Common.{◌≡◌, ◌≢◌, ℕ, zero, suc, ◌+◌, ◌-◌, ◌/◌, ◌%◌, ◌<◌, ◌≤◌, ◌==◌, ◌||◌, inl, inr, Bool, true, false, if◌then◌else◌, List, [], ◌∷◌}
use Rattle.std.proofs.Common.{length, replicate, refl, sym, ◌∙◌, subst, arith, ℤ, pos, negsuc}
use Rattle.std.specs.Prelude.{slice_index, slice_set}
use Rattle.std.proofs.lemmas.Bool.{cases_eq, cases_lt, ne_eqb}
use Rattle.std.proofs.lemmas.List.{length-set, get_or-set_same, get_or-set_other, set_past, length-replicate}
use Rattle.sx_isa.specs.Instructions.{IsGeneral}
use Rattle.sx_alu.specs.Status.{with_flags_in}
use Rattle.sx_alu.specs.declared.flags.Flags.{Flags}
use Rattle.spec_machine.specs.Memory.{even, word, read_at, write_at, put_bytes, zeroed}
use Rattle.spec_machine.specs.Registers.{onward, reg, kept_in, set_reg, at_pc, set_flags, incremented}
use Rattle.spec_machine.specs.Given.{concluded}
use Rattle.spec_machine.specs.Rows.{lowered, distance}
use Rattle.sx_bus.specs.Memory.{AreMemoryBytes}
use Rattle.sx_bus.proofs.Bytes.{AreMemoryBytes-set}
use Rattle.spec_machine.specs.Node.{AreRegisters}
use Rattle.lemmas.proofs.Lists.{zero_at}
use Rattle.lemmas.proofs.Truths.{truth_small}

-- a word that a register keeps
abbrev pub Holds : ℕ → ℕ → Type 0
Holds r v = (v < 65536) × (kept_in r v ≡ v)

abbrev kept_by : Bool → Bool → Bool → ℕ → ℕ
kept_by a b c v = if a then v - v % 2 else if b then v % 512 else if c then 0 else v

pub holds_kept : (r v : ℕ) → v < 65536 → Holds r (kept_in r v)
holds_kept r v lt = by ((r == 0) || (r == 1)) (r == 2) (r == 3)
  where
    by : (a b c : Bool) → (kept_by a b c v < 65536) × (kept_by a b c (kept_by a b c v) ≡ kept_by a b c v)
    by true b c = (omega (arith, lt), omega arith)
    by false true c = (omega arith, omega arith)
    by false false true = (omega arith, refl)
    by false false false = (lt, refl)

pub holds_zero : (r : ℕ) → Holds r 0
holds_zero r = (omega arith, by ((r == 0) || (r == 1)) (r == 2) (r == 3))
  where
    by : (a b c : Bool) → kept_by a b c 0 ≡ 0
    by true b c = refl
    by false true c = refl
    by false false true = refl
    by false false false = refl

-- PC and SP hold what is even, SR what is below 512
pub holds_pc : (v : ℕ) → v < 65536 → v % 2 ≡ 0 → Holds 0 v
holds_pc v lt e = (lt, omega (arith, e))

pub holds_sp : (v : ℕ) → v < 65536 → v % 2 ≡ 0 → Holds 1 v
holds_sp v lt e = (lt, omega (arith, e))

pub holds_sr : (v : ℕ) → v < 512 → Holds 2 v
holds_sr v lt = (omega (arith, lt), omega (arith, lt))

pub pc_even : (regs : List ℕ) → AreRegisters regs → slice_index regs 0 % 2 ≡ 0
pc_even regs h = let k = h.kept 0 in omega (arith, k)

pub sp_even : (regs : List ℕ) → AreRegisters regs → slice_index regs 1 % 2 ≡ 0
sp_even regs h = let k = h.kept 1 in omega (arith, k)

pub sr_low : (regs : List ℕ) → AreRegisters regs → slice_index regs 2 < 512
sr_low regs h = let k = h.kept 2 in omega (arith, k)

pub set_registers : (regs : List ℕ) (i v : ℕ) → AreRegisters regs → Holds i v → AreRegisters (slice_set regs i v)
set_registers regs i v h p = record { sixteen = length-set regs i v ∙ h.sixteen; words = λ r. (each r).0; kept = λ r. (each r).1 }
  where
    each : (r : ℕ) → Holds r (slice_index (slice_set regs i v) r)
    each r = elim (cases_eq r i) [
      | inl e ↦ elim (cases_lt i (length regs)) [
        | inl lt ↦ subst (λ j. Holds j (slice_index (slice_set regs i v) j)) (sym e) (subst (λ z. Holds i z) (sym (get_or-set_same regs i v 0 lt)) p)
        | inr ge ↦ subst (λ (xs : List ℕ). Holds r (slice_index xs r)) (sym (set_past regs i v ge)) (h.words r, h.kept r)
      ]
      | inr ne ↦ subst (λ z. Holds r z) (sym (get_or-set_other regs i r v 0 ne)) (h.words r, h.kept r)
    ]

pub set_reg_registers : (regs : List ℕ) (r v : ℕ) → AreRegisters regs → v < 65536 → AreRegisters (set_reg regs r v)
set_reg_registers regs r v h lt = set_registers regs (r % 16) (kept_in (r % 16) v) h (holds_kept (r % 16) v lt)

pub at_pc_registers : (regs : List ℕ) (v : ℕ) → AreRegisters regs → Holds 0 v → AreRegisters (at_pc regs v)
at_pc_registers regs v h p = set_registers regs 0 v h p

pub flags_registers : (regs : List ℕ) (f : Flags) → AreRegisters regs → AreRegisters (set_flags regs f)
flags_registers regs f h =
    let sr = slice_index regs 2 in
    let low = sr_low regs h in
    set_registers regs 2 (with_flags_in sr f) h (holds_sr (with_flags_in sr f) (omega (arith, low, truth_small f.v, truth_small f.n, truth_small f.z, truth_small f.c)))

pub concluded_registers : (regs : List ℕ) (v : ℕ) → AreRegisters regs → v < 65536 → AreRegisters (concluded regs v)
concluded_registers regs v h lt =
    let pc = slice_index regs 0 in
    let e = pc_even regs h in
    set_registers (slice_set regs 0 (onward pc 2)) 15 v (set_registers regs 0 (onward pc 2) h (holds_pc (onward pc 2) (omega arith) (omega (arith, e)))) (lt, refl)

pub lowered_registers : (regs : List ℕ) → AreRegisters regs → AreRegisters (lowered regs)
lowered_registers regs h =
    let sp = slice_index regs 1 in
    let e = sp_even regs h in
    set_registers regs 1 (onward sp 65534) h (holds_sp (onward sp 65534) (omega arith) (omega (arith, e)))

-- R4 to R15 hold every word
pub free_of : (r v : ℕ) → 4 ≤ r → kept_in r v ≡ v
free_of r v ge = by ((r == 0) || (r == 1)) (r == 2) (r == 3)
    (or_none (r == 0) (r == 1) (ne_eqb r 0 (λ e. omega (arith, ge, e))) (ne_eqb r 1 (λ e. omega (arith, ge, e))))
    (ne_eqb r 2 (λ e. omega (arith, ge, e))) (ne_eqb r 3 (λ e. omega (arith, ge, e)))
  where
    by : (a b c : Bool) → a ≡ false → b ≡ false → c ≡ false → kept_by a b c v ≡ v
    by a b c x y z = rw (x, y, z) refl

    or_none : (a b : Bool) → a ≡ false → b ≡ false → a || b ≡ false
    or_none a b x y = rw (x, y) refl

-- a register that an instruction moves on is SP, which moves by 2, or one that keeps every word
pub incremented_registers : (wide : Bool) (regs : List ℕ) (r : ℕ) → AreRegisters regs → IsGeneral r → AreRegisters (incremented wide regs r)
incremented_registers wide regs r h g =
    set_registers regs (r % 16) (onward (reg regs r) (if wide || (r == 1) then 2 else 1)) h
    (subst (λ j. Holds j (onward (slice_index regs j) (if wide || (r == 1) then 2 else 1))) (omega (arith, g.0)) (general r g.1 g.2 g.3))
  where
    general : (r : ℕ) → r ≢ 0 → r ≢ 2 → r ≢ 3 → Holds r (onward (slice_index regs r) (if wide || (r == 1) then 2 else 1))
    general zero a b c = absurd (a refl)
    general (suc zero) a b c =
        let e = sp_even regs h in
        subst (λ (t : Bool). Holds 1 (onward (slice_index regs 1) (if t then 2 else 1))) (sym (or_true wide)) (holds_sp (onward (slice_index regs 1) 2) (omega arith) (omega (arith, e)))
      where
        or_true : (b : Bool) → b || true ≡ true
        or_true true = refl
        or_true false = refl
    general (suc (suc zero)) a b c = absurd (b refl)
    general (suc (suc (suc zero))) a b c = absurd (c refl)
    general (suc (suc (suc (suc r)))) a b c =
        (omega arith, free_of (suc (suc (suc (suc r)))) (onward (slice_index regs (suc (suc (suc (suc r))))) (if wide || (suc (suc (suc (suc r))) == 1) then 2 else 1)) (omega arith))

-- what a jump adds is even
pub distance_even : (o : ℤ) → distance o % 2 ≡ 0
distance_even (pos n) = omega arith
distance_even (negsuc n) = omega arith

-- Bytes.

pub word_small : (mem : List ℕ) (at : ℕ) → AreMemoryBytes mem → word mem at < 65536
word_small mem at h = omega (arith, h.bytes (even at), h.bytes (even at + 1))

pub read_small : (wide : Bool) (mem : List ℕ) (at : ℕ) → AreMemoryBytes mem → read_at wide mem at < 65536
read_small true mem at h = word_small mem at h
read_small false mem at h = omega (arith, h.bytes at)

pub write_bytes : (wide : Bool) (mem : List ℕ) (at v : ℕ) → AreMemoryBytes mem → v < 65536 → AreMemoryBytes (write_at wide mem at v)
write_bytes true mem at v h lt = AreMemoryBytes-set (slice_set mem (even at) (v % 256)) (even at + 1) (v / 256) (AreMemoryBytes-set mem (even at) (v % 256) h (omega arith)) (omega (arith, lt))
write_bytes false mem at v h lt = AreMemoryBytes-set mem at (v % 256) h (omega arith)

pub put_small : (bs mem : List ℕ) (at : ℕ) → AreMemoryBytes mem → AreMemoryBytes (put_bytes mem at bs)
put_small [] mem at h = h
put_small (b ∷ bs) mem at h = put_small bs (slice_set mem at (b % 256)) (at + 1) (AreMemoryBytes-set mem at (b % 256) h (omega arith))

pub zeroed_small : (mem : List ℕ) (at n : ℕ) → AreMemoryBytes mem → AreMemoryBytes (zeroed mem at n)
unfolding zeroed
zeroed_small mem at zero h = h
zeroed_small mem at (suc n) h = AreMemoryBytes-set (zeroed mem at n) (at + n) 0 (zeroed_small mem at n h) (omega arith)

pub zero_registers : (n : ℕ) → n ≡ 16 → AreRegisters (replicate n 0)
zero_registers n e = record {
  sixteen = length-replicate n 0 ∙ e;
  words = λ r. subst (λ z. z < 65536) (sym (zero_at n r)) (omega arith);
  kept = λ r. subst (λ z. kept_in r z ≡ z) (sym (zero_at n r)) (holds_zero r).1;
}
