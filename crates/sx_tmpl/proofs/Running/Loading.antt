-- Numbers are loaded into registers by instructions that are in a row: a whole row is one step of a proof.
use Rattle.std.proofs.Common.{◌≡◌, ℕ, zero, suc, ◌+◌, ◌*◌, ◌%◌, ◌<◌, ◌≤◌, inl, inr, Bool, true, false, not, ◌&&◌, List, [], ◌∷◌, ◌++◌, map}
use Rattle.std.proofs.Common.{length, length-append, refl, sym, ◌∙◌, ap, subst, arith, take, drop, get_or}
use Rattle.std.specs.Prelude.{nat_lt, nat_le, slice_index, slice_set}
use Rattle.std.proofs.lemmas.Bool.{and_parts, cases_lt, false≢true, leb-true, ltb-true, not-true}
use Rattle.sx_isa.specs.declared.instruction.Operand.{Operand}
use Rattle.sx_isa.specs.declared.instruction.Operand.TheVariants.{Reg, Indexed, Indirect, Increment, Symbolic, Absolute, Immediate, Const}
use Rattle.sx_isa.specs.declared.instruction.Op2.TheVariants as op2
use Rattle.sx_isa.specs.declared.instruction.Instr.{Instr}
use Rattle.sx_isa.specs.declared.instruction.Instr.TheVariants.{Two}
use Rattle.sx_isa.specs.Instructions.{first_word}
use Rattle.sx_isa.specs.Spelling.{spelling}
use Rattle.sx_isa.specs.Standing.{words_of}
use Rattle.sx_rules.specs.declared.access.Violation.{Violation}
use Rattle.spec_machine.specs.declared.kinds.Event.TheVariants as event
use Rattle.spec_machine.specs.Registers.{at_pc, flags, set_flags, set_reg}
use Rattle.spec_machine.specs.Rows.{row}
use Rattle.spec_machine.specs.Step.{is_module_word}
use Rattle.spec_invocation.specs.Marks.{Mark}
use Rattle.sx_image.specs.Watched.{Watched}
use Rattle.sx_tmpl.specs.Running.{Data, Fixed, Regs, Safe, regs16, running}
use Rattle.sx_isa.specs.Shaped.{is_shaped}
use Rattle.sx_tmpl.proofs.Running.Flags.{flags_stay}
use Rattle.sx_tmpl.proofs.Running.Instructions.{step}
use Rattle.sx_tmpl.proofs.Running.MidRun.{Runs, Stands}
use Rattle.sx_tmpl.proofs.Running.Owes.{Owes}
use Rattle.sx_tmpl.proofs.Running.Steps.{InText, NoTell, Text, Then}

-- a number and the register, one of R4 to R15, that it is loaded into
abbrev load : Operand × ℕ → Instr
load l = Two op2.Mov false l.0 (Reg l.1)

abbrev pub words : List (Operand × ℕ) → List ℕ
words ls = words_of (map load ls)

abbrev is_number : Operand → Bool
is_number (Immediate n) = true
is_number (Const n) = true
is_number o = false

abbrev pub number : Operand → ℕ
number (Immediate n) = n
number (Const n) = n
number o = 0

abbrev is_load : Operand × ℕ → Bool
is_load l = is_number l.0 && nat_le 4 l.1 && nat_lt l.1 16 && is_shaped (load l) && not (is_module_word (first_word (load l)))

abbrev pub are_loads : List (Operand × ℕ) → Bool
are_loads [] = true
are_loads (l ∷ ls) = is_load l && are_loads ls

abbrev pub AreWords : List (Operand × ℕ) → Type 0
AreWords [] = Unit {0}
AreWords (l ∷ ls) = (number l.0 < 65536) × AreWords ls

-- the registers of a list by name
abbrev pub named : List ℕ → Regs
named l = record {
  pc = slice_index l 0;
  sp = slice_index l 1;
  sr = slice_index l 2;
  r4 = slice_index l 4;
  r5 = slice_index l 5;
  r6 = slice_index l 6;
  r7 = slice_index l 7;
  r8 = slice_index l 8;
  r9 = slice_index l 9;
  r10 = slice_index l 10;
  r11 = slice_index l 11;
  r12 = slice_index l 12;
  r13 = slice_index l 13;
  r14 = slice_index l 14;
  r15 = slice_index l 15;
}

abbrev pub with_register : Fixed → Regs → ℕ → ℕ → Regs
with_register f r i v = named (slice_set (regs16 f r) i v)

-- the registers after these loads, but for PC
abbrev pub loaded : Fixed → List (Operand × ℕ) → Regs → Regs
loaded f [] r = r
loaded f (l ∷ ls) r = loaded f ls (with_register f r l.1 (number l.0))

-- as many steps before these
abbrev pub steps : List (Operand × ℕ) → ℕ → ℕ
steps [] j = j
steps (l ∷ ls) j = suc (steps ls j)

next : (X : ℕ → Type 0) (n i : ℕ) → n ≤ i → X n → (n + 1 ≤ i → X i) → X i
next X n i le x other = elim (cases_lt i (n + 1)) [ inl lt ↦ let e : n ≡ i = omega (arith, le, lt) in subst X e x | inr ge ↦ other ge ]

each_register : (X : ℕ → Type 0) → X 4 → X 5 → X 6 → X 7 → X 8 → X 9 → X 10 → X 11 → X 12 → X 13 → X 14 → X 15 → (i : ℕ) → 4 ≤ i → i < 16 → X i
each_register X x4 x5 x6 x7 x8 x9 x10 x11 x12 x13 x14 x15 i p q =
    next X 4 i p x4 (λ p. next X 5 i p x5 (λ p. next X 6 i p x6 (λ p. next X 7 i p x7 (λ p. next X 8 i p x8 (λ p. next X 9 i p x9 (λ p.
    next X 10 i p x10 (λ p. next X 11 i p x11 (λ p. next X 12 i p x12 (λ p. next X 13 i p x13 (λ p. next X 14 i p x14 (λ p. next X 15 i p x15 (λ p.
    absurd (omega (arith, p, q))))))))))))))

-- what a load leaves
load_is : (f : Fixed) (r : Regs) (a to n i : ℕ) → 4 ≤ i → i < 16 → n < 65536
    → set_reg (set_flags (at_pc (at_pc (regs16 f r) a) to) (flags (at_pc (at_pc (regs16 f r) a) to))) i (n % 65536) ≡ regs16 f (record (with_register f r i n) { pc = to })
load_is f r a to n i p q lt =
    let stay = flags_stay r.sr in
    let cut : n % 65536 ≡ n = omega (arith, lt) in
    each_register
    (λ (i : ℕ). set_reg (set_flags (at_pc (at_pc (regs16 f r) a) to) (flags (at_pc (at_pc (regs16 f r) a) to))) i (n % 65536) ≡ regs16 f (record (with_register f r i n) { pc = to }))
    (rw (stay, cut) refl) (rw (stay, cut) refl) (rw (stay, cut) refl) (rw (stay, cut) refl) (rw (stay, cut) refl) (rw (stay, cut) refl)
    (rw (stay, cut) refl) (rw (stay, cut) refl) (rw (stay, cut) refl) (rw (stay, cut) refl) (rw (stay, cut) refl) (rw (stay, cut) refl) i p q

-- the words of the first instruction, and those of the others
front : (xs ys l : List ℕ) → take (length (xs ++ ys)) l ≡ xs ++ ys → take (length xs) l ≡ xs
front [] ys l e = refl
front (x ∷ xs) ys [] e = let n : 0 ≡ suc (length (xs ++ ys)) = ap (λ (l : List ℕ). length l) e in absurd (omega (arith, n))
front (x ∷ xs) ys (y ∷ l) e = ap (λ (y : ℕ). y ∷ take (length xs) l) (ap (λ (l : List ℕ). get_or l 0 0) e) ∙ ap (λ (t : List ℕ). x ∷ t) (front xs ys l (ap (λ (l : List ℕ). drop 1 l) e))

others : (xs ys l : List ℕ) → take (length (xs ++ ys)) l ≡ xs ++ ys → take (length ys) (drop (length xs) l) ≡ ys
others [] ys l e = e
others (x ∷ xs) ys [] e = let n : 0 ≡ suc (length (xs ++ ys)) = ap (λ (l : List ℕ). length l) e in absurd (omega (arith, n))
others (x ∷ xs) ys (y ∷ l) e = others xs ys l (ap (λ (l : List ℕ). drop 1 l) e)

drop_none : (n : ℕ) → ◌≡◌ {A = List ℕ} (drop n []) []
drop_none zero = refl
drop_none (suc n) = refl

drop_on : (k m : ℕ) (l : List ℕ) → drop m (drop k l) ≡ drop (k + m) l
drop_on zero m l = let on : m ≡ zero + m = omega arith in ap (λ n. drop n l) on
drop_on (suc k) m [] = drop_none m ∙ sym (drop_none (suc k + m))
drop_on (suc k) m (x ∷ xs) = let on : suc (k + m) ≡ suc k + m = omega arith in drop_on k m xs ∙ ap (λ n. drop n (x ∷ xs)) on

module _ (f : Fixed) (st : Stands f) (all : List Mark) (B : Watched → Violation → Type 0) (Q : Watched → Type 0) where
  -- what the plan of a load owes
  owes : (X : Violation → Type 0) (r : Regs) (d : Data) (a to j : ℕ) (s : Operand) (i : ℕ) → is_number s ≡ true → 4 ≤ i → i < 16 → number s < 65536 → InText f to
      → (Safe f all (running f (record (with_register f r i (number s)) { pc = to }) d) → Runs f all B Q j (running f (record (with_register f r i (number s)) { pc = to }) d))
      → Owes f (Then f st all B Q j d) (NoTell f st all B Q) X (row (Two op2.Mov false s (Reg i)) (at_pc (regs16 f r) a) to) d.mem
  owes X r d a to j (Immediate n) i h p q lt there after = λ kept. (record (with_register f r i n) { pc = to }, load_is f r a to n i p q lt, there, after)
  owes X r d a to j (Const n) i h p q lt there after = λ kept. (record (with_register f r i n) { pc = to }, load_is f r a to n i p q lt, there, after)
  owes X r d a to j (Reg x) i h p q lt there after = absurd (false≢true h)
  owes X r d a to j (Indexed x y) i h p q lt there after = absurd (false≢true h)
  owes X r d a to j (Indirect x) i h p q lt there after = absurd (false≢true h)
  owes X r d a to j (Increment x) i h p q lt there after = absurd (false≢true h)
  owes X r d a to j (Symbolic x) i h p q lt there after = absurd (false≢true h)
  owes X r d a to j (Absolute x) i h p q lt there after = absurd (false≢true h)

  -- the loads that are at the k-th of these words, and what is to follow them
  pub loads : {P n : ℕ} {ws : List ℕ} (t : Text f P n ws) (k : ℕ) (ls : List (Operand × ℕ)) → take (length (words ls)) (drop k ws) ≡ words ls → k + length (words ls) ≤ n → are_loads ls ≡ true
      → AreWords ls → (r : Regs) (d : Data) (j pc : ℕ) → pc ≡ P + 2 * k → Safe f all (running f (record r { pc = pc }) d)
      → (Safe f all (running f (record (loaded f ls r) { pc = P + 2 * (k + length (words ls)) }) d)
      → Runs f all B Q j (running f (record (loaded f ls r) { pc = P + 2 * (k + length (words ls)) }) d))
      → Runs f all B Q (steps ls j) (running f (record r { pc = pc }) d)
  loads {P = P} {n = n} {ws = ws} t k [] stand fit test small r d j pc e safe after =
      let same : P + 2 * (k + 0) ≡ pc = omega (arith, e) in
      subst (λ (p : ℕ). Safe f all (running f (record r { pc = p }) d) → Runs f all B Q j (running f (record r { pc = p }) d)) same after safe
  loads {P = P} {n = n} {ws = ws} t k (l ∷ ls) stand fit test small r d j pc e safe after =
      let xs = spelling (load l) in
      let ys = words ls in
      let sum : length (xs ++ ys) ≡ length xs + length ys = length-append xs ys in
      let tests = and_parts (is_load l) (are_loads ls) test in
      let a = and_parts _ _ tests.0 in
      let b = and_parts _ _ a.0 in
      let c = and_parts _ _ b.0 in
      let g = and_parts _ _ c.0 in
      let low = leb-true 4 l.1 g.1 in
      let high = ltb-true l.1 16 c.1 in
      let here : k + length xs ≤ n = omega (arith, fit, sum) in
      let behind : k + length xs + length ys ≤ n = omega (arith, fit, sum) in
      let to = P + 2 * (k + length xs) in
      let last : P + 2 * (k + length (xs ++ ys)) ≡ P + 2 * (k + length xs + length ys) = omega (arith, sum) in
      let there : InText f to = record { from = omega (arith, t.from); to = omega (arith, t.to, here) } in
      let r2 = with_register f r l.1 (number l.0) in
      step f st all B Q t k (load l) (front xs ys (drop k ws) stand) here b.1 (not-true _ a.1) event.Quiet (record r { pc = pc }) d (steps ls j) e safe
      (owes (B (running f (record r { pc = pc }) d)) r d (P + 2 * (k + 1)) to (steps ls j) l.0 l.1 g.0 low high small.0 there (λ s.
      loads t (k + length xs) ls (ap (λ (z : List ℕ). take (length ys) z) (sym (drop_on k (length xs) ws)) ∙ others xs ys (drop k ws) stand) behind tests.1 small.1 r2 d j to refl s
      (subst (λ (p : ℕ). Safe f all (running f (record (loaded f ls r2) { pc = p }) d) → Runs f all B Q j (running f (record (loaded f ls r2) { pc = p }) d)) last after)))
