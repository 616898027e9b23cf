-- A copy's turns: byte after byte goes from where R13 points to where R12 points.
use Rattle.std.proofs.Common.{◌≡◌, ℕ, zero, suc, ◌+◌, ◌-◌, ◌*◌, ◌/◌, ◌%◌, ◌<◌, ◌≤◌, Bool, true, false, List, refl, sym, subst, arith}
use Rattle.std.specs.Prelude.{drop, take, if◌then◌else◌, ◌==◌}
use Rattle.std.proofs.lemmas.Bool.{eqb-true}
use Rattle.sx_isa.specs.Spelling.{spelling}
use Rattle.sx_isa.specs.declared.instruction.Op2.TheVariants as op2
use Rattle.sx_alu.specs.Status.{flags_of}
use Rattle.sx_rules.specs.declared.access.Violation.{Violation}
use Rattle.spec_invocation.specs.Marks.{Mark}
use Rattle.sx_image.specs.Watched.{Watched}
use Rattle.sx_isa.specs.Assembly.{#◌, ◌⟨◌⟩, add, back, dec, increment, jnz, mov_b, r12, r13, r15}
use Rattle.sx_tmpl.specs.Running.{Regs, Fixed, Data, running, Safe}
use Rattle.sx_tmpl.proofs.Running.MidRun.{Stands, Runs}
use Rattle.sx_tmpl.proofs.Running.Steps.{Text}
use Rattle.sx_tmpl.proofs.Running.Instructions.{goes}
use Rattle.sx_tmpl.proofs.Running.Flags.{flags_after, equal, unequal}
use Rattle.sx_tmpl.proofs.Operations.Plain.{inside}

-- the bytes of a turn: eight or one
abbrev pub size : Bool → ℕ
size b = if b then 8 else 1

-- so many more
abbrev pub more : ℕ → ℕ → ℕ
more zero j = j
more (suc n) j = suc (more n j)

-- the bytes and the instructions of turns
abbrev pub all_bytes : Bool → ℕ → ℕ
all_bytes b zero = 0
all_bytes b (suc m) = more (size b) (all_bytes b m)

abbrev pub all_steps : Bool → ℕ → ℕ → ℕ
all_steps b zero j = j
all_steps b (suc m) j = more (size b) (suc (suc (suc (all_steps b m j))))

pub bytes_are : (b : Bool) (m : ℕ) → all_bytes b m ≡ size b * m
bytes_are true zero = refl
bytes_are true (suc m) = let h = bytes_are true m in omega (arith, h)
bytes_are false zero = refl
bytes_are false (suc m) = let h = bytes_are false m in omega (arith, h)

pub few_steps : (b : Bool) (m j : ℕ) → all_steps b m j ≤ 4 * all_bytes b m + j
few_steps true zero j = omega arith
few_steps true (suc m) j = let h = few_steps true m j in omega (arith, h)
few_steps false zero j = omega arith
few_steps false (suc m) j = let h = few_steps false m j in omega (arith, h)

-- there are no more turns than bytes
pub turns_few : (b : Bool) (m : ℕ) → suc m ≤ all_bytes b (suc m)
turns_few b m = go b (bytes_are b m)
  where
    go : (b : Bool) → all_bytes b m ≡ size b * m → suc m ≤ all_bytes b (suc m)
    go true h = omega (arith, h)
    go false h = omega (arith, h)

-- the turns of a copy of so many bytes
pub turns_of : (b : Bool) (n : ℕ) → (suc n % 8 == 0) ≡ b → (m : ℕ) × (suc n / size b ≡ suc m) × (all_bytes b (suc m) ≡ suc n)
turns_of true n e =
    let z = eqb-true (suc n % 8) 0 e in
    let m = (suc n - 8) / 8 in
    let c = bytes_are true m in
    (m, omega (arith, z), omega (arith, z, c))
turns_of false n e = let c = bytes_are false n in (n, omega arith, omega (arith, c))

-- copies of so many bytes are from the k-th word on
abbrev pub Copies : List ℕ → ℕ → ℕ → ℕ → Type 0
Copies ws k i zero = Unit {0}
Copies ws k i (suc n) = (take 2 (drop k ws) ≡ spelling (mov_b (increment r13) (i ⟨ r12 ⟩))) × Copies ws (k + 2) (i + 1) n

-- and the turns' end after them
pub record Turns (ws : List ℕ) (k : ℕ) (b : Bool) : Type 0 where
  pub copies : Copies ws k 0 (size b)
  pub add_is : take 1 (drop (k + 2 * size b) ws) ≡ spelling (add (# (size b)) r12)
  pub dec_is : take 1 (drop (k + 2 * size b + 1) ws) ≡ spelling (dec r15)
  pub jump_is : take 1 (drop (k + 2 * size b + 2) ws) ≡ spelling (jnz (back (2 * size b + 3)))

-- a node in a copy, whose places may be the end of memory
abbrev pub copying : Fixed → Regs → Data → (pc sr dst src left : ℕ) → List ℕ → Watched
copying f r d pc sr dst src left m = running f (record r { pc = pc; sr = sr; r12 = dst % 65536; r13 = src % 65536; r15 = left }) (record d { mem = m })

module _ (f : Fixed) (st : Stands f) (all : List Mark) (B : Watched → Violation → Type 0) (Q : Watched → Type 0) {P n : ℕ} {ws : List ℕ} (t : Text f P n ws) (r : Regs) (d : Data) where
  abbrev At : (pc sr dst src left : ℕ) → List ℕ → Watched
  At pc sr dst src left m = copying f r d pc sr dst src left m

  added : (b : Bool) (k : ℕ) → take 1 (drop k ws) ≡ spelling (add (# (size b)) r12) → k + 1 ≤ n → (pc sr dst src left j : ℕ) (m : List ℕ) → pc ≡ P + 2 * k → Safe f all (At pc sr dst src left m)
      → ((sr2 : ℕ) → Safe f all (At (P + 2 * (k + 1)) sr2 (dst + size b) src left m) → Runs f all B Q j (At (P + 2 * (k + 1)) sr2 (dst + size b) src left m))
      → Runs f all B Q (suc j) (At pc sr dst src left m)
  added true k is le pc sr dst src left j m e safe after =
      let sum : (dst % 65536 % 65536 + 8 + 0) % 65536 ≡ (dst + 8) % 65536 = omega arith in
      let sr2 = flags_after op2.Add 8 (dst % 65536 % 65536) sr in
      goes f st all B Q t k (add (# 8) r12) is le refl refl (record r { pc = pc; sr = sr; r12 = dst % 65536; r13 = src % 65536; r15 = left }) (record d { mem = m }) j e safe
      (record r { pc = P + 2 * (k + 1); sr = sr2; r12 = (dst + 8) % 65536; r13 = src % 65536; r15 = left }) m (inside t (k + 1) le)
      (rw sum refl, refl) (after sr2)
  added false k is le pc sr dst src left j m e safe after =
      let sum : (dst % 65536 % 65536 + 1 + 0) % 65536 ≡ (dst + 1) % 65536 = omega arith in
      let sr2 = flags_after op2.Add 1 (dst % 65536 % 65536) sr in
      goes f st all B Q t k (add (# 1) r12) is le refl refl (record r { pc = pc; sr = sr; r12 = dst % 65536; r13 = src % 65536; r15 = left }) (record d { mem = m }) j e safe
      (record r { pc = P + 2 * (k + 1); sr = sr2; r12 = (dst + 1) % 65536; r13 = src % 65536; r15 = left }) m (inside t (k + 1) le)
      (rw sum refl, refl) (after sr2)

  -- where the jump leads that is at this word
  abbrev goal : Bool → ℕ → ℕ → ℕ
  goal z k e = if z then P + 2 * (e + 1) else P + 2 * k

  jumped : (b z : Bool) (k e : ℕ) → e ≡ k + 2 * size b + 2 → take 1 (drop e ws) ≡ spelling (jnz (back (2 * size b + 3))) → e + 1 ≤ n → (sr dst src left j : ℕ) (m : List ℕ)
      → (flags_of sr).z ≡ z → Safe f all (At (P + 2 * e) sr dst src left m)
      → (Safe f all (At (goal z k e) sr dst src left m) → Runs f all B Q j (At (goal z k e) sr dst src left m)) → Runs f all B Q (suc j) (At (P + 2 * e) sr dst src left m)
  jumped true true k e at is le sr dst src left j m z safe after =
      let r1 = record r { pc = P + 2 * e; sr = sr; r12 = dst % 65536; r13 = src % 65536; r15 = left } in
      goes f st all B Q t e (jnz (back 19)) is le refl refl r1 (record d { mem = m }) j refl safe
      (record r1 { pc = P + 2 * (e + 1) }) m (inside t (e + 1) le) (rw z refl, refl) after
  jumped true false k e at is le sr dst src left j m z safe after =
      let r1 = record r { pc = P + 2 * e; sr = sr; r12 = dst % 65536; r13 = src % 65536; r15 = left } in
      let to : (P + 2 * (e + 1) + 65498) % 65536 ≡ P + 2 * k = omega (arith, at, le, t.to, st.below) in
      goes f st all B Q t e (jnz (back 19)) is le refl refl r1 (record d { mem = m }) j refl safe
      (record r1 { pc = P + 2 * k }) m (inside t k (omega (arith, at, le))) (rw (z, to) refl, refl) after
  jumped false true k e at is le sr dst src left j m z safe after =
      let r1 = record r { pc = P + 2 * e; sr = sr; r12 = dst % 65536; r13 = src % 65536; r15 = left } in
      goes f st all B Q t e (jnz (back 5)) is le refl refl r1 (record d { mem = m }) j refl safe
      (record r1 { pc = P + 2 * (e + 1) }) m (inside t (e + 1) le) (rw z refl, refl) after
  jumped false false k e at is le sr dst src left j m z safe after =
      let r1 = record r { pc = P + 2 * e; sr = sr; r12 = dst % 65536; r13 = src % 65536; r15 = left } in
      let to : (P + 2 * (e + 1) + 65526) % 65536 ≡ P + 2 * k = omega (arith, at, le, t.to, st.below) in
      goes f st all B Q t e (jnz (back 5)) is le refl refl r1 (record d { mem = m }) j refl safe
      (record r1 { pc = P + 2 * k }) m (inside t k (omega (arith, at, le))) (rw (z, to) refl, refl) after

  -- What is left of a copy is said by whoever copies: how many bytes, where the next comes from and goes to, and memory. Of one byte it must follow that what is then left holds.
  abbrev pub Byte : (ℕ → ℕ → ℕ → List ℕ → Type 0) → Type 0
  Byte Left =
      (i k at sr dst src left u j : ℕ) (m : List ℕ) → take 2 (drop k ws) ≡ spelling (mov_b (increment r13) (i ⟨ r12 ⟩)) → k + 2 ≤ n → at ≡ dst + i → Left (suc u) src at m
      → (pc : ℕ) → pc ≡ P + 2 * k → Safe f all (At pc sr dst src left m)
      → ((sr2 : ℕ) (m2 : List ℕ) → Left u (src + 1) (at + 1) m2 → Safe f all (At (P + 2 * (k + 2)) sr2 dst (src + 1) left m2) → Runs f all B Q j (At (P + 2 * (k + 2)) sr2 dst (src + 1) left m2))
      → Runs f all B Q (suc j) (At pc sr dst src left m)

  module _ (Left : ℕ → ℕ → ℕ → List ℕ → Type 0) (byte : Byte Left) where
    -- bytes one after the other
    bytes_run : (u i k at sr dst src left v j : ℕ) (m : List ℕ) → Copies ws k i u → k + 2 * u ≤ n → at ≡ dst + i → Left (more u v) src at m
        → (pc : ℕ) → pc ≡ P + 2 * k → Safe f all (At pc sr dst src left m)
        → ((pc2 sr2 src2 at2 : ℕ) (m2 : List ℕ) → pc2 ≡ P + 2 * (k + 2 * u) → at2 ≡ at + u → Left v src2 at2 m2 → Safe f all (At pc2 sr2 dst src2 left m2)
        → Runs f all B Q j (At pc2 sr2 dst src2 left m2))
        → Runs f all B Q (more u j) (At pc sr dst src left m)
    bytes_run zero i k at sr dst src left v j m cs le ea x pc e safe after = after pc sr src at m (omega (arith, e)) (omega arith) x safe
    bytes_run (suc u) i k at sr dst src left v j m cs le ea x pc e safe after =
        byte i k at sr dst src left (more u v) (more u j) m cs.0 (omega (arith, le)) ea x pc e safe
        (λ sr2 m2 x2 s2. bytes_run u (i + 1) (k + 2) (at + 1) sr2 dst (src + 1) left v j m2 cs.1 (omega (arith, le)) (omega (arith, ea)) x2 (P + 2 * (k + 2)) refl s2
        (λ pc3 sr3 src3 at3 m3 ep e3 x3 s3. after pc3 sr3 src3 at3 m3 (omega (arith, ep)) (omega (arith, e3)) x3 s3))

    module _ (b : Bool) (k : ℕ) (turns : Turns ws k b) (le : k + 2 * size b + 3 ≤ n) where
      -- one turn: its bytes, and its end, where the count falls and a jump leads back unless it is 0
      one_turn : (z : Bool) (sr dst src left v j : ℕ) (m : List ℕ) → left < 65535 → ((sr : ℕ) → (flags_of (flags_after op2.Cmp 1 (suc left % 65536) sr)).z ≡ z) → Left (more (size b) v) src dst m
          → Safe f all (At (P + 2 * k) sr dst src (suc left) m)
          → ((sr2 src2 : ℕ) (m2 : List ℕ) → Left v src2 (dst + size b) m2 → Safe f all (At (goal z k (k + 2 * size b + 2)) sr2 (dst + size b) src2 left m2)
          → Runs f all B Q j (At (goal z k (k + 2 * size b + 2)) sr2 (dst + size b) src2 left m2))
          → Runs f all B Q (more (size b) (suc (suc (suc j)))) (At (P + 2 * k) sr dst src (suc left) m)
      one_turn z sr dst src left v j m lt flags x safe after =
          bytes_run (size b) 0 k dst sr dst src (suc left) v (suc (suc (suc j))) m turns.copies (omega (arith, le)) (omega arith) x (P + 2 * k) refl safe
          (λ pc2 sr2 src2 at2 m2 ep ea x2 s2.
          added b (k + 2 * size b) turns.add_is (omega (arith, le)) pc2 sr2 dst src2 (suc left) (suc (suc j)) m2 ep s2 (λ sr3 s3.
          let less : (suc left % 65536 + 65534 + 1) % 65536 ≡ left = omega (arith, lt) in
          let e = k + 2 * size b + 1 in
          let r3 = record r { pc = P + 2 * e; sr = sr3; r12 = (dst + size b) % 65536; r13 = src2 % 65536; r15 = suc left } in
          let sr4 = flags_after op2.Cmp 1 (suc left % 65536) sr3 in
          goes f st all B Q t e (dec r15) turns.dec_is (omega (arith, le)) refl refl r3 (record d { mem = m2 }) (suc j) refl s3
          (record r3 { pc = P + 2 * (e + 1); sr = sr4; r15 = left }) m2 (inside t (e + 1) (omega (arith, le))) (rw less refl, refl) (λ s4.
          ends (e + 1) (omega arith) sr4 (flags sr3) src2 m2 (subst (λ a. Left v src2 a m2) ea x2) s4)))
        where
          ends : (e : ℕ) → k + 2 * size b + 2 ≡ e → (sr4 : ℕ) → (flags_of sr4).z ≡ z → (src2 : ℕ) (m2 : List ℕ) → Left v src2 (dst + size b) m2
              → Safe f all (At (P + 2 * e) sr4 (dst + size b) src2 left m2) → Runs f all B Q (suc j) (At (P + 2 * e) sr4 (dst + size b) src2 left m2)
          ends e at sr4 zero_is src2 m2 x2 s4 =
              jumped b z k e (sym at) (subst (λ e. take 1 (drop e ws) ≡ spelling (jnz (back (2 * size b + 3)))) at turns.jump_is) (omega (arith, at, le)) sr4 (dst + size b) src2 left j m2 zero_is s4
              (subst (λ e. Safe f all (At (goal z k e) sr4 (dst + size b) src2 left m2) → Runs f all B Q j (At (goal z k e) sr4 (dst + size b) src2 left m2)) at (after sr4 src2 m2 x2))

      -- all turns
      pub turns_run : (u sr dst src j : ℕ) (m : List ℕ) → u < 65535 → Left (all_bytes b (suc u)) src dst m → Safe f all (At (P + 2 * k) sr dst src (suc u) m)
          → ((pc sr2 dst2 src2 : ℕ) (m2 : List ℕ) → pc ≡ P + 2 * (k + 2 * size b + 3) → Left 0 src2 dst2 m2 → Safe f all (At pc sr2 dst2 src2 0 m2) → Runs f all B Q j (At pc sr2 dst2 src2 0 m2))
          → Runs f all B Q (all_steps b (suc u) j) (At (P + 2 * k) sr dst src (suc u) m)
      turns_run zero sr dst src j m lt x safe done =
          one_turn true sr dst src 0 0 j m (omega arith) (λ sr. equal 1 1 sr (omega arith) refl) x safe
          (λ sr2 src2 m2 x2 s2. done (P + 2 * (k + 2 * size b + 2 + 1)) sr2 (dst + size b) src2 m2 (omega arith) x2 s2)
      turns_run (suc u) sr dst src j m lt x safe done =
          one_turn false sr dst src (suc u) (all_bytes b (suc u)) (all_steps b (suc u) j) m (omega (arith, lt))
          (λ sr. unequal 1 (suc (suc u) % 65536) sr (omega arith) (omega arith) (omega (arith, lt))) x safe
          (λ sr2 src2 m2 x2 s2. turns_run u sr2 (dst + size b) src2 j m2 (omega (arith, lt)) x2 s2 done)
