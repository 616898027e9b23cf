-- One step of a template: the instruction that is there, what it owes, and what is to follow it.
use Rattle.std.proofs.Common.{◌≡◌, ℕ, zero, suc, ◌+◌, ◌*◌, ◌<◌, ◌≤◌, true, false, List, [], ◌∷◌, length, Some}
use Rattle.std.proofs.Common.{refl, sym, ◌∙◌, ap, subst, arith, take, drop, get_or}
use Rattle.std.specs.Prelude.{slice_get}
use Rattle.sx_isa.specs.declared.instruction.Instr.{Instr}
use Rattle.sx_isa.specs.Extending.{extended}
use Rattle.sx_isa.specs.Instructions.{first_word}
use Rattle.sx_isa.specs.Spelling.{spelling}
use Rattle.sx_isa.proofs.Spelled.{spelling_short}
use Rattle.spec_machine.specs.Step.{is_module_word}
use Rattle.sx_isa.specs.Shaped.{is_shaped}
use Rattle.sx_tmpl.proofs.Running.Steps.{InText, Reads, Text, Then, NoTell, one, two, three}
use Rattle.std.proofs.lemmas.Option.{none-some}
use Rattle.sx_rules.specs.declared.access.Violation.{Violation}
use Rattle.spec_machine.specs.declared.kinds.Event.{Event}
use Rattle.spec_machine.specs.declared.kinds.Event.TheVariants as event
use Rattle.spec_machine.specs.Plan.{Plan, Done, Tell, Stop, Fetch, Load, Store, Need, Writable, Bytes, Put}
use Rattle.spec_machine.specs.Registers.{at_pc}
use Rattle.spec_machine.specs.Rows.{row}
use Rattle.spec_invocation.specs.Marks.{Mark}
use Rattle.sx_image.specs.Watched.{Watched}
use Rattle.sx_tmpl.specs.Running.{Data, Fixed, Regs, Safe, cell, regs16, running, running_after}
use Rattle.sx_tmpl.proofs.Running.MidRun.{PrivateWord, Runs, Stands, put_cell}
use Rattle.sx_tmpl.proofs.Running.Owes.{Owes}
use Rattle.sx_isa.proofs.Bare.{begins, behind, counted, own, spelled}

pub reads_of : (i : Instr) → is_shaped i ≡ true → is_module_word (first_word i) ≡ false → Reads (first_word i) (length (spelling i)) (extended i)
reads_of i shaped plain = record { plain = plain; count = counted i shaped; reads = begins i shaped }

from_take : (n j w : ℕ) (l : List ℕ) → slice_get (take n l) j ≡ Some w → slice_get l j ≡ Some w
from_take zero j w l e = absurd (none-some w e)
from_take (suc n) j w [] e = absurd (none-some w e)
from_take (suc n) zero w (x ∷ xs) e = e
from_take (suc n) (suc j) w (x ∷ xs) e = from_take n j w xs e

get_drop : (k j : ℕ) (l : List ℕ) → slice_get l (k + j) ≡ slice_get (drop k l) j
get_drop zero j l = ap (λ n. slice_get l n) (omega arith)
get_drop (suc k) j [] = refl
get_drop (suc k) j (x ∷ xs) = let on : suc k + j ≡ suc (k + j) = omega arith in ap (λ n. slice_get (x ∷ xs) n) on ∙ get_drop k j xs

-- the words at a place are these
pub word_there : (ws xs : List ℕ) (n k j w : ℕ) → take n (drop k ws) ≡ xs → slice_get xs j ≡ Some w → slice_get ws (k + j) ≡ Some w
word_there ws xs n k j w e h = get_drop k j ws ∙ from_take n j w (drop k ws) (ap (λ l. slice_get l j) e ∙ h)

-- What is owed by a plan that comes to these registers and this memory: of each word that is read its place and what it is, of each that is written its
-- place and what is written.
module _ (f : Fixed) (r2 : Regs) (m2 : List ℕ) where
  abbrev pub Gives : Plan → List ℕ → Type 0
  Gives (Done regs) m = (regs ≡ regs16 f r2) × (m ≡ m2)
  Gives (Load true at k) m = (a : ℕ) × (at ≡ a) × PrivateWord f a × (v : ℕ) × (cell m a ≡ v) × Gives (k v) m
  Gives (Store true at v k) m = (a : ℕ) × (at ≡ a) × PrivateWord f a × (w : ℕ) × (v ≡ w) × (w < 65536) × Gives k (put_cell m a w)
  Gives (Load false at k) m = ⊥
  Gives (Store false at v k) m = ⊥
  Gives (Tell regs event exchange) m = ⊥
  Gives (Stop v) m = ⊥
  Gives (Fetch at k) m = ⊥
  Gives (Need b v k) m = ⊥
  Gives (Writable at n k) m = ⊥
  Gives (Bytes at n k) m = ⊥
  Gives (Put at bs k) m = ⊥

module _ (f : Fixed) (st : Stands f) (all : List Mark) (B : Watched → Violation → Type 0) (Q : Watched → Type 0) where
  abbrev Then_owes : Event → Regs → Data → ℕ → Plan → Type 0
  Then_owes e r d j p = Owes f (Then f st all B Q j d) (NoTell f st all B Q) (B (running_after e f r d)) p d.mem

  -- the instruction that is at the k-th of these words, and what is to follow it
  pub step : {P n : ℕ} {ws : List ℕ} (t : Text f P n ws) (k : ℕ) (i : Instr) → take (length (spelling i)) (drop k ws) ≡ spelling i → k + length (spelling i) ≤ n
      → is_shaped i ≡ true → is_module_word (first_word i) ≡ false
      → (e : Event) (r : Regs) (d : Data) (j : ℕ) → r.pc ≡ P + 2 * k → Safe f all (running_after e f r d)
      → Then_owes e r d j (row i (at_pc (regs16 f r) (P + 2 * (k + 1))) (P + 2 * (k + length (spelling i))))
      → Runs f all B Q (suc j) (running_after e f r d)
  step {P = P} {n = n} {ws = ws} t k i stands fits shaped plain e r d j pc safe owed = by (behind i) refl
    where
      reads : Reads (first_word i) (length (spelling i)) (extended i)
      reads = reads_of i shaped plain

      there : (m w : ℕ) → slice_get (first_word i ∷ behind i) m ≡ Some w → slice_get ws (k + m) ≡ Some w
      there m w h = word_there ws (first_word i ∷ behind i) (length (spelling i)) k m w (stands ∙ spelled i) h

      from : (us : List ℕ) (m : ℕ) → behind i ≡ us → 1 + length us ≡ m
          → Then_owes e r d j (row (extended i (get_or us 0 0) (get_or us 1 0)) (at_pc (regs16 f r) (P + 2 * (k + 1))) (P + 2 * (k + m)))
      from us m b c =
          let l : length (spelling i) ≡ m = ap (λ l. length l) (spelled i) ∙ ap (λ (l : List ℕ). length (first_word i ∷ l)) b ∙ omega (arith, c) in
          let o : extended i (get_or us 0 0) (get_or us 1 0) ≡ i = subst (λ (us : List ℕ). extended i (get_or us 0 0) (get_or us 1 0) ≡ i) b (own i) in
          subst (λ (i : Instr). Then_owes e r d j (row i (at_pc (regs16 f r) (P + 2 * (k + 1))) (P + 2 * (k + m)))) (sym o)
          (subst (λ m. Then_owes e r d j (row i (at_pc (regs16 f r) (P + 2 * (k + 1))) (P + 2 * (k + m)))) l owed)

      by : (us : List ℕ) → behind i ≡ us → Runs f all B Q (suc j) (running_after e f r d)
      by [] b =
          let l : length (spelling i) ≡ 1 = ap (λ l. length l) (spelled i) ∙ ap (λ (l : List ℕ). length (first_word i ∷ l)) b in
          one f st all B Q t k (first_word i) (extended i) (ap (λ m. slice_get ws m) (omega arith) ∙ there 0 (first_word i) refl) (omega (arith, l))
          (subst (λ n. Reads (first_word i) n (extended i)) l reads) e r d j pc safe (from [] 1 b refl)
      by (u ∷ []) b =
          let l : length (spelling i) ≡ 2 = ap (λ l. length l) (spelled i) ∙ ap (λ (l : List ℕ). length (first_word i ∷ l)) b in
          two f st all B Q t k (first_word i) u (extended i) (ap (λ m. slice_get ws m) (omega arith) ∙ there 0 (first_word i) refl)
          (there 1 u (ap (λ (l : List ℕ). slice_get l 0) b)) (omega (arith, l)) (subst (λ n. Reads (first_word i) n (extended i)) l reads) e r d j pc safe (from (u ∷ []) 2 b refl)
      by (u ∷ v ∷ []) b =
          let l : length (spelling i) ≡ 3 = ap (λ l. length l) (spelled i) ∙ ap (λ (l : List ℕ). length (first_word i ∷ l)) b in
          three f st all B Q t k (first_word i) u v (extended i) (ap (λ m. slice_get ws m) (omega arith) ∙ there 0 (first_word i) refl)
          (there 1 u (ap (λ (l : List ℕ). slice_get l 0) b)) (there 2 v (ap (λ (l : List ℕ). slice_get l 1) b)) (omega (arith, l))
          (subst (λ n. Reads (first_word i) n (extended i)) l reads) e r d j pc safe (from (u ∷ v ∷ []) 3 b refl)
      by (u ∷ v ∷ x ∷ us) b =
          let l : length (spelling i) ≡ length (first_word i ∷ u ∷ v ∷ x ∷ us) = ap (λ l. length l) (spelled i) ∙ ap (λ (l : List ℕ). length (first_word i ∷ l)) b in
          absurd (omega (arith, l, spelling_short i))

  -- a plan that comes to them meets what a step owes
  pub given : (X : Violation → Type 0) (d : Data) (j : ℕ) (r2 : Regs) (m2 : List ℕ) → InText f r2.pc
      → (Safe f all (running f r2 (record d { mem = m2 })) → Runs f all B Q j (running f r2 (record d { mem = m2 })))
      → (p : Plan) (m : List ℕ) → Gives f r2 m2 p m → Owes f (Then f st all B Q j d) (NoTell f st all B Q) X p m
  given X d j r2 m2 to after (Done regs) m h = λ kept. (
    r2,
    h.0,
    to,
    subst (λ (m : List ℕ). Safe f all (running f r2 (record d { mem = m })) → Runs f all B Q j (running f r2 (record d { mem = m }))) (sym h.1) after,
  )
  given X d j r2 m2 to after (Load true at k) m h = (h.0, h.1, h.2, h.3, h.4, given X d j r2 m2 to after (k h.3) m h.5)
  given X d j r2 m2 to after (Store true at v k) m h = (h.0, h.1, h.2, h.3, h.4, h.5, given X d j r2 m2 to after k (put_cell m h.0 h.3) h.6)
  given X d j r2 m2 to after (Load false at k) m h = absurd h
  given X d j r2 m2 to after (Store false at v k) m h = absurd h
  given X d j r2 m2 to after (Tell regs event exchange) m h = absurd h
  given X d j r2 m2 to after (Stop v) m h = absurd h
  given X d j r2 m2 to after (Fetch at k) m h = absurd h
  given X d j r2 m2 to after (Need b v k) m h = absurd h
  given X d j r2 m2 to after (Writable at n k) m h = absurd h
  given X d j r2 m2 to after (Bytes at n k) m h = absurd h
  given X d j r2 m2 to after (Put at bs k) m h = absurd h

  -- an instruction that nothing refuses, after this event: the registers and the memory that it leaves, what it owes, and what is to follow
  pub goes_after : (e : Event) {P n : ℕ} {ws : List ℕ} (t : Text f P n ws) (k : ℕ) (i : Instr) → take (length (spelling i)) (drop k ws) ≡ spelling i → k + length (spelling i) ≤ n
      → is_shaped i ≡ true → is_module_word (first_word i) ≡ false
      → (r : Regs) (d : Data) (j : ℕ) → r.pc ≡ P + 2 * k → Safe f all (running_after e f r d) → (r2 : Regs) (m2 : List ℕ) → InText f r2.pc
      → Gives f r2 m2 (row i (at_pc (regs16 f r) (P + 2 * (k + 1))) (P + 2 * (k + length (spelling i)))) d.mem
      → (Safe f all (running f r2 (record d { mem = m2 })) → Runs f all B Q j (running f r2 (record d { mem = m2 }))) → Runs f all B Q (suc j) (running_after e f r d)
  goes_after e {P = P} t k i stands fits shaped plain r d j pc safe r2 m2 to gives after =
      step t k i stands fits shaped plain e r d j pc safe
      (given (B (running_after e f r d)) d j r2 m2 to after (row i (at_pc (regs16 f r) (P + 2 * (k + 1))) (P + 2 * (k + length (spelling i)))) d.mem gives)

  -- the same after a step that told nothing
  pub goes : {P n : ℕ} {ws : List ℕ} (t : Text f P n ws) (k : ℕ) (i : Instr) → take (length (spelling i)) (drop k ws) ≡ spelling i → k + length (spelling i) ≤ n
      → is_shaped i ≡ true → is_module_word (first_word i) ≡ false
      → (r : Regs) (d : Data) (j : ℕ) → r.pc ≡ P + 2 * k → Safe f all (running f r d) → (r2 : Regs) (m2 : List ℕ) → InText f r2.pc
      → Gives f r2 m2 (row i (at_pc (regs16 f r) (P + 2 * (k + 1))) (P + 2 * (k + length (spelling i)))) d.mem
      → (Safe f all (running f r2 (record d { mem = m2 })) → Runs f all B Q j (running f r2 (record d { mem = m2 }))) → Runs f all B Q (suc j) (running f r d)
  goes t k i stands fits shaped plain r d j pc safe r2 m2 to gives after = goes_after event.Quiet t k i stands fits shaped plain r d j pc safe r2 m2 to gives after
