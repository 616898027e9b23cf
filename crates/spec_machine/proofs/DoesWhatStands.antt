-- A step does the instruction that is at PC.
use Rattle.std.proofs.Common.{◌≡◌, ℕ, ◌+◌, ◌-◌, ◌*◌, ◌%◌, ◌<◌, ◌≤◌, ◌⊎◌, inl, inr, ◌==◌, ◌&&◌, not, is_some, Bool, true, false, cond, if◌then◌else◌, List, []}
use Rattle.std.proofs.Common.{◌∷◌, length, Option, Some, None, Result, Ok, Err, refl, sym, ◌∙◌, ap, subst, arith}
use Rattle.std.specs.Prelude.{nat_le, nat_lt}
use Rattle.std.proofs.lemmas.Bool.{true≢false, and_parts, and_from, not-true, leb-true, ltb-true, le-leb, lt-ltb, eq-eqb, eqb-true}
use Rattle.sx_isa.specs.declared.instruction.Instr.{Instr}
use Rattle.sx_isa.specs.declared.instruction.Instr.TheVariants.{Two, One, Reti, Jump, Sancus}
use Rattle.sx_isa.specs.Instructions.{IsInstruction, head_or_zero}
use Rattle.sx_isa.specs.Spelling.{spelling}
use Rattle.sx_isa.specs.Standing.{word_at, WordsStand, InstructionStands}
use Rattle.sx_isa.specs.Reading.{length_of, instruction_at}
use Rattle.sx_isa.proofs.Spelled.{reads, spelling_short, one_found}
use Rattle.sx_isa.proofs.Lengths.{length_of_spelling}
use Rattle.sx_isa.proofs.StandingLemmas.{stands_reads}
use Rattle.sx_rules.specs.declared.access.Violation.{Violation}
use Rattle.sx_rules.specs.declared.access.Violation.TheVariants as bad
use Rattle.sx_rules.specs.declared.section.Section.{Section}
use Rattle.sx_rules.specs.Access.{Sections, extends, in_order}
use Rattle.sx_bus.specs.declared.devices.Window.{Window}
use Rattle.sx_bus.specs.Devices.{device_at}
use Rattle.sx_tag.specs.Mac.{Mac}
use Rattle.spec_machine.specs.Memory.{even, word}
use Rattle.spec_machine.specs.Registers.{onward, at_pc}
use Rattle.spec_machine.specs.State.{State}
use Rattle.spec_machine.specs.Plan.{Plan, Fetch}
use Rattle.spec_machine.specs.Run.{Moment, Outcome, Violated, device_of, fetch_place, fetch, after_fetch, exec}
use Rattle.spec_machine.specs.Rows.{row, row_of, with_words, program}
use Rattle.spec_machine.specs.Modules.{is_code, module_instruction}
use Rattle.spec_machine.specs.Step.{pc_of, own_of, start, given_at_pc, is_module_word, instruction, ordered, word_outside, is_let_run, attempt}
use Rattle.spec_machine.specs.Node.{AreRegisters}
use Rattle.spec_machine.specs.Doing.{done_plainly, instruction_done, DoesWhatStands}

-- an outcome is the other, or a word may not be taken
abbrev Does : Outcome → Outcome → Type 0
Does o p = (o ≡ p) ⊎ ((o ≡ Violated bad.Fetch) ⊎ (o ≡ Violated bad.Device))

fetch_cases : (live : List Section) (own at : ℕ) (x : Moment) → (fetch live own at x ≡ Ok (word x.mem at)) ⊎ ((fetch live own at x ≡ Err bad.Fetch) ⊎ (fetch live own at x ≡ Err bad.Device))
fetch_cases live own at x = by (extends live own (even at) && extends live own (even at + 1)) (device_of x.devices at)
  where
    by : (b : Bool) (d : Option (ℕ × Window)) → (let r : Result ℕ Violation = if b then fetch_place at d x else Err bad.Fetch in
        (r ≡ Ok (word x.mem at)) ⊎ ((r ≡ Err bad.Fetch) ⊎ (r ≡ Err bad.Device)))
    by true None = inl refl
    by true (Some d) = inr (inr refl)
    by false d = inr (inl refl)

does_fetch : (t : Sections) (own at : ℕ) (x : Moment) (k : ℕ → Plan) (p : Outcome) → Does (exec t own (k (word x.mem at)) x) p → Does (exec t own (Fetch at k) x) p
does_fetch t own at x k p h =
    let after : Result ℕ Violation → Outcome = λ r. after_fetch r (λ w. exec t own (k w) x) in
    elim (fetch_cases t.live own at x) [
      | inl e ↦ subst (λ (r : Result ℕ Violation). Does (after r) p) (sym e) h
      | inr barred ↦ elim barred [ inl e ↦ inr (inl (ap after e)) | inr e ↦ inr (inr (ap after e)) ]
    ]

spelled : (i : Instr) → spelling i ≡ [] → ⊥
spelled (Two op byte src dst) e = absurd cc
spelled (One op byte arg) e = absurd cc
spelled Reti e = absurd cc
spelled (Jump cond offset) e = absurd cc
spelled (Sancus code) e = absurd cc

counted : (i : Instr) (w : ℕ) (ws : List ℕ) → IsInstruction i → spelling i ≡ ws → w ≡ head_or_zero ws → length_of w ≡ Some (length ws)
counted i w ws h e f =
    ap length_of (f ∙ ap head_or_zero (sym e)) ∙ length_of_spelling i h ∙ ap (λ (l : List ℕ). Some (length l)) e

first_is : (mem : List ℕ) (pc a : ℕ) → pc < 65536 → word_at mem pc ≡ a → word mem pc ≡ a
first_is mem pc a lt e = let same : pc % 65536 ≡ pc = omega (arith, lt) in ap (λ (i : ℕ). word mem i) (sym same) ∙ e

-- the plan of the words at PC, by how many there are
words_do : (t : Sections) (own : ℕ) (x : Moment) (regs : List ℕ) (pc : ℕ) (i : Instr) → pc < 65536 → IsInstruction i → (ws : List ℕ) → spelling i ≡ ws → length ws ≤ 3 → WordsStand x.mem pc ws
    → Does (exec t own (with_words (length_of (word x.mem pc)) (word x.mem pc) regs pc) x) (exec t own (row i regs (onward pc (2 * length ws))) x)
words_do t own x regs pc i lt h [] e short s = absurd (spelled i e)
words_do t own x regs pc i lt h (a ∷ []) e short s =
    let w = word x.mem pc in
    let first = first_is x.mem pc a lt s.0 in
    let read : instruction_at w 0 0 ≡ Some (i, 1) = reads w 0 0 i 1 (h, ap length (sym e), ap (λ (z : ℕ). z ∷ []) first ∙ sym e) in
    inl (ap (λ (c : Option ℕ). exec t own (with_words c w regs pc) x) (counted i w (a ∷ []) h e first)
    ∙ ap (λ (r : Option (Instr × ℕ)). exec t own (row_of r regs pc) x) read)
words_do t own x regs pc i lt h (a ∷ b ∷ []) e short s =
    let w = word x.mem pc in
    let v = word x.mem (onward pc 2) in
    let first = first_is x.mem pc a lt s.0 in
    let second : v ≡ b = s.1.0 in
    let both : ◌≡◌ {A = List ℕ} (w ∷ v ∷ []) (a ∷ b ∷ []) = ap (λ (z : ℕ). z ∷ v ∷ []) first ∙ ap (λ (z : ℕ). a ∷ z ∷ []) second in
    let read : instruction_at w v 0 ≡ Some (i, 2) = reads w v 0 i 2 (h, ap length (sym e), both ∙ sym e) in
    subst (λ (c : Option ℕ). Does (exec t own (with_words c w regs pc) x) (exec t own (row i regs (onward pc (2 * 2))) x)) (sym (counted i w (a ∷ b ∷ []) h e first))
    (does_fetch t own (onward pc 2) x (λ y. row_of (instruction_at w y 0) regs pc) (exec t own (row i regs (onward pc (2 * 2))) x)
    (inl (ap (λ (r : Option (Instr × ℕ)). exec t own (row_of r regs pc) x) read)))
words_do t own x regs pc i lt h (a ∷ b ∷ c ∷ []) e short s =
    let w = word x.mem pc in
    let v = word x.mem (onward pc 2) in
    let u = word x.mem (onward pc 4) in
    let end = exec t own (row i regs (onward pc (2 * 3))) x in
    let first = first_is x.mem pc a lt s.0 in
    let second : v ≡ b = s.1.0 in
    let there : onward pc 4 ≡ (pc + 2 + 2) % 65536 = omega arith in
    let third : u ≡ c = ap (λ (k : ℕ). word x.mem k) there ∙ s.1.1.0 in
    let all : ◌≡◌ {A = List ℕ} (w ∷ v ∷ u ∷ []) (a ∷ b ∷ c ∷ []) =
    ap (λ (z : ℕ). z ∷ v ∷ u ∷ []) first ∙ ap (λ (z : ℕ). a ∷ z ∷ u ∷ []) second ∙ ap (λ (z : ℕ). a ∷ b ∷ z ∷ []) third in
    let read : instruction_at w v u ≡ Some (i, 3) = reads w v u i 3 (h, ap length (sym e), all ∙ sym e) in
    subst (λ (n : Option ℕ). Does (exec t own (with_words n w regs pc) x) end) (sym (counted i w (a ∷ b ∷ c ∷ []) h e first))
    (does_fetch t own (onward pc 2) x (λ y. Fetch (onward pc 4) (λ z. row_of (instruction_at w y z) regs pc)) end
    (does_fetch t own (onward pc 4) x (λ z. row_of (instruction_at w v z) regs pc) end
    (inl (ap (λ (r : Option (Instr × ℕ)). exec t own (row_of r regs pc) x) read))))
words_do t own x regs pc i lt h (a ∷ b ∷ c ∷ d ∷ ws) e short s = absurd (omega (arith, short))

plain_does : (a : State) (i : Instr) → AreRegisters a.regs → InstructionStands a.mem (pc_of a) i
    → Does (exec a.sections (own_of a) (program (word a.mem (pc_of a)) a.regs) (start a)) (done_plainly a i)
unfolding program
plain_does a i r s =
    words_do a.sections (own_of a) (start a) (at_pc a.regs (onward (pc_of a) 2)) (pc_of a) i (r.words 0) s.0 (spelling i) refl (spelling_short i) s.1

-- The words of module instructions.

module_word : (w : ℕ) → is_module_word w ≡ true → (0x1380 + (w - 0x1380) ≡ w) × IsInstruction (Sancus (w - 0x1380))
module_word w e =
    let p = and_parts (nat_le 0x1380 w) (is_code (w - 0x1380)) e in
    let q = and_parts (nat_lt (w - 0x1380) 8) (not ((w - 0x1380) == 3)) p.1 in
    let above = leb-true 0x1380 w p.0 in
    (omega (arith, above), (ltb-true (w - 0x1380) 8 q.0, λ three. true≢false (sym (eq-eqb (w - 0x1380) 3 three) ∙ not-true ((w - 0x1380) == 3) q.1)))

only_module : (mem : List ℕ) (pc : ℕ) (i : Instr) → InstructionStands mem pc i → is_module_word (word_at mem pc) ≡ true → i ≡ Sancus (word_at mem pc - 0x1380)
only_module mem pc i s e =
    let w = word_at mem pc in
    let m = module_word w e in
    one_found i (Sancus (w - 0x1380)) (length (spelling i)) 1 (instruction_at w (word_at mem (pc + 2)) (word_at mem (pc + 4))) (stands_reads mem pc i s)
    (reads w (word_at mem (pc + 2)) (word_at mem (pc + 4)) (Sancus (w - 0x1380)) 1 (m.1, refl, ap (λ (z : ℕ). z ∷ []) (sym m.0)))

is_module : (code : ℕ) → IsInstruction (Sancus code) → is_module_word (0x1380 + code) ≡ true
is_module code h =
    let same : 0x1380 + code - 0x1380 ≡ code = omega arith in
    and_from (nat_le 0x1380 (0x1380 + code)) (is_code (0x1380 + code - 0x1380)) (le-leb 0x1380 (0x1380 + code) (omega arith))
    (subst (λ (c : ℕ). is_code c ≡ true) (sym same) (and_from (nat_lt code 8) (not (code == 3)) (lt-ltb code 8 h.0) (not_three (code == 3) refl)))
  where
    not_three : (b : Bool) → (code == 3) ≡ b → not b ≡ true
    not_three true e = absurd (h.1 (eqb-true code 3 e))
    not_three false e = refl

-- The step.

not_module : (a : State) (i : Instr) → AreRegisters a.regs → InstructionStands a.mem (pc_of a) i → is_module_word (word a.mem (pc_of a)) ≡ false → (mac : Mac)
    → Does (exec a.sections (own_of a) (program (word a.mem (pc_of a)) a.regs) (start a)) (instruction_done mac a i)
not_module a (Two op byte src dst) r s e mac = plain_does a (Two op byte src dst) r s
not_module a (One op byte arg) r s e mac = plain_does a (One op byte arg) r s
not_module a Reti r s e mac = plain_does a Reti r s
not_module a (Jump c offset) r s e mac = plain_does a (Jump c offset) r s
not_module a (Sancus code) r s e mac =
    absurd (true≢false (sym (is_module code s.0) ∙ ap is_module_word (sym (first_is a.mem (pc_of a) (0x1380 + code) (r.words 0) s.1.0)) ∙ e))

instruction_does : (mac : Mac) (a : State) (i : Instr) → AreRegisters a.regs → InstructionStands a.mem (pc_of a) i → Does (instruction mac a) (instruction_done mac a i)
instruction_does mac a i r s = by (is_module_word (word a.mem (pc_of a))) refl
  where
    by : (b : Bool) → is_module_word (word a.mem (pc_of a)) ≡ b
        → Does (cond b (module_instruction mac (word a.mem (pc_of a) - 0x1380) (given_at_pc mac a) a.mem)
        (exec a.sections (own_of a) (program (word a.mem (pc_of a)) a.regs) (start a))) (instruction_done mac a i)
    by false e = not_module a i r s e mac
    by true e =
        let w = word a.mem (pc_of a) in
        let same : w ≡ word_at a.mem (pc_of a) = first_is a.mem (pc_of a) (word_at a.mem (pc_of a)) (r.words 0) refl in
        let is : i ≡ Sancus (w - 0x1380) = only_module a.mem (pc_of a) i s (ap is_module_word (sym same) ∙ e) ∙ ap (λ (v : ℕ). Sancus (v - 0x1380)) (sym same) in
        subst (λ (j : Instr). Does (module_instruction mac (w - 0x1380) (given_at_pc mac a) a.mem) (instruction_done mac a j)) (sym is) (inl refl)

let_run : (mac : Mac) (a : State) → is_let_run a ≡ true → attempt mac a ≡ instruction mac a
let_run mac a h = outer (word_outside a.sections.live (pc_of a)) (device_at a.devices (pc_of a)) h
  where
    ordered_run : (b : Bool) → b ≡ true → cond b (instruction mac a) (Violated bad.Order) ≡ instruction mac a
    ordered_run true e = refl
    ordered_run false e = absurd cc

    outer : (b : Bool) (d : Option ℕ) → (b && (not (is_some d) && in_order a.sections.live a.cur (pc_of a))) ≡ true → cond b (ordered mac a d) (Violated bad.Fetch) ≡ instruction mac a
    outer true (Some d) e = absurd cc
    outer true None e = ordered_run (in_order a.sections.live a.cur (pc_of a)) e
    outer false d e = absurd cc

pub does_what_stands : DoesWhatStands
does_what_stands mac a i r s h = subst (λ (o : Outcome). Does o (instruction_done mac a i)) (sym (let_run mac a h)) (instruction_does mac a i r s)
