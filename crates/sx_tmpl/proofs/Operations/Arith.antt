-- Arithmetic, and the end of a value.
use Rattle.sx_tmpl.proofs.Running.Loading.{loads}
use Rattle.sx_tmpl.specs.Template.{operator_words, subtraction}
use Rattle.sx_ir.specs.declared.ir.IrOp.TheVariants as op
use Rattle.sx_isa.specs.Spelling.{spelling}
use Rattle.spec_machine.specs.Step.{is_module_word}
use Rattle.sx_isa.specs.Assembly.{#◌, ◌⟨◌⟩, and, bis, clr, incd, increment, indirect, mov, r12, sp, sub, tst, xor}
use Rattle.sx_tmpl.proofs.Running.Instructions.{goes, step}
use Rattle.std.proofs.Common.{◌≡◌, ℕ, ◌+◌, ◌-◌, ◌%◌, ◌<◌, inl, inr, false, not, List, [], ◌∷◌, length, refl, sym, ◌∙◌, ap, subst, arith}
use Rattle.sx_isa.specs.declared.instruction.Operand.TheVariants.{Indexed, Increment}
use Rattle.sx_isa.specs.declared.instruction.Op2.{Op2}
use Rattle.sx_isa.specs.declared.instruction.Op2.TheVariants as op2
use Rattle.sx_isa.specs.Instructions.{first_word}
use Rattle.sx_isa.specs.Standing.{words_of}
use Rattle.sx_alu.specs.declared.flags.Flags.{Flags}
use Rattle.spec_machine.specs.Plan.{Load}
use Rattle.spec_machine.specs.Registers.{flags}
use Rattle.spec_machine.specs.Rows.{computed, into_memory, on_memory}
use Rattle.sx_tmpl.proofs.Running.Owes.{Owes}
use Rattle.sx_lang.specs.declared.tree.BinOp.{BinOp}
use Rattle.sx_alu.specs.Status.{flags_of}
use Rattle.sx_lang.specs.declared.tree.BinOp.TheVariants as binary
use Rattle.sx_lang.specs.declared.tree.UnOp.TheVariants as unary
use Rattle.sx_mean.specs.Meaning.{combine, apply}
use Rattle.sx_isa.specs.declared.instruction.Instr.TheVariants.{Two}
use Rattle.sx_rules.specs.declared.access.Violation.{Violation}
use Rattle.spec_machine.specs.declared.kinds.Event.TheVariants as event
use Rattle.spec_invocation.specs.Marks.{Mark}
use Rattle.sx_image.specs.Watched.{Watched}
use Rattle.sx_ir.specs.Conf.{Conf}
use Rattle.sx_ir.specs.Meaning.{next}
use Rattle.sx_tmpl.specs.Running.{Data, Fixed, Regs, Safe, regs16, running}
use Rattle.sx_tmpl.specs.Shows.{ShowsConfiguration, Stood}
use Rattle.sx_tmpl.proofs.Running.MidRun.{Runs, Stands, put_cell}
use Rattle.sx_tmpl.proofs.Running.Steps.{NoTell, Text, Then}
use Rattle.sx_tmpl.proofs.Running.Flags.{flags_stay, flags_after, equal, unequal}
use Rattle.std.specs.Prelude.{◌*◌, ◌==◌, drop, take, true}
use Rattle.std.proofs.lemmas.Bool.{cases_eq, eq-eqb, ne_eqb}
use Rattle.sx_tmpl.proofs.Operations.Plain.{inside, Leads, stood}
use Rattle.sx_tmpl.proofs.Running.Holding.{stack_word, holds_pop, holds_replace, word_below}
use Rattle.std.specs.Int.Bits.{and_lt, or_lt, xor_lt}
use Rattle.sx_tmpl.proofs.Operations.Branch.{compare_end}
use Rattle.lemmas.specs.Truth.{truth}

module _ (f : Fixed) (st : Stands f) (all : List Mark) (B : Watched → Violation → Type 0) (at : ℕ → ℕ) where
  abbrev L : ℕ → List ℕ → ℕ → Conf → Conf → Type 0
  L n ws count c c2 = Leads f st all B at n ws count c c2

  -- an operation on the two topmost words that is one instruction
  binary_leads : (op : Op2) (b : BinOp) → is_module_word (first_word (Two op false (Increment 1) (Indexed 1 0))) ≡ false
      → ((a s : ℕ) (regs : List ℕ) → on_memory op true a s regs ≡ Load true a (λ d. into_memory true true a (computed op true s d (flags regs)) regs))
      → (c : Conf) (x y : ℕ) (rest : List ℕ)
      → ((fl : Flags) → x < 65536 → y < 65536 → ((computed op true y x fl).0 ≡ combine b x y) × (combine b x y < 65536))
      → L 2 (words_of (Two op false (Increment 1) (Indexed 1 0) ∷ [])) 1 (record c { stack = y ∷ x ∷ rest }) (next c (combine b x y ∷ rest))
  binary_leads op b plain plan c x y rest value r d t on sh safe =
      let h = sh.holds in
      let top = h.top in
      let ly : y < 65536 = word_below f st r.sp h.words.0 safe.memory in
      let lx : x < 65536 = word_below f st (r.sp + 2) h.words.1.0 safe.memory in
      let p1 = stack_word f st r.sp (length (y ∷ x ∷ rest)) top (omega arith) (omega (arith, h.room)) in
      let p2 = stack_word f st (r.sp + 2) (length (x ∷ rest)) (omega arith) (omega arith) (omega (arith, h.room)) in
      let up : (r.sp + 2) % 65536 ≡ r.sp + 2 = omega (arith, st.beneath, st.room) in
      let up0 : ((r.sp + 2) % 65536 + 0) % 65536 ≡ r.sp + 2 = omega (arith, st.beneath, st.room) in
      let z = combine b x y in
      let is = value (flags_of r.sr) lx ly in
      let r2 = record r { pc = at c.place + 4; sp = r.sp + 2; sr = flags_after op y x r.sr } in
      let popped = regs16 f (record r { pc = at c.place + 4; sp = (r.sp + 2) % 65536 }) in
      let Q = Stood f all at (next c (z ∷ rest)) in
      step f st all B Q t 0 (Two op false (Increment 1) (Indexed 1 0)) refl (omega arith) refl plain event.Quiet r d 0
      (omega (arith, sh.pc)) safe (
        r.sp,
        refl,
        p1,
        y,
        h.words.0,
        subst (λ p. Owes f (Then f st all B Q 0 d) (NoTell f st all B Q) (B (running f r d)) p d.mem) (sym (plan (((r.sp + 2) % 65536 + 0) % 65536) y popped)) (
          r.sp + 2,
          up0,
          p2,
          x,
          h.words.1.0,
          (
            r.sp + 2,
            up0,
            p2,
            z,
            is.0,
            is.1,
            λ kept. (
              r2,
              rw up refl,
              inside t 2 (omega arith),
              λ safe2.
                  stood f st all B at (next c (z ∷ rest)) r2 (put_cell d.mem (r.sp + 2) z) d 0 safe2 (omega (arith, on))
                  (holds_replace f st at c.back x z rest c.priv c.mem (r.sp + 2) d.mem safe.memory (holds_pop f st at c.back y (x ∷ rest) c.priv c.mem r.sp d.mem h)) sh.devices sh.marks,
            ),
          ),
        ),
      )

  pub sub_leads : (c : Conf) (x y : ℕ) (rest : List ℕ) → L 2 (words_of (sub (increment sp) (0 ⟨ sp ⟩) ∷ [])) 1 (record c { stack = y ∷ x ∷ rest }) (next c (combine binary.Sub x y ∷ rest))
  sub_leads c x y rest = binary_leads op2.Sub binary.Sub refl (λ a s regs. refl) c x y rest (λ fl lx ly. (omega arith, omega arith))

  pub and_leads : (c : Conf) (x y : ℕ) (rest : List ℕ) → L 2 (words_of (and (increment sp) (0 ⟨ sp ⟩) ∷ [])) 1 (record c { stack = y ∷ x ∷ rest }) (next c (combine binary.And x y ∷ rest))
  and_leads c x y rest = binary_leads op2.And binary.And refl (λ a s regs. refl) c x y rest (λ fl lx ly. (refl, and_lt 16 x y lx ly))

  pub or_leads : (c : Conf) (x y : ℕ) (rest : List ℕ) → L 2 (words_of (bis (increment sp) (0 ⟨ sp ⟩) ∷ [])) 1 (record c { stack = y ∷ x ∷ rest }) (next c (combine binary.Or x y ∷ rest))
  or_leads c x y rest = binary_leads op2.Bis binary.Or refl (λ a s regs. refl) c x y rest (λ fl lx ly. (refl, or_lt 16 x y lx ly))

  pub xor_leads : (c : Conf) (x y : ℕ) (rest : List ℕ) → L 2 (words_of (xor (increment sp) (0 ⟨ sp ⟩) ∷ [])) 1 (record c { stack = y ∷ x ∷ rest }) (next c (combine binary.Xor x y ∷ rest))
  xor_leads c x y rest = binary_leads op2.Xor binary.Xor refl (λ a s regs. refl) c x y rest (λ fl lx ly. (refl, xor_lt 16 x y lx ly))

  -- a number minus the top word, where the number is in R12
  subtracts : (n : ℕ) {ws : List ℕ} (c : Conf) (x z : ℕ) (rest : List ℕ) (r : Regs) (d : Data) → (t : Text f (at c.place) 4 ws) → take 1 (drop 1 ws) ≡ spelling (sub (indirect sp) r12)
      → take 2 (drop 2 ws) ≡ spelling (mov r12 (0 ⟨ sp ⟩)) → (n + (65535 - x) + 1) % 65536 ≡ z → z < 65536 → n < 65536 → at (c.place + 1) ≡ at c.place + 2 * 4
      → ShowsConfiguration f at (record c { stack = x ∷ rest }) (record r { pc = at c.place }) d → Safe f all (running f (record r { pc = at c.place + 2; r12 = n }) d)
      → Runs f all B (Stood f all at (next c (z ∷ rest))) 2 (running f (record r { pc = at c.place + 2; r12 = n }) d)
  subtracts n c x z rest r d t i1 i2 value lz ln on sh s1 =
      let h = sh.holds in
      let lx : x < 65536 = word_below f st r.sp h.words.0 s1.memory in
      let p1 = stack_word f st r.sp (length (x ∷ rest)) h.top (omega arith) (omega (arith, h.room)) in
      let up0 : (r.sp + 0) % 65536 ≡ r.sp = omega (arith, p1.high, st.beneath) in
      let cut : (n % 65536 + (65535 - x) + 1) % 65536 ≡ z = omega arith in
      let sr1 = flags_after op2.Sub x (n % 65536) r.sr in
      let r1 = record r { pc = at c.place + 2; r12 = n } in
      let r2 = record r { pc = at c.place + 4; sr = sr1; r12 = z } in
      let r3 = record r2 { pc = at c.place + 8 } in
      goes f st all B _ t 1 (sub (indirect sp) r12) i1 (omega arith) refl refl r1 d 1 refl s1 r2 d.mem (inside t 2 (omega arith))
      (r.sp, refl, p1, x, h.words.0, (rw cut refl, refl)) (λ s2.
      goes f st all B _ t 2 (mov r12 (0 ⟨ sp ⟩)) i2 (omega arith) refl refl r2 d 0 refl s2 r3 (put_cell d.mem r.sp z) (inside t 4 (omega arith))
      (r.sp, up0, p1, z, omega arith, lz, (rw (flags_stay sr1) refl, refl)) (λ s3.
      stood f st all B at (next c (z ∷ rest)) r3 (put_cell d.mem r.sp z) d 0 s3 (omega (arith, on))
      (holds_replace f st at c.back x z rest c.priv c.mem r.sp d.mem s1.memory h) sh.devices sh.marks))

  pub neg_leads : (c : Conf) (x : ℕ) (rest : List ℕ) → L 4 (words_of (subtraction (# 0))) 3 (record c { stack = x ∷ rest }) (next c (apply unary.Neg x ∷ rest))
  neg_leads c x rest r d t on sh safe =
      let h = sh.holds in
      let lx : x < 65536 = word_below f st r.sp h.words.0 safe.memory in
      loads f st all B _ t 0 ((# 0, 12) ∷ []) refl (omega arith) refl (omega arith, tt) r d 2 r.pc (omega (arith, sh.pc)) safe
      (subtracts 0 c x (apply unary.Neg x) rest r d t refl refl (omega arith) (omega arith) (omega arith) on (record { pc = refl; holds = h; devices = sh.devices; marks = sh.marks }))

  pub inv_leads : (c : Conf) (x : ℕ) (rest : List ℕ) → L 4 (words_of (subtraction (# 65535))) 3 (record c { stack = x ∷ rest }) (next c (apply unary.Inv x ∷ rest))
  inv_leads c x rest r d t on sh safe =
      let h = sh.holds in
      let lx : x < 65536 = word_below f st r.sp h.words.0 safe.memory in
      loads f st all B _ t 0 ((# 65535, 12) ∷ []) refl (omega arith) refl (omega arith, tt) r d 2 r.pc (omega (arith, sh.pc)) safe
      (subtracts 65535 c x (apply unary.Inv x) rest r d t refl refl (omega arith) (omega arith) (omega arith) on (record { pc = refl; holds = h; devices = sh.devices; marks = sh.marks }))

  pub not_leads : (c : Conf) (x : ℕ) (rest : List ℕ) → L 7 (operator_words op.Not) 4 (record c { stack = x ∷ rest }) (next c (apply unary.Not x ∷ rest))
  not_leads c x rest r d t on sh safe =
      let h = sh.holds in
      let lx : x < 65536 = word_below f st r.sp h.words.0 safe.memory in
      let p1 = stack_word f st r.sp (length (x ∷ rest)) h.top (omega arith) (omega (arith, h.room)) in
      let up0 : (r.sp + 0) % 65536 ≡ r.sp = omega (arith, p1.high, st.beneath) in
      let h2 = holds_replace f st at c.back x 0 rest c.priv c.mem r.sp d.mem safe.memory h in
      let sr1 = flags_after op2.Cmp 0 x r.sr in
      let r1 = record r { pc = at c.place + 4; sr = sr1 } in
      let r2 = record r1 { pc = at c.place + 8 } in
      let z : (flags_of sr1).z ≡ (x == 0) = elim (cases_eq x 0) [
        | inl e ↦ equal 0 x r.sr (omega arith) e ∙ sym (eq-eqb x 0 e)
        | inr ne ↦ unequal 0 x r.sr (omega arith) lx ne ∙ sym (ne_eqb x 0 ne)
      ] in
      goes f st all B _ t 0 (tst (0 ⟨ sp ⟩)) refl (omega arith) refl refl r d 3 (omega (arith, sh.pc)) safe r1 d.mem (inside t 2 (omega arith))
      (r.sp, up0, p1, x, h.words.0, (refl, refl)) (λ s1.
      goes f st all B _ t 2 (clr (0 ⟨ sp ⟩)) refl (omega arith) refl refl r1 d 2 refl s1 r2 (put_cell d.mem r.sp 0) (inside t 4 (omega arith))
      (r.sp, up0, p1, 0, refl, omega arith, (rw (flags_stay sr1) refl, refl)) (λ s2.
      compare_end f st all B at t 4 (next c (truth (x == 0) ∷ rest)) rest 0 (x == 0) r2 (record d { mem = put_cell d.mem r.sp 0 }) refl refl (omega arith) refl refl
      (ap not z) refl on refl h2 sh.devices sh.marks s2))

  pub drop_leads : (c : Conf) (x : ℕ) (rest : List ℕ) → L 1 (words_of (incd sp ∷ [])) 1 (record c { stack = x ∷ rest }) (next c rest)
  drop_leads c x rest r d t on sh safe =
      let h = sh.holds in
      let p1 = stack_word f st r.sp (length (x ∷ rest)) h.top (omega arith) (omega (arith, h.room)) in
      let up : (r.sp % 65536 + 2 + 0) % 65536 - (r.sp % 65536 + 2 + 0) % 65536 % 2 ≡ r.sp + 2 = omega (arith, p1.high, p1.is_even, st.beneath) in
      let r2 = record r { pc = at c.place + 2; sp = r.sp + 2; sr = flags_after op2.Add 2 (r.sp % 65536) r.sr } in
      goes f st all B _ t 0 (incd sp) refl (omega arith) refl refl r d 0 (omega (arith, sh.pc)) safe r2 d.mem (inside t 1 (omega arith))
      (rw up refl, refl) (λ s2.
      stood f st all B at (next c rest) r2 d.mem d 0 s2 (omega (arith, on)) (holds_pop f st at c.back x rest c.priv c.mem r.sp d.mem h) sh.devices sh.marks)
