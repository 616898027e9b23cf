-- Operations whose template branches.
use Rattle.sx_tmpl.specs.Template.{comparison}
use Rattle.sx_isa.specs.Shaped.{is_shaped}
use Rattle.spec_machine.specs.Step.{is_module_word, start}
use Rattle.sx_isa.specs.Spelling.{spelling}
use Rattle.sx_isa.specs.Instructions.{first_word}
use Rattle.sx_isa.specs.Standing.{words_of}
use Rattle.sx_isa.specs.Assembly as asm
use Rattle.sx_isa.specs.Assembly.{##◌, #◌, &◌, ◌⟨◌⟩, ahead, br, clr, cmp, increment, jc, jnz, mov, sp}
use Rattle.sx_tmpl.proofs.Running.Instructions.{goes, reads_of}
use Rattle.std.proofs.Common.{◌≡◌, ℕ, suc, ◌+◌, ◌-◌, ◌*◌, ◌%◌, ◌<◌, ◌≤◌, inl, inr, Bool, true, false, not, List, [], ◌∷◌, length, refl, sym, ◌∙◌, ap, subst, arith}
use Rattle.sx_isa.specs.declared.instruction.Op2.TheVariants as op2
use Rattle.sx_alu.specs.Status.{flags_of}
use Rattle.sx_lang.specs.declared.tree.BinOp.TheVariants as binary
use Rattle.sx_mean.specs.Meaning.{combine}
use Rattle.sx_isa.specs.declared.instruction.Instr.{Instr}
use Rattle.sx_isa.specs.declared.instruction.Instr.TheVariants.{Jump}
use Rattle.sx_rules.specs.declared.access.Violation.{Violation}
use Rattle.spec_machine.specs.declared.kinds.Event.TheVariants as event
use Rattle.spec_invocation.specs.Marks.{Mark}
use Rattle.sx_image.specs.Watched.{Watched}
use Rattle.sx_ir.specs.Conf.{Conf}
use Rattle.spec_machine.specs.Memory.{word}
use Rattle.sx_ir.specs.Meaning.{next}
use Rattle.sx_tmpl.specs.Unseen.{HoldsNoKey}
use Rattle.sx_tmpl.specs.Running.{Regs, Fixed, Data, running, Safe, cell}
use Rattle.sx_tmpl.proofs.Running.MidRun.{PublicWord, Runs, Stands, place_of, put_cell}
use Rattle.sx_tmpl.proofs.Running.Owes.{compared_met, compared_shown}
use Rattle.sx_tmpl.specs.Shows.{base_of, IsData, MemoryHolds, ShowsConfiguration, Stood}
use Rattle.spec_machine.specs.Rows.{jump_taken}
use Rattle.sx_tmpl.proofs.Running.Steps.{InText, NoTell, Text, Then, text_word, two_met}
use Rattle.sx_tmpl.proofs.Running.Flags.{flags_after, no_borrow, borrow, equal, unequal, carry_of, zero_of}
use Rattle.std.specs.Prelude.{drop, take, nat_lt, ◌==◌, if◌then◌else◌}
use Rattle.std.proofs.lemmas.Bool.{cases_lt, cases_eq, lt-ltb, le-ltb, eq-eqb, ne_eqb}
use Rattle.sx_tmpl.proofs.Operations.Plain.{inside, Leads, stood}
use Rattle.sx_tmpl.proofs.Running.Holding.{stack_word, data_word, holds_pop, holds_replace, holds_word, word_below}
use Rattle.lemmas.specs.Truth.{truth}

module _ (f : Fixed) (st : Stands f) (all : List Mark) (B : Watched → Violation → Type 0) (at : ℕ → ℕ) where
  abbrev L : ℕ → List ℕ → ℕ → Conf → Conf → Type 0
  L n ws count c c2 = Leads f st all B at n ws count c c2

  pub jump_leads : (c : Conf) (q : ℕ) → InText f (at q) → at q % 2 ≡ 0 → L 2 (words_of (br (## (at q)) ∷ [])) 1 c (record c { place = q })
  jump_leads c q to ev r d t on sh safe =
      let e : at q % 65536 - at q % 65536 % 2 ≡ at q = omega (arith, to.to, st.below) in
      let r2 = record r { pc = at q; sr = flags_after op2.Mov 0 0 r.sr } in
      goes f st all B _ t 0 (br (## (at q))) refl (omega arith) refl refl r d 0 (omega (arith, sh.pc)) safe r2 d.mem to (rw e refl, refl) (λ safe2.
      stood f st all B at (record c { place = q }) r2 d.mem d 0 safe2 refl sh.holds sh.devices sh.marks)

  abbrev branch_words : ℕ → ℕ → List ℕ
  branch_words z to = words_of (cmp (increment sp) (& z) ∷ jnz (ahead 2) ∷ br (## to) ∷ [])

  -- the first instruction of a test: the top word is popped and compared with a word of zeros
  tested : (Q : Watched → Type 0) (c : Conf) (x z to : ℕ) (rest : List ℕ) (k : ℕ) (r : Regs) (d : Data) → Text f z 1 (0 ∷ []) → Text f (at c.place) 5 (branch_words z to)
      → ShowsConfiguration f at (record c { stack = x ∷ rest }) r d → Safe f all (running f r d)
      → (let r2 = record r { pc = at c.place + 4; sp = r.sp + 2; sr = flags_after op2.Cmp x 0 r.sr } in Safe f all (running f r2 d) → Runs f all B Q k (running f r2 d))
      → Runs f all B Q (suc k) (running f r d)
  tested Q c x z to rest k r d zeros t sh safe after =
      let h = sh.holds in
      let p1 = stack_word f st r.sp (length (x ∷ rest)) h.top (omega arith) (omega (arith, h.room)) in
      let up : (r.sp + 2) % 65536 ≡ r.sp + 2 = omega (arith, p1.high, st.beneath) in
      let r2 = record r { pc = at c.place + 4; sp = r.sp + 2; sr = flags_after op2.Cmp x 0 r.sr } in
      let w = first_word (cmp (increment asm.sp) (& 0)) in
      let i : ℕ → ℕ → Instr = λ x y. cmp (increment asm.sp) (& x) in
      let here : PublicWord f z = record { low = zeros.from; high = omega (arith, zeros.to); is_even = zeros.is_even } in
      let same : z + 2 * 0 ≡ z = omega arith in
      let is : cell d.mem z ≡ 0 = text_word f st all B Q d.mem z 0 safe.memory zeros.from (omega (arith, zeros.to)) (subst (λ a. cell f.entered a ≡ 0) same (zeros.word 0 0 refl)) in
      two_met f st all B Q t 0 w z i refl refl (omega arith) (reads_of (cmp (increment asm.sp) (& 0)) refl refl) event.Quiet r d k (omega (arith, sh.pc)) safe
      (compared_met f st (Then f st all B Q k d) (NoTell f st all B Q) (B (running f r d)) r.sp r.sp z z x 0 _ (start (running f r d).node) refl (place_of p1) h.words.0 refl here is
      safe.devices safe.memory (λ kept. (r2, rw up refl, inside t 2 (omega arith), after)))
      (compared_shown f st (Then f st all B Q k d) (NoTell f st all B Q) (B (running f r d)) r.sp r.sp z z _ (start (running f r d).node) refl p1 refl here)

  pub jump_zero_leads : (c : Conf) (q z : ℕ) (rest : List ℕ) → Text f z 1 (0 ∷ []) → InText f (at q) → at q % 2 ≡ 0
      → L 5 (branch_words z (at q)) 3 (record c { stack = 0 ∷ rest }) (record c { place = q; stack = rest })
  jump_zero_leads c q z rest zeros to ev r d t on sh safe =
      let h = sh.holds in
      let e : at q % 65536 - at q % 65536 % 2 ≡ at q = omega (arith, to.to, st.below) in
      let is = equal 0 0 r.sr (omega arith) refl in
      tested _ c 0 z (at q) rest 2 r d zeros t sh safe (λ s2.
      let r2 = record r { pc = at c.place + 4; sp = r.sp + 2; sr = flags_after op2.Cmp 0 0 r.sr } in
      let r3 = record r2 { pc = at c.place + 6 } in
      let r4 = record r3 { pc = at q; sr = flags_after op2.Mov 0 0 r3.sr } in
      goes f st all B _ t 2 (jnz (ahead 2)) refl (omega arith) refl refl r2 d 1 refl s2 r3 d.mem (inside t 3 (omega arith)) (rw is refl, refl) (λ s3.
      goes f st all B _ t 3 (br (## (at q))) refl (omega arith) refl refl r3 d 0 refl s3 r4 d.mem to (rw e refl, refl) (λ s4.
      stood f st all B at (record c { place = q; stack = rest }) r4 d.mem d 0 s4 refl
      (holds_pop f st at c.back 0 rest c.priv c.mem r.sp d.mem h) sh.devices sh.marks)))

  pub jump_not_leads : (c : Conf) (q z v : ℕ) (rest : List ℕ) → Text f z 1 (0 ∷ []) → L 5 (branch_words z (at q)) 3 (record c { stack = suc v ∷ rest }) (next c rest)
  jump_not_leads c q z v rest zeros r d t on sh safe =
      let h = sh.holds in
      let lt : suc v < 65536 = word_below f st r.sp h.words.0 safe.memory in
      let is = unequal (suc v) 0 r.sr lt (omega arith) (omega arith) in
      let to : (at c.place + 6 + 4) % 65536 ≡ at c.place + 10 = omega (arith, t.to, st.below) in
      tested _ c (suc v) z (at q) rest 2 r d zeros t sh safe (λ s2.
      let r2 = record r { pc = at c.place + 4; sp = r.sp + 2; sr = flags_after op2.Cmp (suc v) 0 r.sr } in
      let r3 = record r2 { pc = at c.place + 10 } in
      goes f st all B _ t 2 (jnz (ahead 2)) refl (omega arith) refl refl r2 d 1 refl s2 r3 d.mem (inside t 5 (omega arith))
      (rw (is, to) refl, refl) (λ s3.
      stood f st all B at (next c rest) r3 d.mem d 1 s3 (omega (arith, on))
      (holds_pop f st at c.back (suc v) rest c.priv c.mem r.sp d.mem h) sh.devices sh.marks))

  -- a word of the data is compared
  pub jump_equal_leads : (c : Conf) (o n q : ℕ) → o % 2 ≡ 0 → IsData o → HoldsNoKey (length f.setup.ends) o 2 → o + 2 ≤ length c.priv → n < 65536 → InText f (at q) → at q % 2 ≡ 0
      → L 6 (words_of (cmp (## n) (& (base_of f + o)) ∷ jnz (ahead 2) ∷ br (## (at q)) ∷ [])) 3 c (record c { place = if word c.priv o == n then q else c.place + 1 })
  jump_equal_leads c o n q ev i shown fits small to even_to r d t on sh safe =
      let h = sh.holds in
      let x = word c.priv o in
      let c2 = record c { place = if x == n then q else c.place + 1 } in
      let po = data_word f st o shown i.low ev (omega (arith, h.size)) in
      let is = holds_word f st at c.back c.stack c.priv c.mem r.sp d.mem o h ev i fits in
      let lx = word_below f st (base_of f + o) is safe.memory in
      let over : (at c.place + 8 + 4) % 65536 ≡ at c.place + 12 = omega (arith, t.to, st.below) in
      let e : at q % 65536 - at q % 65536 % 2 ≡ at q = omega (arith, to.to, st.below) in
      let imm : n % 65536 ≡ n = omega (arith, small) in
      let sr = flags_after op2.Cmp n x r.sr in
      let r1 = record r { pc = at c.place + 6; sr = sr } in
      goes f st all B _ t 0 (cmp (## n) (& (base_of f + o))) refl (omega arith) refl refl r d 2 (omega (arith, sh.pc)) safe
      r1 d.mem (inside t 3 (omega arith)) (base_of f + o, refl, po, x, is, (rw imm refl, refl)) (λ s1.
      elim (cases_eq x n) [
        | inl same ↦
            let jumps = equal n x r.sr small same in
            let there : (if x == n then q else c.place + 1) ≡ q = ap (λ (b : Bool). if b then q else c.place + 1) (eq-eqb x n same) in
            let r2 = record r1 { pc = at c.place + 8 } in
            let r3 = record r2 { pc = at q; sr = flags_after op2.Mov 0 0 r2.sr } in
            goes f st all B _ t 3 (jnz (ahead 2)) refl (omega arith) refl refl r1 d 1 refl s1 r2 d.mem (inside t 4 (omega arith))
            (rw jumps refl, refl) (λ s2.
            goes f st all B _ t 4 (br (## (at q))) refl (omega arith) refl refl r2 d 0 refl s2 r3 d.mem to (rw e refl, refl) (λ s3.
            stood f st all B at c2 r3 d.mem d 0 s3 (sym (ap at there)) h sh.devices sh.marks))
        | inr other ↦
            let stays = unequal n x r.sr small lx other in
            let there : (if x == n then q else c.place + 1) ≡ c.place + 1 = ap (λ (b : Bool). if b then q else c.place + 1) (ne_eqb x n other) in
            let r2 = record r1 { pc = at c.place + 12 } in
            goes f st all B _ t 3 (jnz (ahead 2)) refl (omega arith) refl refl r1 d 1 refl s1 r2 d.mem (inside t 6 (omega arith))
            (rw (stays, over) refl, refl) (λ s2.
            stood f st all B at c2 r2 d.mem d 1 s2 (sym on ∙ sym (ap at there)) h sh.devices sh.marks)
      ])

  -- the end of a comparison: a jump over the next instruction, which makes the top word 1, is taken where it doesn't hold
  pub compare_end : {P n : ℕ} {ws : List ℕ} (t : Text f P n ws) (k : ℕ) (c2 : Conf) (rest : List ℕ) (cond : ℕ) (b : Bool) (r : Regs) (d : Data)
      → take 1 (drop k ws) ≡ spelling (Jump cond (ahead 2)) → take 2 (drop (k + 1) ws) ≡ spelling (mov (# 1) (0 ⟨ asm.sp ⟩)) → k + 1 + 2 ≤ n
      → is_shaped (Jump cond (ahead 2)) ≡ true → is_module_word (first_word (Jump cond (ahead 2))) ≡ false → jump_taken cond (flags_of r.sr) ≡ not b
      → r.pc ≡ P + 2 * k → at c2.place ≡ P + 2 * (k + 1 + 2) → c2.stack ≡ truth b ∷ rest → MemoryHolds f at c2.back (0 ∷ rest) c2.priv c2.mem r.sp d.mem → d.devices ≡ c2.devices → d.marks ≡ c2.marks
      → Safe f all (running f r d)
      → Runs f all B (Stood f all at c2) 2 (running f r d)
  compare_end {P = P} t k c2 rest cond true r d i0 i1 le shaped plain tk pc on stack h dev marks safe =
      let p2 = stack_word f st r.sp (length (0 ∷ rest)) h.top (omega arith) (omega (arith, h.room)) in
      let up0 : (r.sp + 0) % 65536 ≡ r.sp = omega (arith, p2.high, st.beneath) in
      let r4 = record r { pc = P + 2 * (k + 1) } in
      let r5 = record r4 { pc = P + 2 * (k + 1 + 2); sr = flags_after op2.Mov 0 0 r.sr } in
      goes f st all B _ t k (Jump cond (ahead 2)) i0 (omega arith) shaped plain r d 1 pc safe r4 d.mem (inside t (k + 1) (omega arith))
      (rw tk refl, refl) (λ s4.
      goes f st all B _ t (k + 1) (mov (# 1) (0 ⟨ asm.sp ⟩)) i1 le refl refl r4 d 0 refl s4 r5 (put_cell d.mem r.sp 1) (inside t (k + 1 + 2) le)
      (r.sp, up0, p2, 1, refl, omega arith, (refl, refl)) (λ s5.
      stood f st all B at c2 r5 (put_cell d.mem r.sp 1) d 0 s5 (sym on) (subst (λ l. MemoryHolds f at c2.back l c2.priv c2.mem r.sp (put_cell d.mem r.sp 1)) (sym stack)
      (holds_replace f st at c2.back 0 1 rest c2.priv c2.mem r.sp d.mem safe.memory h)) dev marks))
  compare_end {P = P} t k c2 rest cond false r d i0 i1 le shaped plain tk pc on stack h dev marks safe =
      let to : (P + 2 * (k + 1) + 4) % 65536 ≡ P + 2 * (k + 1 + 2) = omega (arith, t.to, st.below) in
      let r4 = record r { pc = P + 2 * (k + 1 + 2) } in
      goes f st all B _ t k (Jump cond (ahead 2)) i0 (omega arith) shaped plain r d 1 pc safe r4 d.mem (inside t (k + 1 + 2) le)
      (rw (tk, to) refl, refl) (λ s4.
      stood f st all B at c2 r4 d.mem d 1 s4 (sym on) (subst (λ l. MemoryHolds f at c2.back l c2.priv c2.mem r.sp d.mem) (sym stack) h) dev marks)

  -- A comparison of the two upper words: the first is popped and compared, and 0 takes the place of the other.
  compare_leads : (c : Conf) (x y : ℕ) (rest : List ℕ) (cond : ℕ) (b : Bool) → is_shaped (Jump cond (ahead 2)) ≡ true → is_module_word (first_word (Jump cond (ahead 2))) ≡ false
      → ((sr : ℕ) → y < 65536 → x < 65536 → jump_taken cond (flags_of (flags_after op2.Mov 0 0 (flags_after op2.Cmp y x sr))) ≡ not b)
      → L 7 (words_of (comparison (λ n. Jump cond n))) 4 (record c { stack = y ∷ x ∷ rest }) (next c (truth b ∷ rest))
  compare_leads c x y rest cond b shaped plain jumps r d t on sh safe =
      let h = sh.holds in
      let top = h.top in
      let sp = r.sp + 2 in
      let ly : y < 65536 = word_below f st r.sp h.words.0 safe.memory in
      let lx : x < 65536 = word_below f st sp h.words.1.0 safe.memory in
      let p1 = stack_word f st r.sp (length (y ∷ x ∷ rest)) top (omega arith) (omega (arith, h.room)) in
      let p2 = stack_word f st sp (length (x ∷ rest)) (omega arith) (omega arith) (omega (arith, h.room)) in
      let up : (r.sp + 2) % 65536 ≡ sp = omega (arith, p1.high, st.beneath) in
      let up0 : ((r.sp + 2) % 65536 + 0) % 65536 ≡ sp = omega (arith, p2.high, st.beneath) in
      let same : (sp + 0) % 65536 ≡ sp = omega (arith, p2.high, st.beneath) in
      let h1 = holds_pop f st at c.back y (x ∷ rest) c.priv c.mem r.sp d.mem h in
      let h2 = holds_replace f st at c.back x 0 rest c.priv c.mem sp d.mem safe.memory h1 in
      let r1 = record r { pc = at c.place + 4; sp = sp; sr = flags_after op2.Cmp y x r.sr } in
      let r2 = record r1 { pc = at c.place + 8; sr = flags_after op2.Mov 0 0 r1.sr } in
      goes f st all B _ t 0 (cmp (increment asm.sp) (0 ⟨ asm.sp ⟩)) refl (omega arith) refl refl r d 3 (omega (arith, sh.pc)) safe
      r1 d.mem (inside t 2 (omega arith)) (r.sp, refl, p1, y, h.words.0, (sp, up0, p2, x, h.words.1.0, (rw up refl, refl))) (λ s1.
      goes f st all B _ t 2 (clr (0 ⟨ asm.sp ⟩)) refl (omega arith) refl refl r1 d 2 refl s1 r2 (put_cell d.mem sp 0) (inside t 4 (omega arith))
      (sp, same, p2, 0, refl, omega arith, (refl, refl)) (λ s2.
      compare_end t 4 (next c (truth b ∷ rest)) rest cond b r2 (record d { mem = put_cell d.mem sp 0 }) refl refl (omega arith) shaped plain
      (jumps r.sr ly lx) refl on refl h2 sh.devices sh.marks s2))

  pub lt_leads : (c : Conf) (x y : ℕ) (rest : List ℕ) → L 7 (words_of (comparison jc)) 4 (record c { stack = y ∷ x ∷ rest }) (next c (combine binary.Lt x y ∷ rest))
  lt_leads c x y rest = compare_leads c x y rest 3 (nat_lt x y) refl refl (λ sr ly lx.
      carry_of (flags_after op2.Cmp y x sr) _ ∙ elim (cases_lt x y) [
        | inl h ↦ borrow y x sr ly h ∙ sym (ap not (lt-ltb x y h))
        | inr h ↦ no_borrow y x sr ly h ∙ sym (ap not (le-ltb x y h))
      ])

  pub eq_leads : (c : Conf) (x y : ℕ) (rest : List ℕ) → L 7 (words_of (comparison jnz)) 4 (record c { stack = y ∷ x ∷ rest }) (next c (combine binary.Eq x y ∷ rest))
  eq_leads c x y rest = compare_leads c x y rest 0 (x == y) refl refl (λ sr ly lx.
      ap not (zero_of (flags_after op2.Cmp y x sr) _ ∙ elim (cases_eq x y) [
        | inl h ↦ equal y x sr ly h ∙ sym (eq-eqb x y h)
        | inr h ↦ unequal y x sr ly lx h ∙ sym (ne_eqb x y h)
      ]))
