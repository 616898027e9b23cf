-- Operations whose template goes straight on.
use Rattle.sx_tmpl.specs.Template.{operator_words}
use Rattle.sx_ir.specs.declared.ir.IrOp.TheVariants as op
use Rattle.sx_isa.specs.Standing.{words_of}
use Rattle.sx_isa.specs.Assembly.{##◌, &◌, ◌⟨◌⟩, add, increment, pop, push, sp}
use Rattle.sx_tmpl.proofs.Running.Instructions.{goes}
use Rattle.std.proofs.Common.{◌≡◌, ℕ, ◌+◌, ◌-◌, ◌*◌, ◌%◌, ◌<◌, ◌≤◌, List, [], ◌∷◌, length, refl, arith}
use Rattle.sx_image.specs.Reach.{Here}
use Rattle.sx_isa.specs.declared.instruction.Op2.TheVariants as op2
use Rattle.sx_lang.specs.declared.tree.BinOp.TheVariants as binary
use Rattle.sx_mean.specs.Meaning.{combine}
use Rattle.sx_rules.specs.declared.access.Violation.{Violation}
use Rattle.spec_machine.specs.Memory.{word, put_word}
use Rattle.spec_invocation.specs.Marks.{Mark}
use Rattle.sx_image.specs.Watched.{Watched}
use Rattle.sx_ir.specs.Conf.{Conf}
use Rattle.sx_ir.specs.Meaning.{next}
use Rattle.sx_tmpl.specs.Running.{Regs, Fixed, Data, running, Safe}
use Rattle.sx_tmpl.proofs.Running.MidRun.{Stands, Runs, put_cell}
use Rattle.sx_tmpl.specs.Shows.{base_of, IsData, MemoryHolds, ShowsConfiguration, Stood}
use Rattle.sx_tmpl.proofs.Running.Steps.{Text, InText}
use Rattle.sx_tmpl.specs.Unseen.{HoldsNoKey}
use Rattle.sx_tmpl.proofs.Running.Flags.{flags_after}
use Rattle.sx_tmpl.proofs.Running.Holding.{stack_word, data_word, holds_push, holds_pop, holds_replace, holds_store, holds_word, word_below}

pub inside : {f : Fixed} {P n : ℕ} {ws : List ℕ} → Text f P n ws → (k : ℕ) → k ≤ n → InText f (P + 2 * k)
inside t k h = record { from = omega (arith, t.from); to = omega (arith, t.to) }

module _ (f : Fixed) (st : Stands f) (all : List Mark) (B : Watched → Violation → Type 0) (at : ℕ → ℕ) where
  -- these words, at the configuration's place and with the next operation after them, lead within this many instructions
  -- from a node that stands for the one configuration to one that stands for the other
  abbrev pub Leads : ℕ → List ℕ → ℕ → Conf → Conf → Type 0
  Leads n ws count c c2 = (r : Regs) (d : Data) → Text f (at c.place) n ws → at (c.place + 1) ≡ at c.place + 2 * n
      → ShowsConfiguration f at c r d → Safe f all (running f r d) → Runs f all B (Stood f all at c2) count (running f r d)

  pub stood : (c2 : Conf) (r2 : Regs) (m2 : List ℕ) (d : Data) (j : ℕ) → Safe f all (running f r2 (record d { mem = m2 })) → r2.pc ≡ at c2.place
      → MemoryHolds f at c2.back c2.stack c2.priv c2.mem r2.sp m2 → d.devices ≡ c2.devices → d.marks ≡ c2.marks
      → Runs f all B (Stood f all at c2) j (running f r2 (record d { mem = m2 }))
  stood c2 r2 m2 d j safe pc holds devices marks =
      Here (record { regs = r2; rest = record d { mem = m2 }; state = refl; safe = safe; shows = record { pc = pc; holds = holds; devices = devices; marks = marks } })

  pub push_leads : (c : Conf) (x : ℕ) → x < 65536 → length c.stack < 160 → Leads 2 (words_of (push (## x) ∷ [])) 1 c (next c (x ∷ c.stack))
  push_leads c x lt room r d t on sh safe =
      let h = sh.holds in
      let top = h.top in
      let sp = r.sp - 2 in
      let pr = stack_word f st sp (length (x ∷ c.stack)) (omega arith) (omega arith) (omega arith) in
      let down : (r.sp + 65534) % 65536 ≡ sp = omega (arith, st.beneath, st.room) in
      let r2 = record r { pc = at c.place + 4; sp = sp } in
      goes f st all B _ t 0 (push (## x)) refl (omega arith) refl refl r d 0 (omega (arith, sh.pc)) safe
      r2 (put_cell d.mem sp x) (inside t 2 (omega arith)) (sp, down, pr, x, omega arith, lt, (rw down refl, refl)) (λ safe2.
      stood (next c (x ∷ c.stack)) r2 (put_cell d.mem sp x) d 0 safe2 (omega (arith, on)) (holds_push f st at c.back c.stack c.priv c.mem r.sp d.mem sp x safe.memory h (omega arith)
      (omega arith)) sh.devices sh.marks)

  pub load_leads : (c : Conf) (o : ℕ) → o % 2 ≡ 0 → IsData o → HoldsNoKey (length f.setup.ends) o 2 → o + 2 ≤ length c.priv → length c.stack < 160 → Leads 2 (words_of (push (& (base_of f + o)) ∷ [])) 1 c (next c (word c.priv o ∷ c.stack))
  load_leads c o ev i shown fits room r d t on sh safe =
      let h = sh.holds in
      let top = h.top in
      let sp = r.sp - 2 in
      let x = word c.priv o in
      let pr = stack_word f st sp (length (x ∷ c.stack)) (omega arith) (omega arith) (omega arith) in
      let po = data_word f st o shown i.low ev (omega (arith, h.size)) in
      let is = holds_word f st at c.back c.stack c.priv c.mem r.sp d.mem o h ev i fits in
      let down : (r.sp + 65534) % 65536 ≡ sp = omega (arith, st.beneath, st.room) in
      let r2 = record r { pc = at c.place + 4; sp = sp } in
      goes f st all B _ t 0 (push (& (base_of f + o))) refl (omega arith) refl refl r d 0 (omega (arith, sh.pc)) safe
      r2 (put_cell d.mem sp x) (inside t 2 (omega arith))
      (base_of f + o, refl, po, x, is, (sp, down, pr, x, refl, word_below f st (base_of f + o) is safe.memory, (rw down refl, refl))) (λ safe2.
      stood (next c (x ∷ c.stack)) r2 (put_cell d.mem sp x) d 0 safe2 (omega (arith, on)) (holds_push f st at c.back c.stack c.priv c.mem r.sp d.mem sp x safe.memory h (omega arith)
      (omega arith)) sh.devices sh.marks)

  pub store_leads : (c : Conf) (x : ℕ) (rest : List ℕ) (o : ℕ) → o % 2 ≡ 0 → IsData o → HoldsNoKey (length f.setup.ends) o 2 → o + 2 ≤ length c.priv
      → Leads 2 (words_of (pop (& (base_of f + o)) ∷ [])) 1 (record c { stack = x ∷ rest }) (record c { place = c.place + 1; stack = rest; priv = put_word c.priv o x })
  store_leads c x rest o ev i shown fits r d t on sh safe =
      let h = sh.holds in
      let top = h.top in
      let p1 = stack_word f st r.sp (length (x ∷ rest)) top (omega arith) (omega (arith, h.room)) in
      let po = data_word f st o shown i.low ev (omega (arith, h.size)) in
      let up : (r.sp + 2) % 65536 ≡ r.sp + 2 = omega (arith, st.beneath, st.room) in
      let r2 = record r { pc = at c.place + 4; sp = r.sp + 2; sr = flags_after op2.Mov 0 0 r.sr } in
      goes f st all B _ t 0 (pop (& (base_of f + o))) refl (omega arith) refl refl r d 0 (omega (arith, sh.pc)) safe
      r2 (put_cell d.mem (base_of f + o) x) (inside t 2 (omega arith))
      (r.sp, refl, p1, x, h.words.0, (base_of f + o, refl, po, x, refl, word_below f st r.sp h.words.0 safe.memory, (rw up refl, refl))) (λ safe2.
      stood (record c { place = c.place + 1; stack = rest; priv = put_word c.priv o x }) r2 (put_cell d.mem (base_of f + o) x) d 0 safe2 (omega (arith, on))
      (holds_store f st at c.back rest c.priv c.mem (r.sp + 2) d.mem o x safe.memory (holds_pop f st at c.back x rest c.priv c.mem r.sp d.mem h) ev i fits) sh.devices sh.marks)

  pub add_leads : (c : Conf) (x y : ℕ) (rest : List ℕ) → Leads 2 (operator_words op.Add) 1 (record c { stack = y ∷ x ∷ rest }) (next c (combine binary.Add x y ∷ rest))
  add_leads c x y rest r d t on sh safe =
      let h = sh.holds in
      let top = h.top in
      let p1 = stack_word f st r.sp (length (y ∷ x ∷ rest)) top (omega arith) (omega (arith, h.room)) in
      let p2 = stack_word f st (r.sp + 2) (length (x ∷ rest)) (omega arith) (omega arith) (omega (arith, h.room)) in
      let up : (r.sp + 2) % 65536 ≡ r.sp + 2 = omega (arith, st.beneath, st.room) in
      let up0 : ((r.sp + 2) % 65536 + 0) % 65536 ≡ r.sp + 2 = omega (arith, st.beneath, st.room) in
      let z = combine binary.Add x y in
      let r2 = record r { pc = at c.place + 4; sp = r.sp + 2; sr = flags_after op2.Add y x r.sr } in
      goes f st all B _ t 0 (add (increment sp) (0 ⟨ sp ⟩)) refl (omega arith) refl refl r d 0 (omega (arith, sh.pc)) safe
      r2 (put_cell d.mem (r.sp + 2) z) (inside t 2 (omega arith))
      (r.sp, refl, p1, y, h.words.0, (r.sp + 2, up0, p2, x, h.words.1.0, (r.sp + 2, up0, p2, z, omega arith, omega arith, (rw up refl, refl)))) (λ safe2.
      stood (next c (z ∷ rest)) r2 (put_cell d.mem (r.sp + 2) z) d 0 safe2 (omega (arith, on)) (holds_replace f st at c.back x z rest c.priv c.mem (r.sp + 2) d.mem safe.memory
      (holds_pop f st at c.back y (x ∷ rest) c.priv c.mem r.sp d.mem h)) sh.devices sh.marks)
