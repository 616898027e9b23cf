-- Elements of arrays, by an index at run time.
use Rattle.sx_tmpl.specs.Template.{load_at_words, store_at_words}
use Rattle.sx_isa.specs.Assembly.{##◌, #◌, ahead, cmp, jc, jmp, jnc, mov, pop, push, r12, r13, rla, sp, ◌⟨◌⟩}
use Rattle.sx_tmpl.proofs.Running.Instructions.{goes}
use Rattle.std.proofs.Common.{◌≡◌, ℕ, suc, ◌+◌, ◌*◌, ◌%◌, ◌<◌, ◌≤◌, ◌⊎◌, inl, inr, cond, List, ◌∷◌, length, refl, sym, ap, subst, arith}
use Rattle.sx_isa.specs.declared.instruction.Op2.TheVariants as op2
use Rattle.sx_rules.specs.declared.access.Violation.{Violation}
use Rattle.spec_machine.specs.Memory.{word, put_word}
use Rattle.spec_invocation.specs.Marks.{Mark}
use Rattle.sx_image.specs.Watched.{Watched}
use Rattle.sx_ir.specs.Conf.{Conf}
use Rattle.sx_ir.specs.Meaning.{next, element, with_element}
use Rattle.sx_tmpl.specs.Running.{Regs, Fixed, Data, running, Safe}
use Rattle.sx_tmpl.proofs.Running.MidRun.{Stands, Runs, put_cell}
use Rattle.sx_tmpl.specs.Shows.{base_of, IsData, MemoryHolds, ShowsConfiguration}
use Rattle.sx_tmpl.proofs.Running.Steps.{Text}
use Rattle.sx_tmpl.specs.Unseen.{HoldsNoKey}
use Rattle.sx_tmpl.proofs.Running.Flags.{flags_after, no_borrow, borrow}
use Rattle.std.proofs.lemmas.Bool.{cases_lt, lt-ltb, le-ltb}
use Rattle.sx_tmpl.proofs.Operations.Plain.{inside, Leads, stood}
use Rattle.sx_tmpl.proofs.Running.Holding.{stack_word, data_word, holds_push, holds_pop, holds_store, holds_word, word_below}

-- an array of the data: its offset and length in words
pub record IsArray (o n size : ℕ) : Type 0 where
  pub is_even : o % 2 ≡ 0
  pub low : 2 ≤ o
  pub beside : (o + 2 * n ≤ 104) ⊎ (512 ≤ o)
  pub fits : o + 2 * n ≤ size

element_data : (o n size i : ℕ) → IsArray o n size → i < n → IsData (o + 2 * i)
element_data o n size i a lt = record { low = omega (arith, a.low); beside = elim (a.beside) [ inl p ↦ inl (omega arith) | inr p ↦ inr (omega arith) ] }

module _ (f : Fixed) (st : Stands f) (all : List Mark) (B : Watched → Violation → Type 0) (at : ℕ → ℕ) where
  abbrev L : ℕ → List ℕ → ℕ → Conf → Conf → Type 0
  L n ws count c c2 = Leads f st all B at n ws count c c2

  abbrev load_words : ℕ → ℕ → List ℕ
  load_words o n = load_at_words (base_of f + o) n

  -- the index is popped and compared
  load_begins : (Q : Watched → Type 0) (c : Conf) (o n i k : ℕ) (rest : List ℕ) (r : Regs) (d : Data) → Text f (at c.place) 9 (load_words o n)
      → ShowsConfiguration f at (record c { stack = i ∷ rest }) r d → Safe f all (running f r d)
      → (let r2 = record r { pc = at c.place + 6; sp = r.sp + 2; r12 = i; sr = flags_after op2.Cmp (n % 65536) (i % 65536) (flags_after op2.Mov 0 0 r.sr) } in
      Safe f all (running f r2 d) → Runs f all B Q k (running f r2 d)) → Runs f all B Q (suc (suc k)) (running f r d)
  load_begins Q c o n i k rest r d t sh safe after =
      let h = sh.holds in
      let p1 = stack_word f st r.sp (length (i ∷ rest)) h.top (omega arith) (omega (arith, h.room)) in
      let up : (r.sp + 2) % 65536 ≡ r.sp + 2 = omega (arith, p1.high, st.beneath) in
      let r1 = record r { pc = at c.place + 2; sp = r.sp + 2; r12 = i; sr = flags_after op2.Mov 0 0 r.sr } in
      let r2 = record r1 { pc = at c.place + 6; sr = flags_after op2.Cmp (n % 65536) (i % 65536) r1.sr } in
      goes f st all B Q t 0 (pop r12) refl (omega arith) refl refl r d (suc k) (omega (arith, sh.pc)) safe r1 d.mem (inside t 1 (omega arith))
      (r.sp, refl, p1, i, h.words.0, (rw up refl, refl)) (λ s1.
      goes f st all B Q t 1 (cmp (## n) r12) refl (omega arith) refl refl r1 d k refl s1 r2 d.mem (inside t 3 (omega arith)) (refl, refl) after)

  -- an element that is there
  load_element : (c : Conf) (o n i : ℕ) (rest : List ℕ) → n < 65536 → IsArray o n (length c.priv) → HoldsNoKey (length f.setup.ends) (o + 2 * i) 2 → i < n
      → L 9 (load_words o n) 5 (record c { stack = i ∷ rest }) (next c (word c.priv (o + 2 * i) ∷ rest))
  load_element c o n i rest ln a shown lt r d t on sh safe =
      let h = sh.holds in
      let top = h.top in
      let sz = h.size in
      let fits = a.fits in
      let beneath = st.beneath in
      let below = st.below in
      let even = a.is_even in
      let sp = r.sp + 2 in
      let p1 = stack_word f st r.sp (length (i ∷ rest)) h.top (omega arith) (omega (arith, h.room)) in
      let dat = element_data o n (length c.priv) i a lt in
      let po = data_word f st (o + 2 * i) shown dat.low (omega arith) (omega arith) in
      let v = word c.priv (o + 2 * i) in
      let is = holds_word f st at c.back (i ∷ rest) c.priv c.mem r.sp d.mem (o + 2 * i) h (omega arith) dat (omega arith) in
      let lv = word_below f st (base_of f + (o + 2 * i)) is safe.memory in
      let down : (sp + 65534) % 65536 ≡ r.sp = omega (arith, p1.high) in
      let sr2 = flags_after op2.Cmp (n % 65536) (i % 65536) (flags_after op2.Mov 0 0 r.sr) in
      let j = borrow (n % 65536) (i % 65536) (flags_after op2.Mov 0 0 r.sr) (omega arith) (omega arith) in
      let twice : (i % 65536 + i % 65536 + 0) % 65536 ≡ 2 * i = omega arith in
      let place : (2 * i + (base_of f + o)) % 65536 ≡ base_of f + (o + 2 * i) = omega arith in
      let to : (at c.place + 8 + 4) % 65536 ≡ at c.place + 12 = omega (arith, t.to) in
      let m5 = put_cell d.mem r.sp v in
      let h1 = holds_pop f st at c.back i rest c.priv c.mem r.sp d.mem h in
      let r2 = record r { pc = at c.place + 6; sp = sp; r12 = i; sr = sr2 } in
      let r3 = record r2 { pc = at c.place + 12 } in
      let r4 = record r3 { pc = at c.place + 14; r12 = 2 * i; sr = flags_after op2.Add (i % 65536) (i % 65536) sr2 } in
      let r5 = record r4 { pc = at c.place + 18; sp = r.sp } in
      load_begins _ c o n i 3 rest r d t sh safe (λ s2.
      goes f st all B _ t 3 (jnc (ahead 2)) refl (omega arith) refl refl r2 d 2 refl s2 r3 d.mem (inside t 6 (omega arith))
      (rw (j, to) refl, refl) (λ s3.
      goes f st all B _ t 6 (rla r12) refl (omega arith) refl refl r3 d 1 refl s3 r4 d.mem (inside t 7 (omega arith)) (rw twice refl, refl) (λ s4.
      goes f st all B _ t 7 (push ((base_of f + o) ⟨ r12 ⟩)) refl (omega arith) refl refl r4 d 0 refl s4 r5 m5 (inside t 9 (omega arith))
      (base_of f + (o + 2 * i), place, po, v, is, (r.sp, down, p1, v, refl, lv, (rw down refl, refl))) (λ s5.
      stood f st all B at (next c (v ∷ rest)) r5 m5 d 0 s5 (omega (arith, on)) (holds_push f st at c.back rest c.priv c.mem sp d.mem r.sp v safe.memory h1 refl
      (omega (arith, h.room))) sh.devices sh.marks))))

  -- past the end
  load_past : (c : Conf) (o n i : ℕ) (rest : List ℕ) → n < 65536 → n ≤ i → L 9 (load_words o n) 5 (record c { stack = i ∷ rest }) (next c (0 ∷ rest))
  load_past c o n i rest ln ge r d t on sh safe =
      let h = sh.holds in
      let top = h.top in
      let below = st.below in
      let li : i < 65536 = word_below f st r.sp h.words.0 safe.memory in
      let sp = r.sp + 2 in
      let p1 = stack_word f st r.sp (length (i ∷ rest)) h.top (omega arith) (omega (arith, h.room)) in
      let down : (sp + 65534) % 65536 ≡ r.sp = omega (arith, p1.high, st.beneath) in
      let sr2 = flags_after op2.Cmp (n % 65536) (i % 65536) (flags_after op2.Mov 0 0 r.sr) in
      let j = no_borrow (n % 65536) (i % 65536) (flags_after op2.Mov 0 0 r.sr) (omega arith) (omega arith) in
      let to : (at c.place + 12 + 6) % 65536 ≡ at c.place + 18 = omega (arith, t.to) in
      let h1 = holds_pop f st at c.back i rest c.priv c.mem r.sp d.mem h in
      let r2 = record r { pc = at c.place + 6; sp = sp; r12 = i; sr = sr2 } in
      let m4 = put_cell d.mem r.sp 0 in
      let r3 = record r2 { pc = at c.place + 8 } in
      let r4 = record r3 { pc = at c.place + 10; sp = r.sp } in
      let r5 = record r4 { pc = at c.place + 18 } in
      load_begins _ c o n i 3 rest r d t sh safe (λ s2.
      goes f st all B _ t 3 (jnc (ahead 2)) refl (omega arith) refl refl r2 d 2 refl s2 r3 d.mem (inside t 4 (omega arith)) (rw j refl, refl) (λ s3.
      goes f st all B _ t 4 (push (# 0)) refl (omega arith) refl refl r3 d 1 refl s3 r4 m4 (inside t 5 (omega arith))
      (r.sp, down, p1, 0, refl, omega arith, (rw down refl, refl)) (λ s4.
      goes f st all B _ t 5 (jmp (ahead 3)) refl (omega arith) refl refl r4 (record d { mem = m4 }) 0 refl s4 r5 m4 (inside t 9 (omega arith))
      (rw to refl, refl) (λ s5.
      stood f st all B at (next c (0 ∷ rest)) r5 m4 d 0 s5 (omega (arith, on)) (holds_push f st at c.back rest c.priv c.mem sp d.mem r.sp 0 safe.memory h1 refl
      (omega (arith, h.room))) sh.devices sh.marks))))

  pub load_at_leads : (c : Conf) (o n i : ℕ) (rest : List ℕ) → n < 65536 → IsArray o n (length c.priv) → (i < n → HoldsNoKey (length f.setup.ends) (o + 2 * i) 2) → L 9 (load_words o n) 5 (record c { stack = i ∷ rest }) (next c (element c.priv o n i ∷ rest))
  load_at_leads c o n i rest ln a shown = elim (cases_lt i n) [
    | inl h ↦ subst (λ v. L 9 (load_words o n) 5 (record c { stack = i ∷ rest }) (next c (v ∷ rest))) (sym (ap (λ b. cond b (word c.priv (o + 2 * i)) 0) (lt-ltb i n h)))
        (load_element c o n i rest ln a (shown h) h)
    | inr h ↦ subst (λ v. L 9 (load_words o n) 5 (record c { stack = i ∷ rest }) (next c (v ∷ rest))) (sym (ap (λ b. cond b (word c.priv (o + 2 * i)) 0) (le-ltb i n h))) (load_past c o n i rest ln h)
  ]

  abbrev store_words : ℕ → ℕ → List ℕ
  store_words o n = store_at_words (base_of f + o) n

  store_begins : (Q : Watched → Type 0) (c : Conf) (o n i v k : ℕ) (rest : List ℕ) (r : Regs) (d : Data) → Text f (at c.place) 8 (store_words o n)
      → ShowsConfiguration f at (record c { stack = v ∷ i ∷ rest }) r d → Safe f all (running f r d)
      → (let r3 = record r { pc = at c.place + 8; sp = r.sp + 4; r12 = i; r13 = v; sr = flags_after op2.Cmp (n % 65536) (i % 65536) (flags_after op2.Mov 0 0 (flags_after op2.Mov 0 0 r.sr)) } in
      Safe f all (running f r3 d) → Runs f all B Q k (running f r3 d)) → Runs f all B Q (suc (suc (suc k))) (running f r d)
  store_begins Q c o n i v k rest r d t sh safe after =
      let h = sh.holds in
      let top = h.top in
      let p1 = stack_word f st r.sp (length (v ∷ i ∷ rest)) h.top (omega arith) (omega (arith, h.room)) in
      let p2 = stack_word f st (r.sp + 2) (length (i ∷ rest)) (omega arith) (omega arith) (omega (arith, h.room)) in
      let up : (r.sp + 2) % 65536 ≡ r.sp + 2 = omega (arith, p1.high, st.beneath) in
      let up2 : (r.sp + 2 + 2) % 65536 ≡ r.sp + 4 = omega (arith, p2.high, st.beneath) in
      let r1 = record r { pc = at c.place + 2; sp = r.sp + 2; r13 = v; sr = flags_after op2.Mov 0 0 r.sr } in
      let r2 = record r1 { pc = at c.place + 4; sp = r.sp + 4; r12 = i; sr = flags_after op2.Mov 0 0 r1.sr } in
      let r3 = record r2 { pc = at c.place + 8; sr = flags_after op2.Cmp (n % 65536) (i % 65536) r2.sr } in
      goes f st all B Q t 0 (pop r13) refl (omega arith) refl refl r d (suc (suc k)) (omega (arith, sh.pc)) safe r1 d.mem (inside t 1 (omega arith))
      (r.sp, refl, p1, v, h.words.0, (rw up refl, refl)) (λ s1.
      goes f st all B Q t 1 (pop r12) refl (omega arith) refl refl r1 d (suc k) refl s1 r2 d.mem (inside t 2 (omega arith))
      (r.sp + 2, refl, p2, i, h.words.1.0, (rw up2 refl, refl)) (λ s2.
      goes f st all B Q t 2 (cmp (## n) r12) refl (omega arith) refl refl r2 d k refl s2 r3 d.mem (inside t 4 (omega arith)) (refl, refl) after))

  popped_twice : (c : Conf) (v i sp : ℕ) (rest m : List ℕ) → MemoryHolds f at c.back (v ∷ i ∷ rest) c.priv c.mem sp m → MemoryHolds f at c.back rest c.priv c.mem (sp + 4) m
  popped_twice c v i sp rest m h =
      subst (λ s. MemoryHolds f at c.back rest c.priv c.mem s m) (omega arith) (holds_pop f st at c.back i rest c.priv c.mem (sp + 2) m (holds_pop f st at c.back v (i ∷ rest) c.priv c.mem sp m h))

  store_element : (c : Conf) (o n i v : ℕ) (rest : List ℕ) → n < 65536 → IsArray o n (length c.priv) → HoldsNoKey (length f.setup.ends) (o + 2 * i) 2 → i < n
      → L 8 (store_words o n) 6 (record c { stack = v ∷ i ∷ rest }) (record c { place = c.place + 1; stack = rest; priv = put_word c.priv (o + 2 * i) v })
  store_element c o n i v rest ln a shown lt r d t on sh safe =
      let h = sh.holds in
      let top = h.top in
      let sz = h.size in
      let fits = a.fits in
      let beneath = st.beneath in
      let even = a.is_even in
      let lv : v < 65536 = word_below f st r.sp h.words.0 safe.memory in
      let dat = element_data o n (length c.priv) i a lt in
      let po = data_word f st (o + 2 * i) shown dat.low (omega arith) (omega arith) in
      let sr3 = flags_after op2.Cmp (n % 65536) (i % 65536) (flags_after op2.Mov 0 0 (flags_after op2.Mov 0 0 r.sr)) in
      let j = borrow (n % 65536) (i % 65536) (flags_after op2.Mov 0 0 (flags_after op2.Mov 0 0 r.sr)) (omega arith) (omega arith) in
      let twice : (i % 65536 + i % 65536 + 0) % 65536 ≡ 2 * i = omega arith in
      let place : (2 * i + (base_of f + o)) % 65536 ≡ base_of f + (o + 2 * i) = omega arith in
      let r3 = record r { pc = at c.place + 8; sp = r.sp + 4; r12 = i; r13 = v; sr = sr3 } in
      let r4 = record r3 { pc = at c.place + 10 } in
      let r5 = record r4 { pc = at c.place + 12; r12 = 2 * i; sr = flags_after op2.Add (i % 65536) (i % 65536) sr3 } in
      let r6 = record r5 { pc = at c.place + 16; sr = flags_after op2.Mov 0 0 r5.sr } in
      store_begins _ c o n i v 3 rest r d t sh safe (λ s3.
      goes f st all B _ t 4 (jc (ahead 3)) refl (omega arith) refl refl r3 d 2 refl s3 r4 d.mem (inside t 5 (omega arith)) (rw j refl, refl) (λ s4.
      goes f st all B _ t 5 (rla r12) refl (omega arith) refl refl r4 d 1 refl s4 r5 d.mem (inside t 6 (omega arith)) (rw twice refl, refl) (λ s5.
      goes f st all B _ t 6 (mov r13 ((base_of f + o) ⟨ r12 ⟩)) refl (omega arith) refl refl r5 d 0 refl s5
      r6 (put_cell d.mem (base_of f + (o + 2 * i)) v) (inside t 8 (omega arith))
      (base_of f + (o + 2 * i), place, po, v, omega arith, lv, (refl, refl)) (λ s6.
      stood f st all B at (record c { place = c.place + 1; stack = rest; priv = put_word c.priv (o + 2 * i) v }) r6 (put_cell d.mem (base_of f + (o + 2 * i)) v) d 0 s6
      (omega (arith, on))
      (holds_store f st at c.back rest c.priv c.mem (r.sp + 4) d.mem (o + 2 * i) v safe.memory (popped_twice c v i r.sp rest d.mem h) (omega arith) dat
      (omega arith)) sh.devices sh.marks))))

  store_past : (c : Conf) (o n i v : ℕ) (rest : List ℕ) → n < 65536 → n ≤ i → L 8 (store_words o n) 6 (record c { stack = v ∷ i ∷ rest }) (next c rest)
  store_past c o n i v rest ln ge r d t on sh safe =
      let h = sh.holds in
      let below = st.below in
      let li : i < 65536 = word_below f st (r.sp + 2) h.words.1.0 safe.memory in
      let sr3 = flags_after op2.Cmp (n % 65536) (i % 65536) (flags_after op2.Mov 0 0 (flags_after op2.Mov 0 0 r.sr)) in
      let j = no_borrow (n % 65536) (i % 65536) (flags_after op2.Mov 0 0 (flags_after op2.Mov 0 0 r.sr)) (omega arith) (omega arith) in
      let to : (at c.place + 10 + 6) % 65536 ≡ at c.place + 16 = omega (arith, t.to) in
      let r3 = record r { pc = at c.place + 8; sp = r.sp + 4; r12 = i; r13 = v; sr = sr3 } in
      let r4 = record r3 { pc = at c.place + 16 } in
      store_begins _ c o n i v 3 rest r d t sh safe (λ s3.
      goes f st all B _ t 4 (jc (ahead 3)) refl (omega arith) refl refl r3 d 2 refl s3 r4 d.mem (inside t 8 (omega arith))
      (rw (j, to) refl, refl) (λ s4.
      stood f st all B at (next c rest) r4 d.mem d 2 s4 (omega (arith, on)) (popped_twice c v i r.sp rest d.mem h) sh.devices sh.marks))

  pub store_at_leads : (c : Conf) (o n i v : ℕ) (rest : List ℕ) → n < 65536 → IsArray o n (length c.priv) → (i < n → HoldsNoKey (length f.setup.ends) (o + 2 * i) 2)
      → L 8 (store_words o n) 6 (record c { stack = v ∷ i ∷ rest }) (record c { place = c.place + 1; stack = rest; priv = with_element c.priv o n i v })
  store_at_leads c o n i v rest ln a shown = elim (cases_lt i n) [
    | inl h ↦ subst (λ p. L 8 (store_words o n) 6 (record c { stack = v ∷ i ∷ rest }) (record c { place = c.place + 1; stack = rest; priv = p }))
        (sym (ap (λ b. cond b (put_word c.priv (o + 2 * i) v) c.priv) (lt-ltb i n h))) (store_element c o n i v rest ln a (shown h) h)
    | inr h ↦ subst (λ p. L 8 (store_words o n) 6 (record c { stack = v ∷ i ∷ rest }) (record c { place = c.place + 1; stack = rest; priv = p }))
        (sym (ap (λ b. cond b (put_word c.priv (o + 2 * i) v) c.priv) (le-ltb i n h))) (store_past c o n i v rest ln h)
  ]
