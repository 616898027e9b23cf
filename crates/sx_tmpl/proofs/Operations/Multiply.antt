-- The product, by a loop of sixteen turns.
use Rattle.sx_isa.specs.Assembly.{##◌, #◌, add, ahead, back, dec, jnc, jnz, pop, push, r12, r13, r14, r15, rla}
use Rattle.sx_tmpl.specs.Template.{multiply_words}
use Rattle.sx_tmpl.proofs.Running.Loading.{loads}
use Rattle.sx_tmpl.proofs.Running.Instructions.{goes}
use Rattle.std.proofs.Common.{◌≡◌, ℕ, zero, suc, ◌+◌, ◌*◌, ◌/◌, ◌%◌, ◌<◌, true, false, List, [], ◌∷◌, length, refl, ◌∙◌, ap, subst, arith}
use Rattle.sx_isa.specs.declared.instruction.Op2.TheVariants as op2
use Rattle.sx_alu.specs.Status.{flags_of}
use Rattle.sx_lang.specs.declared.tree.BinOp.TheVariants as binary
use Rattle.sx_mean.specs.Meaning.{combine}
use Rattle.sx_rules.specs.declared.access.Violation.{Violation}
use Rattle.spec_invocation.specs.Marks.{Mark}
use Rattle.sx_image.specs.Watched.{Watched}
use Rattle.sx_ir.specs.Conf.{Conf}
use Rattle.sx_ir.specs.Meaning.{next}
use Rattle.sx_tmpl.specs.Running.{Regs, Fixed, Data, running, Safe}
use Rattle.sx_tmpl.proofs.Running.MidRun.{Stands, Runs, later, put_cell}
use Rattle.sx_tmpl.proofs.Running.Steps.{Text}
use Rattle.sx_tmpl.proofs.Running.Flags.{flags_stay, carried, not_carried, flags_after, equal, unequal}
use Rattle.sx_tmpl.proofs.Operations.Plain.{inside, Leads, stood}
use Rattle.sx_tmpl.proofs.Running.Holding.{stack_word, holds_pop, holds_replace, word_below}
use Rattle.sx_tmpl.proofs.Operations.Product.{turn, turns, product_is}

module _ (f : Fixed) (st : Stands f) (all : List Mark) (B : Watched → Violation → Type 0) (Q : Watched
    → Type 0) (P : ℕ) (t : Text f P 12 multiply_words) (d : Data) (r0 : Regs) (x : ℕ) (lx : x < 65536) where
  abbrev pub turn_at : ℕ → ℕ → ℕ → ℕ → ℕ → Watched
  turn_at i sr a acc n = running f (record r0 { pc = P + 2 * i; sr = sr; r12 = a; r13 = x; r14 = acc; r15 = n }) d

  abbrev R : ℕ → Watched → Type 0
  R n c = Runs f all B Q n c

  abbrev behind : ℕ → ℕ
  behind zero = 11
  behind (suc n) = 5

  -- one turn's end: the count falls, and a jump leads back unless it is 0
  count_down : (sr a acc n j : ℕ) → n < 65535 → Safe f all (turn_at 9 sr a acc (suc n)) → ((sr : ℕ) → Safe f all (turn_at (behind n) sr a acc n) → R j (turn_at (behind n) sr a acc n))
      → R (suc (suc j)) (turn_at 9 sr a acc (suc n))
  count_down sr a acc zero j lt safe after =
      let sr1 = flags_after op2.Cmp 1 (1 % 65536) sr in
      let z = equal 1 1 sr (omega arith) refl in
      let r = record r0 { pc = P + 18; sr = sr; r12 = a; r13 = x; r14 = acc; r15 = 1 } in
      let r1 = record r { pc = P + 20; sr = sr1; r15 = 0 } in
      goes f st all B Q t 9 (dec r15) refl (omega arith) refl refl r d (suc j) refl safe r1 d.mem (inside t 10 (omega arith)) (refl, refl) (λ s1.
      goes f st all B Q t 10 (jnz (back 6)) refl (omega arith) refl refl r1 d j refl s1 (record r1 { pc = P + 22 }) d.mem (inside t 11 (omega arith))
      (rw z refl, refl) (after sr1))
  count_down sr a acc (suc n) j lt safe after =
      let sr1 = flags_after op2.Cmp 1 (suc (suc n) % 65536) sr in
      let z = unequal 1 (suc (suc n) % 65536) sr (omega arith) (omega arith) (omega arith) in
      let less : (suc (suc n) % 65536 + 65534 + 1) % 65536 ≡ suc n = omega arith in
      let to : (P + 22 + 65524) % 65536 ≡ P + 10 = omega (arith, t.to, st.below) in
      let r = record r0 { pc = P + 18; sr = sr; r12 = a; r13 = x; r14 = acc; r15 = suc (suc n) } in
      let r1 = record r { pc = P + 20; sr = sr1; r15 = suc n } in
      goes f st all B Q t 9 (dec r15) refl (omega arith) refl refl r d (suc j) refl safe r1 d.mem (inside t 10 (omega arith))
      (rw less refl, refl) (λ s1.
      goes f st all B Q t 10 (jnz (back 6)) refl (omega arith) refl refl r1 d j refl s1 (record r1 { pc = P + 10 }) d.mem (inside t 5 (omega arith))
      (rw (z, to) refl, refl) (after sr1))

  -- the bit that left decides whether the other factor is added
  add_or_not : (c sr sr0 s e a acc n j : ℕ) → (e + s) / 65536 ≡ c → sr ≡ flags_after op2.Add s e sr0 → s < 65536 → e < 65536 → acc < 65536 → n < 65535
      → Safe f all (turn_at 7 sr a ((acc + acc) % 65536) (suc n))
      → ((sr : ℕ) → Safe f all (turn_at (behind n) sr a (turn c acc x) n) → R j (turn_at (behind n) sr a (turn c acc x) n)) → R (suc (suc (suc (suc j)))) (turn_at 7 sr a ((acc + acc) % 65536) (suc n))
  add_or_not zero sr sr0 s e a acc n j is isr ls le la lt safe after =
      let dbl = (acc + acc) % 65536 in
      let no_ : (flags_of sr).c ≡ false = ap (λ r. (flags_of r).c) isr ∙ not_carried s e sr0 (omega arith) in
      let to : (P + 16 + 2) % 65536 ≡ P + 18 = omega (arith, t.to, st.below) in
      let r = record r0 { pc = P + 14; sr = sr; r12 = a; r13 = x; r14 = dbl; r15 = suc n } in
      later f all B Q (suc (suc (suc j))) (suc (suc (suc (suc j)))) _ (omega arith)
      (goes f st all B Q t 7 (jnc (ahead 1)) refl (omega arith) refl refl r d (suc (suc j)) refl safe
      (record r { pc = P + 18 }) d.mem (inside t 9 (omega arith)) (rw (no_, to) refl, refl) (λ s1.
      count_down sr a dbl n j lt s1 after))
  add_or_not (suc zero) sr sr0 s e a acc n j is isr ls le la lt safe after =
      let dbl = (acc + acc) % 65536 in
      let yes_ : (flags_of sr).c ≡ true = ap (λ r. (flags_of r).c) isr ∙ carried s e sr0 (omega arith) in
      let sum : (dbl % 65536 + x % 65536 + 0) % 65536 ≡ (dbl + x) % 65536 = omega arith in
      let r = record r0 { pc = P + 14; sr = sr; r12 = a; r13 = x; r14 = dbl; r15 = suc n } in
      let r1 = record r { pc = P + 16 } in
      let sr2 = flags_after op2.Add (x % 65536) (dbl % 65536) sr in
      let r2 = record r { pc = P + 18; sr = sr2; r14 = (dbl + x) % 65536 } in
      goes f st all B Q t 7 (jnc (ahead 1)) refl (omega arith) refl refl r d (suc (suc (suc j))) refl safe r1 d.mem (inside t 8 (omega arith))
      (rw yes_ refl, refl) (λ s1.
      goes f st all B Q t 8 (add r13 r14) refl (omega arith) refl refl r1 d (suc (suc j)) refl s1 r2 d.mem (inside t 9 (omega arith))
      (rw sum refl, refl) (λ s2.
      count_down sr2 a ((dbl + x) % 65536) n j lt s2 after))
  add_or_not (suc (suc c)) sr sr0 s e a acc n j is isr ls le la lt safe after = absurd (omega arith)

  one_turn : (sr a acc n j : ℕ) → n < 65535 → a < 65536 → acc < 65536 → Safe f all (turn_at 5 sr a acc (suc n))
      → ((sr : ℕ) → Safe f all (turn_at (behind n) sr ((a + a) % 65536) (turn ((a + a) / 65536) acc x) n) → R j (turn_at (behind n) sr ((a + a) % 65536) (turn ((a + a) / 65536) acc x) n))
      → R (suc (suc (suc (suc (suc (suc j)))))) (turn_at 5 sr a acc (suc n))
  one_turn sr a acc n j lt la lc safe after =
      let e1 : (acc % 65536 + acc % 65536 + 0) % 65536 ≡ (acc + acc) % 65536 = omega arith in
      let e2 : (a % 65536 + a % 65536 + 0) % 65536 ≡ (a + a) % 65536 = omega arith in
      let sr1 = flags_after op2.Add (acc % 65536) (acc % 65536) sr in
      let sr2 = flags_after op2.Add (a % 65536) (a % 65536) sr1 in
      let r = record r0 { pc = P + 10; sr = sr; r12 = a; r13 = x; r14 = acc; r15 = suc n } in
      let r1 = record r { pc = P + 12; sr = sr1; r14 = (acc + acc) % 65536 } in
      let r2 = record r1 { pc = P + 14; sr = sr2; r12 = (a + a) % 65536 } in
      goes f st all B Q t 5 (rla r14) refl (omega arith) refl refl r d (suc (suc (suc (suc (suc j))))) refl safe r1 d.mem (inside t 6 (omega arith))
      (rw e1 refl, refl) (λ s1.
      goes f st all B Q t 6 (rla r12) refl (omega arith) refl refl r1 d (suc (suc (suc (suc j)))) refl s1 r2 d.mem (inside t 7 (omega arith))
      (rw e2 refl, refl) (λ s2.
      add_or_not ((a + a) / 65536) sr2 sr1 (a % 65536) (a % 65536) ((a + a) % 65536) acc n j (omega arith) refl (omega arith) (omega arith) lc lt s2 after))

  turn_lt : (c acc : ℕ) → turn c acc x < 65536
  turn_lt zero acc = omega arith
  turn_lt (suc c) acc = omega arith

  pub all_turns : (n sr a acc j : ℕ) → n < 65535 → a < 65536 → acc < 65536 → Safe f all (turn_at 5 sr a acc (suc n))
      → ((sr a2 : ℕ) → Safe f all (turn_at 11 sr a2 (turns (suc n) a acc x) 0) → R j (turn_at 11 sr a2 (turns (suc n) a acc x) 0)) → R (6 * suc n + j) (turn_at 5 sr a acc (suc n))
  all_turns zero sr a acc j lt la lc safe after =
      subst (λ n. R n (turn_at 5 sr a acc 1)) (omega arith) (one_turn sr a acc 0 j lt la lc safe (λ sr. after sr ((a + a) % 65536)))
  all_turns (suc n) sr a acc j lt la lc safe after =
      subst (λ j. R j (turn_at 5 sr a acc (suc (suc n)))) (omega arith)
      (one_turn sr a acc (suc n) (6 * suc n + j) lt la lc safe (λ sr2 s2. all_turns n sr2 ((a + a) % 65536) (turn ((a + a) / 65536) acc x) j (omega arith) (omega arith)
      (turn_lt ((a + a) / 65536) acc) s2 after))

module _ (f : Fixed) (st : Stands f) (all : List Mark) (B : Watched → Violation → Type 0) (at : ℕ → ℕ) where
  pub mul_leads : (c : Conf) (x y : ℕ) (rest : List ℕ) → Leads f st all B at 12 multiply_words 101 (record c { stack = y ∷ x ∷ rest }) (next c (combine binary.Mul x y ∷ rest))
  mul_leads c x y rest r d t on sh safe =
      let h = sh.holds in
      let top = h.top in
      let ly : y < 65536 = word_below f st r.sp h.words.0 safe.memory in
      let lx : x < 65536 = word_below f st (r.sp + 2) h.words.1.0 safe.memory in
      let p1 = stack_word f st r.sp (length (y ∷ x ∷ rest)) top (omega arith) (omega (arith, h.room)) in
      let p2 = stack_word f st (r.sp + 2) (length (x ∷ rest)) (omega arith) (omega arith) (omega (arith, h.room)) in
      let up : (r.sp + 2) % 65536 ≡ r.sp + 2 = omega (arith, p1.high, st.beneath) in
      let up2 : (r.sp + 2 + 2) % 65536 ≡ r.sp + 4 = omega (arith, p2.high, st.beneath) in
      let down : (r.sp + 4 + 65534) % 65536 ≡ r.sp + 2 = omega (arith, p2.high, st.beneath) in
      let stay = flags_stay r.sr in
      let z = combine binary.Mul x y in
      let r1 = record r { pc = at c.place + 2; sp = r.sp + 2; r12 = y } in
      let r2 = record r1 { pc = at c.place + 4; sp = r.sp + 4; r13 = x } in
      let r4 = record r2 { pc = at c.place + 10; r14 = 0; r15 = 16 } in
      let h1 = holds_pop f st at c.back y (x ∷ rest) c.priv c.mem r.sp d.mem h in
      goes f st all B _ t 0 (pop r12) refl (omega arith) refl refl r d 100 (omega (arith, sh.pc)) safe r1 d.mem (inside t 1 (omega arith))
      (r.sp, refl, p1, y, h.words.0, (rw (up, stay) refl, refl)) (λ s1.
      goes f st all B _ t 1 (pop r13) refl (omega arith) refl refl r1 d 99 refl s1 r2 d.mem (inside t 2 (omega arith))
      (r.sp + 2, refl, p2, x, h.words.1.0, (rw (up2, stay) refl, refl)) (λ s2.
      loads f st all B _ t 2 ((# 0, 14) ∷ (## 16, 15) ∷ []) refl (omega arith) refl (omega arith, (omega arith, tt)) r2 d 97 r2.pc refl s2 (λ s4.
      all_turns f st all B _ (at c.place) t d r4 x lx 15 r.sr y 0 1 (omega arith) ly (omega arith) s4 (λ sr a2 s5.
      let v = turns 16 y 0 x in
      let is : v ≡ z = product_is y x ly in
      let cut : v % 65536 ≡ z = omega arith in
      let r5 = record r4 { pc = at c.place + 22; sr = sr; r12 = a2; r13 = x; r14 = v; r15 = 0 } in
      let r6 = record r5 { pc = at c.place + 24; sp = r.sp + 2 } in
      goes f st all B _ t 11 (push r14) refl (omega arith) refl refl r5 d 0 refl s5 r6 (put_cell d.mem (r.sp + 2) z) (inside t 12 (omega arith))
      (r.sp + 2, down, p2, z, cut, omega arith, (rw down refl, refl)) (λ s6.
      stood f st all B at (next c (z ∷ rest)) r6 (put_cell d.mem (r.sp + 2) z) d 0 s6 (omega (arith, on))
      (holds_replace f st at c.back x z rest c.priv c.mem (r.sp + 2) d.mem safe.memory h1) sh.devices sh.marks)))))
