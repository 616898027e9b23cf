-- The test of a window.
use Rattle.sx_tmpl.specs.Template as templates
use Rattle.sx_isa.specs.Assembly.{##◌, #◌, &◌, ahead, cmp, jc, jmp, jnc, mov, push, r12}
use Rattle.sx_tmpl.proofs.Running.Instructions.{goes}
use Rattle.std.proofs.Common.{◌≡◌, ℕ, suc, ◌+◌, ◌-◌, ◌%◌, ◌<◌, ◌≤◌, inl, inr, Bool, true, false, ◌&&◌, nat_lt, nat_lt, List, ◌∷◌, length, refl, sym, subst, arith}
use Rattle.sx_isa.specs.declared.instruction.Op2.TheVariants as op2
use Rattle.sx_rules.specs.declared.access.Violation.{Violation}
use Rattle.std.proofs.lemmas.Bool.{or_right, and_from, or_left, cases_lt, lt-ltb, le-ltb, and_right}
use Rattle.sx_ir.specs.Meaning.{saved, next}
use Rattle.spec_machine.specs.Ranges.{passes_end}
use Rattle.spec_invocation.specs.Windows.{is_bad_window}
use Rattle.sx_mean.specs.Working as working
use Rattle.sx_tmpl.proofs.Running.Flags.{flags_stay, flags_after, no_borrow, borrow}
use Rattle.spec_invocation.specs.Marks.{Mark}
use Rattle.sx_image.specs.Watched.{Watched}
use Rattle.sx_ir.specs.Conf.{Conf}
use Rattle.sx_tmpl.specs.Running.{Regs, Fixed, running, Safe}
use Rattle.sx_tmpl.proofs.Running.MidRun.{Stands, Runs, put_cell}
use Rattle.sx_tmpl.specs.Shows.{base_of, MemoryHolds, Stood}
use Rattle.std.specs.Prelude.{nat_lt}
use Rattle.sx_tmpl.proofs.Operations.Plain.{inside, Leads, stood}
use Rattle.sx_tmpl.proofs.Running.Holding.{low_shown, stack_word, data_word, holds_push, holds_word, word_below}
use Rattle.lemmas.specs.Truth.{truth}

abbrev pub meets_words : Fixed → ℕ → ℕ → List ℕ
meets_words f r n =
    templates.meets_words (base_of f + working.saved_at r) f.setup.section.layout.priv_from f.setup.section.layout.priv_to n

-- how the three comparisons decide
bad_end : (f : Fixed) (x n : ℕ) → 65537 - n ≤ x → n < 65536 → is_bad_window f.setup x n ≡ true
bad_end f x n h lt = or_left (passes_end x n) _ (lt-ltb 65536 (x + n) (omega arith))

good_above : (f : Fixed) (x n : ℕ) → x < 65537 - n → n < 65536 → f.setup.section.layout.priv_to ≤ x → is_bad_window f.setup x n ≡ false
good_above f x n h lt g =
    let e1 : passes_end x n ≡ false = le-ltb 65536 (x + n) (omega arith) in
    let e2 : nat_lt x f.setup.section.layout.priv_to ≡ false = le-ltb x f.setup.section.layout.priv_to g in
    rw (e1, e2) (and_right (nat_lt 0 n) false refl)

good_below : (f : Fixed) (x n : ℕ) → x < 65537 - n → n < 65536 → x < f.setup.section.layout.priv_from + 1 - n → is_bad_window f.setup x n ≡ false
good_below f x n h lt g =
    let e1 : passes_end x n ≡ false = le-ltb 65536 (x + n) (omega arith) in
    let e2 : nat_lt f.setup.section.layout.priv_from (x + n) ≡ false = le-ltb f.setup.section.layout.priv_from (x + n) (omega arith) in
    rw (e1, e2) (and_right (nat_lt 0 n) (nat_lt x f.setup.section.layout.priv_to && false) (and_right (nat_lt x f.setup.section.layout.priv_to) false refl))

bad_inside : (f : Fixed) (x n : ℕ) → 0 < n → x < f.setup.section.layout.priv_to → f.setup.section.layout.priv_from + 1 - n ≤ x → is_bad_window f.setup x n ≡ true
bad_inside f x n some h g = or_right (passes_end x n) _
    (and_from _ _ (lt-ltb 0 n some) (and_from _ _ (lt-ltb x f.setup.section.layout.priv_to h) (lt-ltb f.setup.section.layout.priv_from (x + n) (omega arith))))

module _ (f : Fixed) (st : Stands f) (all : List Mark) (B : Watched → Violation → Type 0) (at : ℕ → ℕ) where
  pub meets_leads : (c : Conf) (q n : ℕ) → 12 ≤ q → q ≤ 15 → 2 ≤ n → n < 65536 → length c.stack < 160
      → Leads f st all B at 14 (meets_words f q n) 9 c (next c (truth (is_bad_window f.setup (saved c q) n) ∷ c.stack))
  meets_leads c q n lo hi some small room r d t on sh safe =
      let h = sh.holds in
      let l = f.setup.section.layout in
      let x = saved c q in
      let lim = st.below in
      let beneath = st.beneath in
      let o = working.saved_at q in
      let po = data_word f st o (low_shown _ o 2 (omega arith)) (omega arith) (omega arith) (omega (arith, st.room)) in
      let is = holds_word f st at c.back c.stack c.priv c.mem r.sp d.mem o h (omega arith) (record { low = omega arith; beside = inl (omega arith) }) (let z = h.size in let y = st.room in
      omega arith) in
      let lx : x < 65536 = word_below f st (base_of f + o) is safe.memory in
      let k1 = 65537 - n in
      let k3 = l.priv_from + 1 - n in
      let lf : l.priv_from < 65536 = omega (arith, st.room) in
      let sr1 = flags_after op2.Cmp (k1 % 65536) (x % 65536) r.sr in
      let sr2 = flags_after op2.Cmp (l.priv_to % 65536) (x % 65536) sr1 in
      let sr3 = flags_after op2.Cmp (k3 % 65536) (x % 65536) sr2 in
      let r1 = record r { pc = at c.place + 4; r12 = x } in
      let r2 = record r1 { pc = at c.place + 8; sr = sr1 } in
      let r3 = record r2 { pc = at c.place + 10 } in
      let r4 = record r3 { pc = at c.place + 14; sr = sr2 } in
      let r5 = record r4 { pc = at c.place + 16 } in
      let r6 = record r5 { pc = at c.place + 20; sr = sr3 } in
      let t1 : (at c.place + 10 + 12) % 65536 ≡ at c.place + 22 = omega (arith, t.to) in
      let t2 : (at c.place + 16 + 10) % 65536 ≡ at c.place + 26 = omega (arith, t.to) in
      let t3 : (at c.place + 22 + 4) % 65536 ≡ at c.place + 26 = omega (arith, t.to) in
      goes f st all B _ t 0 (mov (& (base_of f + o)) r12) refl (omega arith) refl refl r d 8 (omega (arith, sh.pc)) safe
      r1 d.mem (inside t 2 (omega arith)) (base_of f + o, refl, po, x, is, (rw (flags_stay r.sr) refl, refl)) (λ s1.
      goes f st all B _ t 2 (cmp (## k1) r12) refl (omega arith) refl refl r1 d 7 refl s1 r2 d.mem (inside t 4 (omega arith)) (refl, refl) (λ s2.
      elim (cases_lt x k1) [
        | inr ge ↦
            goes f st all B _ t 4 (jc (ahead 6)) refl (omega arith) refl refl r2 d 6 refl s2
            (record r2 { pc = at c.place + 22 }) d.mem (inside t 11 (omega arith))
            (rw (no_borrow (k1 % 65536) (x % 65536) r.sr (omega arith) (omega arith), t1) refl, refl) (λ s3.
            ending true (bad_end f x n ge small) (record r2 { pc = at c.place + 22 }) 4 refl refl s3)
        | inl lt1 ↦
            goes f st all B _ t 4 (jc (ahead 6)) refl (omega arith) refl refl r2 d 6 refl s2 r3 d.mem (inside t 5 (omega arith))
            (rw (borrow (k1 % 65536) (x % 65536) r.sr (omega arith) (omega arith)) refl, refl) (λ s3.
            goes f st all B _ t 5 (cmp (## l.priv_to) r12) refl (omega arith) refl refl r3 d 5 refl s3 r4 d.mem (inside t 7 (omega arith))
            (refl, refl) (λ s4.
            elim (cases_lt x l.priv_to) [
              | inr ge2 ↦
                  goes f st all B _ t 7 (jc (ahead 5)) refl (omega arith) refl refl r4 d 4 refl s4
                  (record r4 { pc = at c.place + 26 }) d.mem (inside t 13 (omega arith))
                  (rw (no_borrow (l.priv_to % 65536) (x % 65536) sr1 (omega arith) (omega arith), t2) refl, refl) (λ s5.
                  ending false (good_above f x n lt1 small ge2) (record r4 { pc = at c.place + 26 }) 2 refl refl s5)
              | inl lt2 ↦
                  goes f st all B _ t 7 (jc (ahead 5)) refl (omega arith) refl refl r4 d 4 refl s4 r5 d.mem (inside t 8 (omega arith))
                  (rw (borrow (l.priv_to % 65536) (x % 65536) sr1 (omega arith) (omega arith)) refl, refl) (λ s5.
                  goes f st all B _ t 8 (cmp (## k3) r12) refl (omega arith) refl refl r5 d 3 refl s5 r6 d.mem (inside t 10 (omega arith))
                  (refl, refl) (λ s6.
                  elim (cases_lt x k3) [
                    | inl lt3 ↦
                        goes f st all B _ t 10 (jnc (ahead 2)) refl (omega arith) refl refl r6 d 2 refl s6
                        (record r6 { pc = at c.place + 26 }) d.mem (inside t 13 (omega arith))
                        (rw (borrow (k3 % 65536) (x % 65536) sr2 (omega arith) (omega arith), t3) refl, refl) (λ s7.
                        ending false (good_below f x n lt1 small lt3) (record r6 { pc = at c.place + 26 }) 0 refl refl s7)
                    | inr ge3 ↦
                        goes f st all B _ t 10 (jnc (ahead 2)) refl (omega arith) refl refl r6 d 2 refl s6
                        (record r6 { pc = at c.place + 22 }) d.mem (inside t 11 (omega arith))
                        (rw (no_borrow (k3 % 65536) (x % 65536) sr2 (omega arith) (omega arith)) refl, refl) (λ s7.
                        ending true (bad_inside f x n (omega arith) lt2 ge3) (record r6 { pc = at c.place + 22 }) 0 refl refl s7)
                  ]))
            ]))
      ]))
    where
      ending : (b : Bool) → is_bad_window f.setup (saved c q) n ≡ b → (r2 : Regs) (j : ℕ) → r2.pc ≡ elim b [ true ↦ at c.place + 22 | false ↦ at c.place + 26 ] → r2.sp ≡ r.sp
          → Safe f all (running f r2 d)
          → Runs f all B (Stood f all at (next c (truth (is_bad_window f.setup (saved c q) n) ∷ c.stack))) (suc (suc j)) (running f r2 d)
      ending true e r2 j pc sp_ safe2 =
          let h = sh.holds in
          let top = h.top in
          let sp = r2.sp - 2 in
          let pr = stack_word f st sp (length (1 ∷ c.stack)) (omega arith) (omega arith) (omega arith) in
          let down : (r2.sp + 65534) % 65536 ≡ sp = omega (arith, st.beneath, st.room) in
          let to : (at c.place + 26 + 2) % 65536 ≡ at c.place + 28 = omega (arith, t.to, st.below) in
          let r3 = record r2 { pc = at c.place + 24; sp = sp } in
          let r4 = record r3 { pc = at c.place + 28 } in
          let hp = holds_push f st at c.back c.stack c.priv c.mem r2.sp d.mem sp 1 safe.memory (subst (λ s. MemoryHolds f at c.back c.stack c.priv c.mem s d.mem) (sym sp_) h) (omega arith)
          (omega arith) in
          subst (λ v. Runs f all B (Stood f all at (next c (truth v ∷ c.stack))) (suc (suc j)) (running f r2 d)) (sym e)
          (goes f st all B _ t 11 (push (# 1)) refl (omega arith) refl refl r2 d (suc j) pc safe2 r3 (put_cell d.mem sp 1) (inside t 12 (omega arith))
          (sp, down, pr, 1, refl, omega arith, (rw down refl, refl)) (λ s3.
          goes f st all B _ t 12 (jmp (ahead 1)) refl (omega arith) refl refl r3 (record d { mem = put_cell d.mem sp 1 }) j refl s3
          r4 (put_cell d.mem sp 1) (inside t 14 (omega arith)) (rw to2_ refl, refl) (λ s4.
          stood f st all B at (next c (1 ∷ c.stack)) r4 (put_cell d.mem sp 1) d j s4 (omega (arith, on)) hp sh.devices sh.marks)))
        where
          to2_ : (at c.place + 26 + 2) % 65536 ≡ at c.place + 28
          to2_ = omega (arith, t.to, st.below)
      ending false e r2 j pc sp_ safe2 =
          let h = sh.holds in
          let top = h.top in
          let sp = r2.sp - 2 in
          let pr = stack_word f st sp (length (0 ∷ c.stack)) (omega arith) (omega arith) (omega arith) in
          let down : (r2.sp + 65534) % 65536 ≡ sp = omega (arith, st.beneath, st.room) in
          let r3 = record r2 { pc = at c.place + 28; sp = sp } in
          let hp = holds_push f st at c.back c.stack c.priv c.mem r2.sp d.mem sp 0 safe.memory (subst (λ s. MemoryHolds f at c.back c.stack c.priv c.mem s d.mem) (sym sp_) h) (omega arith)
          (omega arith) in
          subst (λ v. Runs f all B (Stood f all at (next c (truth v ∷ c.stack))) (suc (suc j)) (running f r2 d)) (sym e)
          (goes f st all B _ t 13 (push (# 0)) refl (omega arith) refl refl r2 d (suc j) pc safe2 r3 (put_cell d.mem sp 0) (inside t 14 (omega arith))
          (sp, down, pr, 0, refl, omega arith, (rw down refl, refl)) (λ s3.
          stood f st all B at (next c (0 ∷ c.stack)) r3 (put_cell d.mem sp 0) d (suc j) s3 (omega (arith, on)) hp sh.devices sh.marks))
