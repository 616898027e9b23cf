-- The test of the return address, whose violation is an illegal word.
use Rattle.sx_tmpl.specs.Template as templates
use Rattle.sx_isa.specs.Assembly.{##◌, &◌, ahead, cmp, jc, jnc, mov, r12}
use Rattle.sx_tmpl.proofs.Running.Instructions.{goes}
use Rattle.std.proofs.Common.{◌≡◌, ℕ, suc, ◌+◌, ◌*◌, ◌%◌, ◌<◌, ◌≤◌, inl, inr, Bool, true, false, cond, nat_le, cond, nat_le, List, Some, refl, sym, ◌∙◌, subst, arith}
use Rattle.sx_image.specs.Reach.{Here, Goes, Stops, Ends}
use Rattle.sx_isa.specs.declared.instruction.Op2.TheVariants as op2
use Rattle.sx_rules.specs.declared.access.Violation.{Violation}
use Rattle.spec_machine.specs.declared.kinds.Event.TheVariants as event
use Rattle.std.proofs.lemmas.Bool.{true≢false, and_from, cases_lt, lt-ltb, le-ltb, le-leb, lt-leb, and_left, and_right}
use Rattle.sx_rules.specs.declared.access.Violation.TheVariants as bad
use Rattle.sx_tmpl.proofs.Operations.PacketOp.{Breaks}
use Rattle.sx_tmpl.proofs.Operations.CopyOps.{Ending, Goes_to, Breaks_off}
use Rattle.sx_rules.specs.Access.{in_public}
use Rattle.spec_machine.specs.Memory.{even}
use Rattle.spec_machine.specs.Run.{exec, Violated}
use Rattle.spec_machine.specs.Rows.{program}
use Rattle.spec_machine.specs.Step.{start, attempt}
use Rattle.sx_isa.specs.Reading.{length_of, instruction_at}
use Rattle.sx_image.specs.Watched.{watch, Watched}
use Rattle.sx_tmpl.specs.Running.{sections_of, Regs, regs16, Fixed, Data, running, Safe}
use Rattle.sx_tmpl.proofs.Running.Steps.{Text, plain_instruction, reached, step_shown, tests_passed}
use Rattle.sx_tmpl.specs.Unseen.{PlanShowsNone}
use Rattle.sx_ir.specs.Conf.{Violates, Conf}
use Rattle.sx_ir.specs.Meaning.{saved, next}
use Rattle.sx_tmpl.proofs.Running.Flags.{flags_stay, flags_after, no_borrow, borrow}
use Rattle.spec_invocation.specs.Marks.{Mark}
use Rattle.sx_tmpl.proofs.Running.MidRun.{Stands, Runs}
use Rattle.sx_tmpl.specs.Shows.{base_of, MemoryHolds, ShowsConfiguration, Stood}
use Rattle.std.specs.Prelude.{slice_get}
use Rattle.sx_tmpl.proofs.Operations.Plain.{inside, Leads}
use Rattle.sx_tmpl.proofs.Running.Holding.{low_shown, data_word, holds_word, word_below}

module _ (f : Fixed) (st : Stands f) (all : List Mark) (B : Watched → Violation → Type 0) (Q : Watched → Type 0) where
  illegal_program : (regs : List ℕ) (x : Rattle.spec_machine.specs.Run.Moment) → exec (sections_of f) f.setup.section.id (program 0 regs) x ≡ Violated bad.Illegal
  unfolding program length_of instruction_at
  illegal_program regs x = refl

  illegal_shown : (regs : List ℕ) (x : Rattle.spec_machine.specs.Run.Moment) → PlanShowsNone f.setup (program 0 regs) x
  unfolding program length_of instruction_at
  illegal_shown regs x = tt

  -- a word that is no instruction
  pub illegal_step : {P n : ℕ} {ws : List ℕ} (t : Text f P n ws) (k : ℕ) → slice_get ws k ≡ Some 0 → k + 1 ≤ n → (r : Regs) (d : Data) (j : ℕ) → r.pc ≡ P + 2 * k → Safe f all (running f r d)
      → B (running f r d) bad.Illegal → Runs f all B Q (suc j) (running f r d)
  unfolding watch
  illegal_step t k has le r d j pc safe b =
      let x = reached f st all B Q t k 0 has le r d.mem pc safe.memory in
      let at_ : attempt f.setup.mac (running f r d).node ≡ Violated bad.Illegal = tests_passed f st all B Q event.Quiet r d safe x.here x.ends x.is_even
      ∙ plain_instruction f st all B Q event.Quiet r d 0 x.here x.ends x.is_even x.is refl ∙ illegal_program (regs16 f r) (start (running f r d).node) in
      Ends (safe, step_shown f st all B Q (running f r d) 0 x.is_even x.is refl (illegal_shown (regs16 f r) (start (running f r d).node))) (rw at_ refl) (omega arith) b

abbrev pub inside_words : Fixed → List ℕ
inside_words f = templates.inside_words (base_of f + 12) f.setup.section.layout.pub_from f.setup.section.layout.pub_to

module _ (f : Fixed) (st : Stands f) (all : List Mark) (B : Watched → Violation → Type 0) (at : ℕ → ℕ) where
  core : (Q : Watched → Type 0) (c : Conf) (r : Regs) (d : Data) → Text f (at c.place) 9 (inside_words f) → ShowsConfiguration f at c r d → Safe f all (running f r d)
      → (in_public f.setup.section (even (saved c 15)) ≡ true → (w : Watched) → w.marks ≡ c.marks → B w bad.Illegal)
      → (in_public f.setup.section (even (saved c 15)) ≡ false → (r2 : Regs) → r2.pc ≡ at c.place + 18 → r2.sp ≡ r.sp → Safe f all (running f r2 d) → Q (running f r2 d))
      → Runs f all B Q 6 (running f r d)
  core Q c r d t sh safe stop done =
      let h = sh.holds in
      let l = f.setup.section.layout in
      let x = saved c 15 in
      let lim = st.below in
      let fe = st.from_even in
      let te = st.to_even in
      let p12 = data_word f st 12 (low_shown _ 12 2 (omega arith)) (omega arith) refl (omega (arith, st.room)) in
      let is = holds_word f st at c.back c.stack c.priv c.mem r.sp d.mem 12 h refl (record { low = omega arith; beside = inl (omega arith) }) (let z = h.size in let y = st.room in omega arith) in
      let lx : x < 65536 = word_below f st (base_of f + 12) is safe.memory in
      let lf : l.pub_from < 65536 = omega (arith, t.from, t.to) in
      let sr1 = flags_after op2.Cmp (l.pub_from % 65536) (x % 65536) r.sr in
      let sr2 = flags_after op2.Cmp (l.pub_to % 65536) (x % 65536) sr1 in
      let r1 = record r { pc = at c.place + 4; r12 = x } in
      let r2 = record r1 { pc = at c.place + 8; sr = sr1 } in
      let r3 = record r2 { pc = at c.place + 10 } in
      let r4 = record r3 { pc = at c.place + 14; sr = sr2 } in
      let to : (at c.place + 10 + 8) % 65536 ≡ at c.place + 18 = omega (arith, t.to) in
      let to2 : (at c.place + 16 + 2) % 65536 ≡ at c.place + 18 = omega (arith, t.to) in
      goes f st all B Q t 0 (mov (& (base_of f + 12)) r12) refl (omega arith) refl refl r d 5 (omega (arith, sh.pc)) safe
      r1 d.mem (inside t 2 (omega arith)) (base_of f + 12, refl, p12, x, is, (rw (flags_stay r.sr) refl, refl)) (λ s1.
      goes f st all B Q t 2 (cmp (## l.pub_from) r12) refl (omega arith) refl refl r1 d 4 refl s1 r2 d.mem (inside t 4 (omega arith))
      (refl, refl) (λ s2.
      elim (cases_lt x l.pub_from) [
        | inl lo ↦
            let out : in_public f.setup.section (even x) ≡ false = and_left _ _ (lt-leb l.pub_from (even x) (omega arith)) in
            let no_ = borrow (l.pub_from % 65536) (x % 65536) r.sr (omega arith) (omega arith) in
            goes f st all B Q t 4 (jnc (ahead 4)) refl (omega arith) refl refl r2 d 3 refl s2
            (record r2 { pc = at c.place + 18 }) d.mem (inside t 9 (omega arith)) (rw (no_, to) refl, refl) (λ s3.
            Here (done out (record r2 { pc = at c.place + 18 }) refl refl s3))
        | inr ge ↦
            let yes_ = no_borrow (l.pub_from % 65536) (x % 65536) r.sr (omega arith) (omega arith) in
            goes f st all B Q t 4 (jnc (ahead 4)) refl (omega arith) refl refl r2 d 3 refl s2 r3 d.mem (inside t 5 (omega arith))
            (rw yes_ refl, refl) (λ s3.
            goes f st all B Q t 5 (cmp (## l.pub_to) r12) refl (omega arith) refl refl r3 d 2 refl s3 r4 d.mem (inside t 7 (omega arith))
            (refl, refl) (λ s4.
            elim (cases_lt x l.pub_to) [
              | inl lt ↦
                  let in_ : in_public f.setup.section (even x) ≡ true = and_from _ _ (le-leb l.pub_from (even x) (omega arith)) (lt-ltb (even x) l.pub_to (omega arith)) in
                  let no_ = borrow (l.pub_to % 65536) (x % 65536) sr1 (omega arith) (omega arith) in
                  goes f st all B Q t 7 (jc (ahead 1)) refl (omega arith) refl refl r4 d 1 refl s4
                  (record r4 { pc = at c.place + 16 }) d.mem (inside t 8 (omega arith)) (rw no_ refl, refl) (λ s5.
                  illegal_step f st all B Q t 8 refl (omega arith) (record r4 { pc = at c.place + 16 }) d 0 refl s5
                  (stop in_ (running f (record r4 { pc = at c.place + 16 }) d) sh.marks))
              | inr ge2 ↦
                  let out : in_public f.setup.section (even x) ≡ false = and_right (nat_le l.pub_from (even x)) _ (le-ltb (even x) l.pub_to (omega arith)) in
                  let yes2 = no_borrow (l.pub_to % 65536) (x % 65536) sr1 (omega arith) (omega arith) in
                  goes f st all B Q t 7 (jc (ahead 1)) refl (omega arith) refl refl r4 d 1 refl s4
                  (record r4 { pc = at c.place + 18 }) d.mem (inside t 9 (omega arith)) (rw (yes2, to2) refl, refl) (λ s5.
                  Here (done out (record r4 { pc = at c.place + 18 }) refl refl s5))
            ]))
      ]))

  pub inside_ends : (c : Conf)
      → Ending (cond (in_public f.setup.section (even (saved c 15))) (Stops (Violates bad.Illegal c.marks)) (Goes (next c c.stack))) (λ t. Leads f st all B at 9 (inside_words f) 6 c t)
      (λ v m. Breaks f st all B at 9 (inside_words f) 6 c v m)
  inside_ends c = either (in_public f.setup.section (even (saved c 15))) refl
    where
      either : (b : Bool) → in_public f.setup.section (even (saved c 15)) ≡ b
          → Ending (cond b (Stops (Violates bad.Illegal c.marks)) (Goes (next c c.stack))) (λ t. Leads f st all B at 9 (inside_words f) 6 c t)
          (λ v m. Breaks f st all B at 9 (inside_words f) 6 c v m)
      either true e = Breaks_off bad.Illegal c.marks refl (λ r d t on sh safe ends. core (λ _. ⊥) c r d t sh safe (λ _ w m. ends w m) (λ out. absurd (true≢false (sym e ∙ out))))
      either false e = Goes_to (next c c.stack) refl (λ r d t on sh safe. core (Stood f all at (next c c.stack)) c r d t sh safe (λ in_. absurd (true≢false (sym in_ ∙ e)))
          (λ _ r2 pc2 sp2 s2. record {
            regs = r2;
            rest = d;
            state = refl;
            safe = s2;
            shows = record {
              pc = pc2
                  ∙ omega (arith, on);
              holds = subst (λ s. MemoryHolds f at c.back c.stack c.priv c.mem s d.mem) (sym sp2) sh.holds;
              devices = sh.devices;
              marks = sh.marks;
            };
          }))
