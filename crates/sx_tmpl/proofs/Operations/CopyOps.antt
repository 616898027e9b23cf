-- The copies as operations.
use Rattle.sx_isa.specs.Standing.{words_of}
use Rattle.sx_isa.specs.Assembly.{##◌, &◌, add, mov, pop, r12, r13, r15}
use Rattle.sx_tmpl.specs.Template.{turns}
use Rattle.sx_tmpl.proofs.Running.Instructions.{goes}
use Rattle.sx_tmpl.proofs.Running.Loading.{loads}
use Rattle.sx_tmpl.specs.Template as templates
use Rattle.std.proofs.Common.{◌≡◌, ◌==◌, ℕ, suc, ◌+◌, ◌*◌, ◌/◌, ◌%◌, ◌<◌, ◌≤◌, inl, inr, Bool, true, false, not, ◌&&◌, cond, nat_le, nat_lt, List}
use Rattle.std.proofs.Common.{[], ◌∷◌, length, refl, sym, ◌∙◌, ap, subst, arith}
use Rattle.sx_image.specs.Reach.{Here, Goes, Stops}
use Rattle.sx_isa.specs.declared.instruction.Op2.TheVariants as op2
use Rattle.sx_rules.specs.declared.access.Violation.{Violation}
use Rattle.std.specs.Prelude.{Result, Ok, Err}
use Rattle.std.proofs.lemmas.Bool.{cases_Bool, true≢false, or_right, and_from, or_left, leb-true, ltb-true, and_parts, cases_lt, lt-ltb}
use Rattle.sx_rules.specs.Access.{in_private}
use Rattle.spec_invocation.specs.Windows.{write_bytes, read_bytes, is_bad_window}
use Rattle.sx_tmpl.proofs.Running.Outcomes.{ok_err, ok_same, err_same}
use Rattle.sx_tmpl.proofs.Running.Holding.{IsRange, holds_from, stack_word, low_shown, data_word, holds_pop, holds_word}
use Rattle.sx_tmpl.proofs.Operations.Bytes.{BytesAt, stand_from}
use Rattle.sx_tmpl.proofs.Operations.CopyLoop.{Turns, all_bytes, all_steps, few_steps, size, turns_few, turns_of}
use Rattle.sx_tmpl.proofs.Operations.CopyOut.{copy_runs}
use Rattle.sx_tmpl.proofs.Operations.CopyIn.{copy_in_words, copy_in_whole}
use Rattle.sx_tmpl.proofs.Operations.PacketOp.{Breaks}
use Rattle.spec_machine.proofs.Lengths.{length-bytes_from}
use Rattle.sx_ir.specs.Meaning.{copy_out, has_copy_room, copy_in, copied_in, has_in_window, OperationResult, copied_out, saved, has_out_window, next}
use Rattle.spec_invocation.specs.Pieces.{made_bytes}
use Rattle.sx_ir.specs.Conf.{Violates, Stuck, Conf}
use Rattle.spec_machine.specs.Ranges.{passes_end}
use Rattle.spec_machine.specs.Memory.{bytes_from, put_bytes}
use Rattle.sx_tmpl.proofs.Running.Flags.{flags_stay, flags_after}
use Rattle.spec_invocation.specs.Marks.{Mark}
use Rattle.sx_image.specs.Watched.{Watched}
use Rattle.sx_tmpl.specs.Running.{Regs, Fixed, Data, running, Safe}
use Rattle.sx_tmpl.proofs.Running.MidRun.{Stands, Runs, later}
use Rattle.sx_tmpl.specs.Unseen.{HoldsNoKey}
use Rattle.sx_tmpl.specs.Shows.{base_of, MemoryHolds, ShowsConfiguration, Stood}
use Rattle.sx_tmpl.proofs.Running.Steps.{Text}
use Rattle.sx_tmpl.proofs.Operations.Plain.{inside, Leads}

-- an operation that may break: it goes on, breaks in a violation, or has no meaning
pub data Ending (after : OperationResult) (Goes_on : Conf → Type 0) (Breaks_in : Violation → List Mark → Type 0) : Type 0 where
  Goes_to : (t : Conf) → after ≡ Goes t → Goes_on t → Ending after Goes_on Breaks_in
  Breaks_off : (v : Violation) (m : List Mark) → after ≡ Stops (Violates v m) → Breaks_in v m → Ending after Goes_on Breaks_in
  No_meaning : after ≡ Stops Stuck → Ending after Goes_on Breaks_in

-- a window that is let through lies before the end of memory and outside the private section
window_free : (f : Fixed) (a n : ℕ) → 0 < n → not (is_bad_window f.setup a n) ≡ true → (a + n ≤ 65536) × ((b : ℕ) → a ≤ b → b < a + n → in_private f.setup.section b ≡ false)
window_free f a n some h = (short, free)
  where
    short : a + n ≤ 65536
    short = elim (cases_lt 65536 (a + n)) [
      | inl lt ↦ absurd (true≢false (sym h ∙ ap not (or_left (passes_end a n) _ (lt-ltb 65536 (a + n) lt))))
      | inr ge ↦ ge
    ]

    free : (b : ℕ) → a ≤ b → b < a + n → in_private f.setup.section b ≡ false
    free b p q = elim (cases_Bool (in_private f.setup.section b)) [
      | inl t ↦
          let x = and_parts (nat_le (base_of f) b) (nat_lt b f.setup.section.layout.priv_to) t in
          let lo : base_of f ≤ b = leb-true (base_of f) b x.0 in
          let hi : b < f.setup.section.layout.priv_to = ltb-true b f.setup.section.layout.priv_to x.1 in
          absurd (true≢false (sym h
          ∙ ap not (or_right (passes_end a n) _
          (and_from _ _ (lt-ltb 0 n some) (and_from _ _ (lt-ltb a f.setup.section.layout.priv_to (omega arith)) (lt-ltb (base_of f) (a + n) (omega arith)))))))
      | inr t ↦ t
    ]

module _ (f : Fixed) (st : Stands f) (all : List Mark) (B : Watched → Violation → Type 0) (at : ℕ → ℕ) where
  -- CopyIn, by turns of so many bytes
  module _ (c : Conf) (n o : ℕ) (rg : IsRange o (suc n) (length c.priv)) (lt : n < 65535) (b : Bool) (u : ℕ) (stands : Turns (copy_in_words (base_of f) o (size b) (suc u)) 6 b)
      (full : all_bytes b (suc u) ≡ suc n) where
    abbrev InRead : Result (List ℕ) Violation
    InRead = read_bytes f.setup c.devices c.mem (saved c 13) (suc n)

    abbrev in_ws : List ℕ
    in_ws = copy_in_words (base_of f) o (size b) (suc u)

    abbrev InGoes : Conf → Type 0
    InGoes t = Leads f st all B at (9 + 2 * size b) in_ws (7 + 4 * suc n) c t

    abbrev InBreaks : Violation → List Mark → Type 0
    InBreaks v m = Breaks f st all B at (9 + 2 * size b) in_ws (7 + 4 * suc n) c v m

    in_core : (Q : Watched → Type 0) → (has_in_window f.setup c && nat_le (suc n) 40) ≡ true → (r : Regs) (d : Data) → Text f (at c.place) (9 + 2 * size b) in_ws
        → at (c.place + 1) ≡ at c.place + 2 * (9 + 2 * size b) → ShowsConfiguration f at c r d → Safe f all (running f r d)
        → ((v : Violation) → InRead ≡ Err v → (w : Watched) → w.marks ≡ c.marks → B w v)
        → ((bs : List ℕ) → InRead ≡ Ok bs → (w : Watched) → Stood f all at (record (next c c.stack) { priv = put_bytes c.priv o bs }) w → Q w) → Runs f all B Q (7 + 4 * suc n) (running f r d)
    in_core Q ok r d t on sh safe stop done =
        let p = and_parts (has_in_window f.setup c) (nat_le (suc n) 40) ok in
        let small : suc n ≤ 40 = leb-true (suc n) 40 p.1 in
        let win = window_free f (saved c 13) 40 (omega arith) p.0 in
        let lim = win.0 in
        let few = few_steps b (suc u) 0 in
        later f all B Q (suc (suc (suc (all_steps b (suc u) 0)))) (7 + 4 * suc n) (running f r d) (omega (arith, few, full))
        (copy_in_whole f st all B at Q b u (at c.place) o t stands (omega (arith, turns_few b u, full)) (suc n) full d.devices safe.devices c.back c.stack c.mem r d (saved c 13) 0 c.priv
        (omega arith) (omega arith) (λ a x y. win.1 a x (omega arith)) rg refl (omega (arith, sh.pc)) sh.holds safe
        (λ v e r2 m2. stop v (ap (λ ds. read_bytes f.setup ds c.mem (saved c 13) (suc n)) (sym sh.devices) ∙ e) (running f r2 (record d { mem = m2 })) sh.marks)
        (λ bs e r2 m2 pc2 sp2 h2 s2. Here (done bs (ap (λ ds. read_bytes f.setup ds c.mem (saved c 13) (suc n)) (sym sh.devices) ∙ e) (running f r2 (record d { mem = m2 }))
        (record {
          regs = r2;
          rest = record d { mem = m2 };
          state = refl;
          safe = s2;
          shows = record {
            pc = pc2 ∙ sym on;
            holds = subst (λ s. MemoryHolds f at c.back c.stack (put_bytes c.priv o bs) c.mem s m2) (sym sp2) h2;
            devices = sh.devices;
            marks = sh.marks;
          };
        }))))

    in_read : (w : Result (List ℕ) Violation) → InRead ≡ w → (has_in_window f.setup c && nat_le (suc n) 40) ≡ true → Ending (copied_in c o w) InGoes InBreaks
    in_read (Ok bs) ew ok = Goes_to (record (next c c.stack) { priv = put_bytes c.priv o bs }) refl
        (λ r d t on sh safe. in_core (Stood f all at (record (next c c.stack) { priv = put_bytes c.priv o bs })) ok r d t on sh safe
        (λ v e. absurd (ok_err bs v (sym ew ∙ e))) (λ bs2 e w s. subst (λ b. Stood f all at (record (next c c.stack) { priv = put_bytes c.priv o b }) w) (ok_same bs2 bs (sym e ∙ ew)) s))
    in_read (Err x) ew ok = Breaks_off x c.marks refl (λ r d t on sh safe ends. in_core (λ _. ⊥) ok r d t on sh safe
        (λ v e w m. subst (λ v. B w v) (err_same x v (sym ew ∙ e)) (ends w m)) (λ bs e w s. absurd (ok_err bs x (sym e ∙ ew))))

    in_test : (b : Bool) → (has_in_window f.setup c && nat_le (suc n) 40) ≡ b → Ending (cond b (copied_in c o InRead) (Stops Stuck)) InGoes InBreaks
    in_test true e = in_read InRead refl e
    in_test false e = No_meaning refl

  pub copy_in_ends : (c : Conf) (n o : ℕ) → IsRange o (suc n) (length c.priv) → n < 65535
      → (let ws = templates.copy_in_words (base_of f + 8) (base_of f + o) (suc n) in Ending (copy_in f.setup c (suc n) o) (λ t. Leads f st all B at (length ws) ws (7 + 4 * suc n) c t)
      (λ v m. Breaks f st all B at (length ws) ws (7 + 4 * suc n) c v m))
  copy_in_ends c n o rg lt = by (suc n % 8 == 0) refl
    where
      Ends : ℕ → ℕ → Type 0
      Ends turn count =
          let ws = copy_in_words (base_of f) o turn count in
          Ending (copy_in f.setup c (suc n) o) (λ t. Leads f st all B at (length ws) ws (7 + 4 * suc n) c t) (λ v m. Breaks f st all B at (length ws) ws (7 + 4 * suc n) c v m)

      by : (b : Bool) → (suc n % 8 == 0) ≡ b → Ends (size b) (suc n / size b)
      by true e =
          let x = turns_of true n e in
          let stands : Turns (copy_in_words (base_of f) o 8 (suc x.0)) 6 true =
          record { copies = (refl, (refl, (refl, (refl, (refl, (refl, (refl, (refl, tt)))))))); add_is = refl; dec_is = refl; jump_is = refl } in
          subst (Ends 8) (sym x.1) (in_test c n o rg lt true x.0 stands x.2 (has_in_window f.setup c && nat_le (suc n) 40) refl)
      by false e =
          let x = turns_of false n e in
          let stands : Turns (copy_in_words (base_of f) o 1 (suc x.0)) 6 false = record { copies = (refl, tt); add_is = refl; dec_is = refl; jump_is = refl } in
          subst (Ends 1) (sym x.1) (in_test c n o rg lt false x.0 stands x.2 (has_in_window f.setup c && nat_le (suc n) 40) refl)

-- so many turns of so many bytes
abbrev copy_out_words : ℕ → ℕ → ℕ → ℕ → List ℕ
copy_out_words base o turn count = words_of (pop r12 ∷ add (& (base + 10)) r12 ∷ mov (## (base + o)) r13 ∷ mov (## count) r15 ∷ turns turn)

module _ (f : Fixed) (st : Stands f) (all : List Mark) (B : Watched → Violation → Type 0) (at : ℕ → ℕ) where
  -- CopyOut, where the piece lies where pieces go, by turns of so many bytes
  module _ (c : Conf) (v : ℕ) (rest : List ℕ) (n o : ℕ) (rg : IsRange o (suc n) (length c.priv)) (shown : HoldsNoKey (length f.setup.ends) o (suc n)) (lt : n < 65535) (w1 : f.from ≤ saved c 14 + v) (w2 : saved c 14 + v + suc n ≤ f.to)
      (b : Bool) (u : ℕ) (stands : Turns (copy_out_words (base_of f) o (size b) (suc u)) 7 b) (full : all_bytes b (suc u) ≡ suc n) where
    abbrev out_bytes : List ℕ
    out_bytes = bytes_from c.priv o (suc n)

    abbrev OutWritten : Result (List ℕ) Violation
    OutWritten = write_bytes f.setup c.devices c.mem (saved c 14 + v) out_bytes

    abbrev out_ws : List ℕ
    out_ws = copy_out_words (base_of f) o (size b) (suc u)

    abbrev begun : Conf
    begun = record c { stack = v ∷ rest }

    abbrev copied : List ℕ → Conf
    copied mem = record (next begun rest) { mem = mem }

    abbrev OutGoes : Conf → Type 0
    OutGoes t = Leads f st all B at (10 + 2 * size b) out_ws (8 + 4 * suc n) begun t

    abbrev OutBreaks : Violation → List Mark → Type 0
    OutBreaks x m = Breaks f st all B at (10 + 2 * size b) out_ws (8 + 4 * suc n) begun x m

    out_core : (Q : Watched → Type 0) → (has_out_window f.setup c && has_copy_room c v (suc n)) ≡ true → (r : Regs) (d : Data) → Text f (at c.place) (10 + 2 * size b) out_ws
        → at (c.place + 1) ≡ at c.place + 2 * (10 + 2 * size b) → ShowsConfiguration f at begun r d → Safe f all (running f r d)
        → ((x : Violation) → OutWritten ≡ Err x → (w : Watched) → w.marks ≡ c.marks → B w x) → ((mem : List ℕ) → OutWritten ≡ Ok mem → (w : Watched) → Stood f all at (copied mem) w → Q w)
        → Runs f all B Q (8 + 4 * suc n) (running f r d)
    out_core Q ok r d t on sh safe stop done =
        let p = and_parts (has_out_window f.setup c) (has_copy_room c v (suc n)) ok in
        let small : v + suc n ≤ 384 = leb-true (v + suc n) 384 (and_parts (nat_le (v + suc n) 384) (nat_le (v + suc n) (made_bytes c.marks)) p.1).0 in
        let win = window_free f (saved c 14) 384 (omega arith) p.0 in
        let lim = win.0 in
        let h = sh.holds in
        let sz = h.size in
        let fits = rg.fits in
        let lo = rg.low in
        let beneath = st.beneath in
        let stay = flags_stay r.sr in
        let p1 = stack_word f st r.sp (length (v ∷ rest)) h.top (omega arith) (omega (arith, h.room)) in
        let up : (r.sp + 2) % 65536 ≡ r.sp + 2 = omega (arith, p1.high, st.beneath) in
        let h1 = holds_pop f st at c.back v rest c.priv c.mem r.sp d.mem h in
        let p10 = data_word f st 10 (low_shown _ 10 2 (omega arith)) (omega arith) refl (omega (arith, st.room)) in
        let is = holds_word f st at c.back (v ∷ rest) c.priv c.mem r.sp d.mem 10 h refl (record { low = omega arith; beside = inl (omega arith) }) (omega (arith, st.room)) in
        let sum : (v % 65536 + saved c 14 + 0) % 65536 ≡ saved c 14 + v = omega arith in
        let same : bytes_from d.mem (base_of f + o) (suc n) ≡ out_bytes = holds_from f st at c.back (v ∷ rest) c.priv c.mem r.sp d.mem o (suc n) h rg in
        let len : length out_bytes ≡ suc n = length-bytes_from c.priv o (suc n) in
        let few = few_steps b (suc u) 0 in
        let sr2 = flags_after op2.Add (saved c 14) (v % 65536) r.sr in
        let r1 = record r { pc = at c.place + 2; sp = r.sp + 2; r12 = v } in
        let r2 = record r1 { pc = at c.place + 6; sr = sr2; r12 = saved c 14 + v } in
        let Ended : List ℕ → Type 0 = λ m2. (mem : List ℕ) × (OutWritten ≡ Ok mem) × MemoryHolds f at c.back rest c.priv mem (r.sp + 2) m2 in
        later f all B Q (suc (suc (suc (suc (all_steps b (suc u) 0))))) (8 + 4 * suc n) (running f r d) (omega (arith, few, full))
        (goes f st all B Q t 0 (pop r12) refl (omega arith) refl refl r d _ (omega (arith, sh.pc)) safe r1 d.mem (inside t 1 (omega arith))
        (r.sp, refl, p1, v, h.words.0, (rw (up, stay) refl, refl)) (λ s1.
        goes f st all B Q t 1 (add (& (base_of f + 10)) r12) refl (omega arith) refl refl r1 d _ refl s1 r2 d.mem (inside t 3 (omega arith))
        (base_of f + 10, refl, p10, saved c 14, is, (rw sum refl, refl)) (λ s2.
        loads f st all B Q t 3 ((## (base_of f + o), 13) ∷ (## (suc u), 15) ∷ []) refl (omega arith) refl (omega arith, (omega (arith, turns_few b u, full), tt)) r2 d _ r2.pc refl s2 (λ s4.
        copy_runs f st all B at Q t d.devices safe.devices c.back rest c.priv r1 d Ended b 7 stands (omega arith) u out_bytes sr2 (saved c 14 + v) (base_of f + o) 0 c.mem
        (omega (arith, turns_few b u, full)) (full ∙ sym len) (omega arith) w1 (omega (arith, len)) (record { low = omega arith; high = omega (arith, len) }) (o, refl, subst (λ (k : ℕ). HoldsNoKey (length f.setup.ends) o k) (sym len) shown)
        (subst (λ l. BytesAt d.mem (base_of f + o) l) same (stand_from d.mem (base_of f + o) (suc n))) h1 s4
        (λ x e r3 m3. stop x (ap (λ ds. write_bytes f.setup ds c.mem (saved c 14 + v) out_bytes) (sym sh.devices) ∙ e) (running f r3 (record d { mem = m3 })) sh.marks)
        (λ mem e m3 h3. (mem, ap (λ ds. write_bytes f.setup ds c.mem (saved c 14 + v) out_bytes) (sym sh.devices) ∙ e, h3))
        (λ m3 e pc3 sr3 a3 s3 ep safe3.
        let r3 = record r1 { pc = pc3; sr = sr3; r12 = a3; r13 = s3; r15 = 0 } in
        Here (done e.0 e.1 (running f r3 (record d { mem = m3 })) (record {
          regs = r3;
          rest = record d { mem = m3 };
          state = refl;
          safe = safe3;
          shows = record { pc = ep ∙ omega (arith, on); holds = e.2; devices = sh.devices; marks = sh.marks };
        })))))))

    out_write : (w : Result (List ℕ) Violation) → OutWritten ≡ w → (has_out_window f.setup c && has_copy_room c v (suc n)) ≡ true → Ending (copied_out w begun copied) OutGoes OutBreaks
    out_write (Ok mem) ew ok = Goes_to (copied mem) refl (λ r d t on sh safe. out_core (Stood f all at (copied mem)) ok r d t on sh safe
        (λ x e. absurd (ok_err mem x (sym ew ∙ e))) (λ mem2 e w s. subst (λ b. Stood f all at (copied b) w) (ok_same mem2 mem (sym e ∙ ew)) s))
    out_write (Err x) ew ok = Breaks_off x c.marks refl (λ r d t on sh safe ends. out_core (λ _. ⊥) ok r d t on sh safe
        (λ y e w m. subst (λ v. B w v) (err_same x y (sym ew ∙ e)) (ends w m)) (λ mem e w s. absurd (ok_err mem x (sym e ∙ ew))))

    out_test : (b : Bool) → (has_out_window f.setup c && has_copy_room c v (suc n)) ≡ b → Ending (cond b (copied_out OutWritten begun copied) (Stops Stuck)) OutGoes OutBreaks
    out_test true e = out_write OutWritten refl e
    out_test false e = No_meaning refl

  pub copy_out_ends : (c : Conf) (v : ℕ) (rest : List ℕ) (n o : ℕ) → IsRange o (suc n) (length c.priv) → HoldsNoKey (length f.setup.ends) o (suc n) → n < 65535 → f.from ≤ saved c 14 + v → saved c 14 + v + suc n ≤ f.to
      → (let ws = templates.copy_out_words (base_of f + 10) (base_of f + o) (suc n) in Ending (copy_out f.setup (record c { stack = v ∷ rest }) (suc n) o v rest)
      (λ t. Leads f st all B at (length ws) ws (8 + 4 * suc n) (record c { stack = v ∷ rest }) t) (λ x m. Breaks f st all B at (length ws) ws (8 + 4 * suc n) (record c { stack = v ∷ rest }) x m))
  copy_out_ends c v rest n o rg shown lt w1 w2 = by (suc n % 8 == 0) refl
    where
      Ends : ℕ → ℕ → Type 0
      Ends turn count =
          let ws = copy_out_words (base_of f) o turn count in
          Ending (copy_out f.setup (record c { stack = v ∷ rest }) (suc n) o v rest) (λ t. Leads f st all B at (length ws) ws (8 + 4 * suc n) (record c { stack = v ∷ rest }) t)
          (λ x m. Breaks f st all B at (length ws) ws (8 + 4 * suc n) (record c { stack = v ∷ rest }) x m)

      by : (b : Bool) → (suc n % 8 == 0) ≡ b → Ends (size b) (suc n / size b)
      by true e =
          let x = turns_of true n e in
          let stands : Turns (copy_out_words (base_of f) o 8 (suc x.0)) 7 true =
          record { copies = (refl, (refl, (refl, (refl, (refl, (refl, (refl, (refl, tt)))))))); add_is = refl; dec_is = refl; jump_is = refl } in
          subst (Ends 8) (sym x.1) (out_test c v rest n o rg shown lt w1 w2 true x.0 stands x.2 (has_out_window f.setup c && has_copy_room c v (suc n)) refl)
      by false e =
          let x = turns_of false n e in
          let stands : Turns (copy_out_words (base_of f) o 1 (suc x.0)) 7 false = record { copies = (refl, tt); add_is = refl; dec_is = refl; jump_is = refl } in
          subst (Ends 1) (sym x.1) (out_test c v rest n o rg shown lt w1 w2 false x.0 stands x.2 (has_out_window f.setup c && has_copy_room c v (suc n)) refl)
