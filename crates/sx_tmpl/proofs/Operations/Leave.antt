-- The return to the caller.
use Rattle.sx_isa.specs.Instructions.{first_word}
use Rattle.sx_isa.specs.Assembly.{#◌, &◌, br, clr, mov, pop, r12, r13, sp, sr}
use Rattle.sx_tmpl.proofs.Running.Instructions.{goes, reads_of}
use Rattle.sx_tmpl.proofs.Running.Loading.{loads}
use Rattle.sx_tmpl.specs.Template.{leave_words}
use Rattle.std.proofs.Common.{◌≡◌, ℕ, suc, ◌+◌, ◌-◌, ◌*◌, ◌%◌, ◌<◌, ◌≤◌, inl, inr, Bool, true, false, List, [], ◌∷◌, length, Some, refl, sym, ◌∙◌, ap, arith}
use Rattle.sx_image.specs.Reach.{Here, Next, Ends, Goes}
use Rattle.sx_isa.specs.declared.instruction.Operand.TheVariants.{Reg, Absolute}
use Rattle.sx_isa.specs.declared.instruction.Op2.TheVariants as op2
use Rattle.sx_isa.specs.declared.instruction.Instr.TheVariants.{Two}
use Rattle.sx_rules.specs.declared.access.Violation.{Violation}
use Rattle.spec_machine.specs.declared.kinds.Event.TheVariants as event
use Rattle.std.proofs.lemmas.Option.{same_Some}
use Rattle.std.proofs.lemmas.Bool.{true≢false, cases_eq, eq-eqb, ne_eqb}
use Rattle.sx_tmpl.proofs.Running.Steps.{text_word, tests_passed, plain_instruction, fetched, program_two, shown_two, step_shown, onward_to, by_outcome, Text, InText, NoTell}
use Rattle.std.proofs.lemmas.List.{append-nil}
use Rattle.sx_isa.specs.declared.instruction.Instr.{Instr}
use Rattle.sx_rules.specs.declared.section.Section.{Section}
use Rattle.sx_rules.specs.Access.{Lives, holder, in_public}
use Rattle.sx_rules.proofs.Placing.{placed_found}
use Rattle.spec_machine.specs.Run.{Outcome, Finished, Violated, Module}
use Rattle.spec_machine.specs.Step.{own_of, start, attempt}
use Rattle.sx_image.specs.Watched.{watch, Watched}
use Rattle.sx_ir.specs.Meaning.{saved}
use Rattle.sx_tmpl.specs.Running.{sections_of, Regs, regs16, Fixed, Data, running, Safe, cell, OutsideKept}
use Rattle.sx_tmpl.proofs.Running.Owned.{own_above, run_holder}
use Rattle.sx_tmpl.proofs.Running.Owes.{Met, Owes, owes_met, owes_shown}
use Rattle.sx_tmpl.specs.Unseen.{StepShowsNone}
use Rattle.sx_tmpl.proofs.Running.Flags.{flags_stay, flags_after}
use Rattle.spec_invocation.specs.Marks.{Mark}
use Rattle.sx_ir.specs.Conf.{Conf}
use Rattle.sx_tmpl.proofs.Running.MidRun.{Stands, Runs}
use Rattle.sx_tmpl.specs.Shows.{base_of, IsData, MemoryHolds, ShowsConfiguration}
use Rattle.spec_machine.specs.Rows.{row}
use Rattle.spec_machine.specs.Registers.{at_pc}
use Rattle.std.specs.Prelude.{slice_get, ◌==◌}
use Rattle.sx_tmpl.proofs.Operations.Plain.{inside}
use Rattle.sx_tmpl.proofs.Running.Holding.{stack_word, low_shown, mid_shown, data_word, holds_word}

-- what holds a byte is a live section with it in its public part
holder_from : (live : List Section) (a i : ℕ) → holder live a ≡ i → 0 < i → (u : Section) × Lives live u × (in_public u a ≡ true) × (u.id ≡ i)
holder_from [] a i e lt = absurd (omega arith)
holder_from (s ∷ rest) a i e lt = either (in_public s a) refl (holder_from rest a i)
  where
    either : (b : Bool) → in_public s a ≡ b → (holder rest a ≡ i → 0 < i → (u : Section) × Lives rest u × (in_public u a ≡ true) × (u.id ≡ i))
        → (u : Section) × Lives (s ∷ rest) u × (in_public u a ≡ true) × (u.id ≡ i)
    either true t later = (s, inl refl, t, rw t at e)
    either false t later = let x = later (rw t at e) lt in (x.0, inr x.1, x.2, x.3)

-- the node right after the module left, by a plain instruction
abbrev pub exited : Fixed → Regs → Data → Watched
exited f r d = record {
  node = record {
    regs = regs16 f r;
    mem = d.mem;
    devices = d.devices;
    sections = sections_of f;
    cur = 0;
    last = f.setup.section.id;
    caller = f.caller;
    boot = f.boot;
    key = f.key;
    exchange = d.exchange;
  };
  marks = d.marks;
  event = event.Left f.setup.section.id;
}

module _ (f : Fixed) (st : Stands f) (all : List Mark) (B : Watched → Violation → Type 0) (Q : Watched → Type 0) where
  -- what is to follow a plain instruction that leaves the text
  abbrev Out : ℕ → Data → List ℕ → List ℕ → Type 0
  Out n d regs m = (r2 : Regs) × (regs ≡ regs16 f r2) × (in_public f.setup.section r2.pc ≡ false) × (OutsideKept f m → Runs f all B Q n (exited f r2 (record d { mem = m })))

  not_held : (a : ℕ) → in_public f.setup.section a ≡ false → (holder f.setup.live a == f.setup.section.id) ≡ false
  not_held a h = elim (cases_eq (holder f.setup.live a) f.setup.section.id) [
    | inl e ↦
        let x = holder_from f.setup.live a f.setup.section.id e (own_above f st) in
        let same : x.0 ≡ f.setup.section = same_Some x.0 f.setup.section (sym (placed_found (sections_of f) x.0 st.placed x.1) ∙ ap (Rattle.sx_rules.specs.Access.section_of f.setup.live) x.3
        ∙ placed_found (sections_of f) f.setup.section st.placed st.lives) in
        absurd (true≢false (sym x.2 ∙ ap (λ u. in_public u a) same ∙ h))
    | inr ne ↦ ne_eqb (holder f.setup.live a) f.setup.section.id ne
  ]

  from_exit : (n : ℕ) (r : Regs) (d : Data) (o : Outcome) → Safe f all (running f r d) → StepShowsNone f.setup f.entered (running f r d) → InText f r.pc → attempt f.setup.mac (running f r d).node ≡ o
      → Met f (Out n d) (NoTell f st all B Q) (B (running f r d)) (start (running f r d).node) o → Runs f all B Q (suc n) (running f r d)
  unfolding watch
  from_exit n r d (Finished regs y) safe shown here at h =
      let c = running f r d in
      let r2 = h.2.0 in
      let d2 : Data = record d { mem = y.mem } in
      let o : Outcome = Finished (regs16 f r2) (record (start c.node) { mem = y.mem }) in
      let is : Finished regs y ≡ o = ap (λ z. Finished regs z) h.0 ∙ ap (λ g. Finished g (record (start c.node) { mem = y.mem })) h.2.1 in
      let own : own_of c.node ≡ f.setup.section.id = run_holder f st r.pc here.from here.to in
      let away = not_held r2.pc h.2.2 in
      let same : (f.setup.section.id == f.setup.section.id) ≡ true = eq-eqb f.setup.section.id f.setup.section.id refl in
      let ne : (f.setup.section.id == 0) ≡ false = ne_eqb f.setup.section.id 0 (omega (arith, own_above f st)) in
      let s : watch f.setup.mac c ≡ Goes (exited f r2 d2) = ap (by_outcome f st all B Q c) (at ∙ is)
      ∙ rw (own, away, same, ne) (ap (λ l. Goes (exited f r2 (record d2 { marks = l }))) (append-nil d.marks)) in
      Next {k = n} (safe, shown) s (omega arith) (h.2.3 h.1)
  from_exit n r d (Violated v) safe shown here at h = Ends (safe, shown) (rw at refl) (omega arith) h
  from_exit n r d (Module regs y t event exchange) safe shown here at h = absurd h.3

-- the registers at the exit
abbrev pub exit_regs : Fixed → ℕ → ℕ → ℕ → Regs
exit_regs f status count back = record { pc = back; sp = f.sp; sr = 0; r4 = 0; r5 = 0; r6 = 0; r7 = 0; r8 = 0; r9 = 0; r10 = 0; r11 = 0; r12 = status; r13 = count; r14 = 0; r15 = 0 }

-- The module left to the return address with this status and number of pieces, with the configuration's data in memory.
pub record Departed (f : Fixed) (at : ℕ → ℕ) (c : Conf) (status count : ℕ) (w : Watched) : Type 0 where
  pub rest : Data
  pub state : w ≡ exited f (exit_regs f status count (saved c 15 - saved c 15 % 2)) rest
  pub kept : OutsideKept f rest.mem
  pub sp : ℕ
  pub holds : MemoryHolds f at c.back c.stack c.priv c.mem sp rest.mem
  pub devices : rest.devices ≡ c.devices
  pub marks : rest.marks ≡ c.marks

module _ (f : Fixed) (st : Stands f) (all : List Mark) (B : Watched → Violation → Type 0) (at : ℕ → ℕ) where
  -- the last instruction: MOV &return, PC
  return_out : (Q : Watched → Type 0) {P n : ℕ} {ws : List ℕ} (t : Text f P n ws) (k : ℕ) → slice_get ws k ≡ Some (first_word (br (& 0))) → slice_get ws (k + 1) ≡ Some (base_of f + 12) → k + 2 ≤ n
      → (r : Regs) (d : Data) (back : ℕ) → r.pc ≡ P + 2 * k → Safe f all (running f r d)
      → cell d.mem (base_of f + 12) ≡ back → in_public f.setup.section (back - back % 2) ≡ false → r.sr ≡ 0 → (OutsideKept f d.mem → Q (exited f (record r { pc = back - back % 2; sr = 0 }) d))
      → Runs f all B Q 1 (running f r d)
  return_out Q {P = P} {n = n} t k has has1 fits r d back pc safe is out sr0 after =
      let low = t.from in
      let high = t.to in
      let ev_ = t.is_even in
      let lim = st.below in
      let here : f.setup.section.layout.pub_from ≤ r.pc = omega arith in
      let ends : r.pc + 1 < f.setup.section.layout.pub_to = omega arith in
      let ev : r.pc % 2 ≡ 0 = omega arith in
      let next : (r.pc + 2) % 65536 ≡ P + 2 * (k + 1) = onward_to f st all B Q r.pc (P + 2 * (k + 1)) 2 (omega arith) (omega arith) in
      let x = start (running f r d).node in
      let ii : ℕ → ℕ → Instr = λ x y. Two op2.Mov false (Absolute x) (Reg 0) in
      let w = first_word (br (& 0)) in
      let reads = reads_of (br (& 0)) refl refl in
      let i0 : cell d.mem r.pc ≡ w = text_word f st all B Q d.mem r.pc w safe.memory here ends (ap (cell f.entered) pc ∙ t.word k w has) in
      let i1 : cell d.mem (P + 2 * (k + 1)) ≡ base_of f + 12 = text_word f st all B Q d.mem (P + 2 * (k + 1)) (base_of f + 12) safe.memory (omega arith) (omega arith)
      (t.word (k + 1) (base_of f + 12) has1) in
      let got = fetched f st all B Q ((r.pc + 2) % 65536) (P + 2 * (k + 1)) (base_of f + 12) x next (omega arith) (omega arith) (omega arith) safe.devices i1 in
      let at_ = tests_passed f st all B Q event.Quiet r d safe here ends ev ∙ plain_instruction f st all B Q event.Quiet r d w here ends ev i0 reads.plain
      ∙ program_two f st all B Q w (base_of f + 12) ii (regs16 f r) x reads got in
      let p12 = data_word f st 12 (low_shown _ 12 2 (omega arith)) (omega arith) refl (omega (arith, st.room)) in
      let r2 = record r { pc = back - back % 2; sr = 0 } in
      let stay : flags_after op2.Mov 0 0 r.sr ≡ 0 = flags_stay r.sr ∙ sr0 in
      let p = row (ii (base_of f + 12) 0) (at_pc (regs16 f r) ((r.pc + 2) % 65536)) ((r.pc + 4) % 65536) in
      let O = Out f st all B Q 0 d in
      let T = NoTell f st all B Q in
      let owed : Owes f O T (B (running f r d)) p d.mem = (base_of f + 12, refl, p12, back, is, λ kept. (r2, rw stay refl, out, λ kept2. Here (after kept2))) in
      let shown = step_shown f st all B Q (running f r d) w ev i0 reads.plain (shown_two f st all B Q w (base_of f + 12) ii (regs16 f r) x reads got
      (owes_shown f st O T (B (running f r d)) p x safe.devices safe.memory owed)) in
      from_exit f st all B Q 0 r d _ safe shown (record { from = here; to = omega arith }) at_ (owes_met f st O T (B (running f r d)) p x safe.devices safe.memory owed)

  pub leave_run : (c : Conf) (status count : ℕ) (rest : List ℕ) → f.sp % 2 ≡ 0 → in_public f.setup.section (saved c 15 - saved c 15 % 2) ≡ false → 14 ≤ length c.priv → (r : Regs) (d : Data)
      → Text f (at c.place) 17 (leave_words (base_of f)) → ShowsConfiguration f at (record c { stack = count ∷ status ∷ rest }) r d → Safe f all (running f r d)
      → Runs f all B (Departed f at (record c { stack = count ∷ status ∷ rest }) status count) 15 (running f r d)
  leave_run c status count rest sp_even out long r d t sh safe =
      let Q = Departed f at (record c { stack = count ∷ status ∷ rest }) status count in
      let h = sh.holds in
      let top = h.top in
      let p1 = stack_word f st r.sp (length (count ∷ status ∷ rest)) h.top (omega arith) (omega (arith, h.room)) in
      let p2 = stack_word f st (r.sp + 2) (length (status ∷ rest)) (omega arith) (omega arith) (omega (arith, h.room)) in
      let up : (r.sp + 2) % 65536 ≡ r.sp + 2 = omega (arith, p1.high, st.beneath) in
      let up2 : (r.sp + 2 + 2) % 65536 ≡ r.sp + 4 = omega (arith, p2.high, st.beneath) in
      let stay = flags_stay r.sr in
      let i12 : IsData 12 = record { low = omega arith; beside = inl (omega arith) } in
      let back : cell d.mem (base_of f + 12) ≡ saved c 15 = holds_word f st at c.back (count ∷ status ∷ rest) c.priv c.mem r.sp d.mem 12 h refl i12 long in
      let p148 = data_word f st 148 (mid_shown _ 148 2 (omega arith) (omega arith)) (omega arith) refl (omega (arith, st.room)) in
      let spe : f.sp - f.sp % 2 ≡ f.sp = omega (arith, sp_even) in
      let r1 = record r { pc = at c.place + 2; sp = r.sp + 2; r13 = count } in
      let q0 = record r1 { pc = at c.place + 4; sp = r.sp + 4; r12 = status } in
      let q10 = record q0 { pc = at c.place + 24; r4 = 0; r5 = 0; r6 = 0; r7 = 0; r8 = 0; r9 = 0; r10 = 0; r11 = 0; r14 = 0; r15 = 0 } in
      let z : 0 < 65536 = omega arith in
      let q11 = record q10 { pc = at c.place + 26; sr = 0 } in
      let q12 = record q11 { pc = at c.place + 30; sp = f.sp } in
      goes f st all B Q t 0 (pop r13) refl (omega arith) refl refl r d 14 (omega (arith, sh.pc)) safe r1 d.mem (inside t 1 (omega arith))
      (r.sp, refl, p1, count, h.words.0, (rw (up, stay) refl, refl)) (λ s1.
      goes f st all B Q t 1 (pop r12) refl (omega arith) refl refl r1 d 13 refl s1 q0 d.mem (inside t 2 (omega arith))
      (r.sp + 2, refl, p2, status, h.words.1.0, (rw (up2, stay) refl, refl)) (λ z0.
      loads f st all B Q t 2
      ((# 0, 4) ∷ (# 0, 5) ∷ (# 0, 6) ∷ (# 0, 7) ∷ (# 0, 8) ∷ (# 0, 9) ∷ (# 0, 10) ∷ (# 0, 11) ∷ (# 0, 14) ∷ (# 0, 15) ∷ []) refl (omega arith) refl
      (z, (z, (z, (z, (z, (z, (z, (z, (z, (z, tt)))))))))) q0 d 3 q0.pc refl z0 (λ z10.
      goes f st all B Q t 12 (clr sr) refl (omega arith) refl refl q10 d 2 refl z10 q11 d.mem (inside t 13 (omega arith)) (refl, refl) (λ z11.
      goes f st all B Q t 13 (mov (& (base_of f + 148)) sp) refl (omega arith) refl refl q11 d 1 refl z11 q12 d.mem (inside t 15 (omega arith))
      (base_of f + 148, refl, p148, f.sp, h.entry_sp, (rw spe refl, refl)) (λ z12.
      return_out Q t 15 refl refl (omega arith) q12 d (saved c 15) refl z12 back out refl
      (λ kept. record { rest = d; state = refl; kept = kept; sp = r.sp; holds = h; devices = sh.devices; marks = sh.marks }))))))
