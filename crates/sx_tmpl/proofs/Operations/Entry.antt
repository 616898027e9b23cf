-- The entry: from any registers to the first configuration.
use Rattle.sx_isa.specs.Instructions.{first_word}
use Rattle.sx_isa.specs.Assembly.{##◌, &◌, mov, r12, r13, r14, r15, sp}
use Rattle.sx_tmpl.proofs.Running.Instructions.{Gives, given, goes, reads_of}
use Rattle.sx_tmpl.specs.Template.{entry_words}
use Rattle.std.proofs.Common.{◌≡◌, ◌≢◌, ℕ, suc, ◌+◌, ◌-◌, ◌*◌, ◌%◌, ◌<◌, ◌≤◌, inl, inr, true, false, cond, List, [], length, None, refl, sym, ◌∙◌, ap, arith, slice_index}
use Rattle.sx_image.specs.Reach.{Here, Next, Ends, Goes}
use Rattle.sx_isa.specs.declared.instruction.Operand.TheVariants.{Reg, Absolute}
use Rattle.sx_isa.specs.declared.instruction.Op2.TheVariants as op2
use Rattle.sx_isa.specs.declared.instruction.Instr.TheVariants.{Two}
use Rattle.sx_rules.specs.declared.access.Violation.{Violation}
use Rattle.spec_machine.specs.declared.kinds.Event.{Event}
use Rattle.sx_bus.specs.Devices.{device_at}
use Rattle.sx_rules.specs.declared.access.Violation.TheVariants as bad
use Rattle.sx_rules.specs.Access.{in_private, holder, in_order}
use Rattle.sx_tmpl.proofs.Running.Mem.{word_is, get-put_other}
use Rattle.sx_tmpl.proofs.Running.Holding.{same_word, outside_stays, low_shown, mid_shown, data_place, data_word, holds_store}
use Rattle.sx_tmpl.proofs.Running.Steps.{text_word, fetched, program_two, shown_two, step_shown, by_outcome, Text, InText, Then, NoTell}
use Rattle.std.proofs.lemmas.List.{append-nil}
use Rattle.spec_machine.specs.Run.{Outcome, Finished, Violated, Module}
use Rattle.spec_machine.specs.Step.{own_of, start, attempt, instruction, ordered, word_outside, entered_from}
use Rattle.std.proofs.lemmas.Bool.{and_from, eq-eqb, ne_eqb}
use Rattle.sx_image.specs.Watched.{watch, Watched}
use Rattle.sx_tmpl.specs.Running.{sections_of, Regs, regs16, Fixed, Data, running, Safe, cell, OutsideKept}
use Rattle.sx_tmpl.proofs.Running.Owned.{own_above, run_holder, run_outside, entry_in_order, in_public_yes}
use Rattle.sx_tmpl.proofs.Running.Owes.{Met, owes_met, owes_shown}
use Rattle.sx_tmpl.specs.Unseen.{StepShowsNone}
use Rattle.sx_tmpl.proofs.Running.Flags.{flags_stay}
use Rattle.spec_machine.specs.Memory.{word, put_word}
use Rattle.spec_invocation.specs.Marks.{Mark}
use Rattle.sx_tmpl.proofs.Running.MidRun.{Stands, Runs, put_cell}
use Rattle.sx_tmpl.specs.Shows.{base_of, IsData, MemoryHolds, Stood}
use Rattle.spec_machine.specs.Rows.{row}
use Rattle.spec_machine.specs.Registers.{at_pc}
use Rattle.std.specs.Prelude.{◌==◌}
use Rattle.sx_isa.proofs.StandingLemmas.{even_same}
use Rattle.sx_tmpl.proofs.Operations.Plain.{inside}

-- the node as it enters the module: no module runs, PC is the entry, and the last instruction showed whatever it did
abbrev pub entering : Fixed → Regs → Data → ℕ → ℕ → Event → Watched
entering f r d last caller e = record {
  node = record {
    regs = regs16 f r;
    mem = d.mem;
    devices = d.devices;
    sections = sections_of f;
    cur = 0;
    last = last;
    caller = caller;
    boot = f.boot;
    key = f.key;
    exchange = d.exchange;
  };
  marks = d.marks;
  event = e;
}

module _ (f : Fixed) (st : Stands f) (all : List Mark) (B : Watched → Violation → Type 0) (at : ℕ → ℕ) (Q : Watched → Type 0) where
  from_entry : (n : ℕ) (r : Regs) (d : Data) (last caller : ℕ) (e : Event) (o : Outcome) → Safe f all (entering f r d last caller e) → StepShowsNone f.setup f.entered (entering f r d last caller e) → InText f r.pc
      → entered_from (entering f r d last caller e).node f.setup.section.id ≡ f.caller → attempt f.setup.mac (entering f r d last caller e).node ≡ o
      → Met f (Then f st all B Q n d) (NoTell f st all B Q) (B (entering f r d last caller e)) (start (entering f r d last caller e).node) o → Runs f all B Q (suc n) (entering f r d last caller e)
  unfolding watch
  from_entry n r d last caller e (Finished regs y) safe shown here from at_ h =
      let c = entering f r d last caller e in
      let r2 = h.2.0 in
      let d2 : Data = record d { mem = y.mem } in
      let o : Outcome = Finished (regs16 f r2) (record (start c.node) { mem = y.mem }) in
      let is : Finished regs y ≡ o = ap (λ z. Finished regs z) h.0 ∙ ap (λ g. Finished g (record (start c.node) { mem = y.mem })) h.2.1 in
      let own : own_of c.node ≡ f.setup.section.id = run_holder f st r.pc here.from here.to in
      let to : holder f.setup.live r2.pc ≡ f.setup.section.id = run_holder f st r2.pc h.2.2.from h.2.2.to in
      let same : (f.setup.section.id == f.setup.section.id) ≡ true = eq-eqb f.setup.section.id f.setup.section.id refl in
      let ne : (f.setup.section.id == 0) ≡ false = ne_eqb f.setup.section.id 0 (omega (arith, own_above f st)) in
      let s : watch f.setup.mac c ≡ Goes (running f r2 d2) = ap (by_outcome f st all B Q c) (at_ ∙ is)
      ∙ rw (own, to, from, same, ne) (ap (λ l. Goes (running f r2 (record d2 { marks = l }))) (append-nil d.marks)) in
      let safe2 : Safe f all (running f r2 d2) = record { inside = to; sections = refl; memory = h.1; devices = safe.devices; marks = safe.marks } in
      Next {k = n} (safe, shown) s (omega arith) (h.2.3 safe2)
  from_entry n r d last caller e (Violated v) safe shown here from at_ h = Ends (safe, shown) (rw at_ refl) (omega arith) h
  from_entry n r d last caller e (Module regs y t event exchange) safe shown here from at_ h = absurd h.3

  -- the first instruction
  first : (t : Text f f.setup.section.layout.pub_from 12 (entry_words (base_of f))) (r : Regs) (d : Data) (last caller : ℕ) (e : Event) (j : ℕ) → r.pc ≡ f.setup.section.layout.pub_from
      → Safe f all (entering f r d last caller e) → entered_from (entering f r d last caller e).node f.setup.section.id ≡ f.caller
      → (r2 : Regs) (m2 : List ℕ) → InText f r2.pc
      → Gives f r2 m2 (row (Two op2.Mov false (Reg 1) (Absolute (base_of f + 148))) (at_pc (regs16 f r) ((r.pc + 2) % 65536)) ((r.pc + 4) % 65536)) d.mem
      → (Safe f all (running f r2 (record d { mem = m2 })) → Runs f all B Q j (running f r2 (record d { mem = m2 }))) → Runs f all B Q (suc j) (entering f r d last caller e)
  first t r d last caller e j pc safe from r2 m2 to gives after =
      let P = f.setup.section.layout.pub_from in
      let low = t.from in
      let high = t.to in
      let ev_ = t.is_even in
      let lim = st.below in
      let here : P ≤ r.pc = omega arith in
      let ends : r.pc + 1 < f.setup.section.layout.pub_to = omega arith in
      let ev : r.pc % 2 ≡ 0 = omega arith in
      let s = (entering f r d last caller e).node in
      let x = start s in
      let next : (r.pc + 2) % 65536 ≡ P + 2 * (0 + 1) = omega arith in
      let w = first_word (mov sp (& 0)) in
      let reads = reads_of (mov sp (& 0)) refl refl in
      let i0 : cell d.mem r.pc ≡ w = text_word f st all B Q d.mem r.pc w safe.memory here ends (ap (cell f.entered) (omega arith) ∙ t.word 0 w refl) in
      let i1 : cell d.mem (P + 2 * (0 + 1)) ≡ base_of f + 148 = text_word f st all B Q d.mem (P + 2 * (0 + 1)) (base_of f + 148) safe.memory (omega arith) (omega arith)
      (t.word (0 + 1) (base_of f + 148) refl) in
      let got = fetched f st all B Q ((r.pc + 2) % 65536) (P + 2 * (0 + 1)) (base_of f + 148) x next (omega arith) (omega arith) (omega arith) safe.devices i1 in
      let e0 = even_same r.pc ev in
      let o1 = run_outside f st r.pc here (omega arith) in
      let o2 = run_outside f st (r.pc + 1) (omega arith) ends in
      let dev : device_at d.devices r.pc ≡ None = safe.devices r.pc ∙ st.public_plain r.pc (in_public_yes f.setup.section r.pc here (omega arith)) in
      let ord : in_order f.setup.live 0 r.pc ≡ true = ap (in_order f.setup.live 0) pc ∙ entry_in_order f st 0 (omega arith) in
      let out : word_outside f.setup.live r.pc ≡ true = rw e0 (and_from _ _ o1 o2) in
      let own : own_of s ≡ f.setup.section.id = run_holder f st r.pc here (omega arith) in
      let w0 : word d.mem r.pc ≡ w = word_is d.mem r.pc ev ∙ i0 in
      let plain = reads.plain in
      let at_ = ap (λ b. cond b (ordered f.setup.mac s (device_at d.devices r.pc)) (Violated bad.Fetch)) out
      ∙ ap (ordered f.setup.mac s) dev
      ∙ ap (λ b. cond b (instruction f.setup.mac s) (Violated bad.Order)) ord
      ∙ rw (w0, own) refl
      ∙ program_two f st all B Q w (base_of f + 148) (λ x y. Two op2.Mov false (Reg 1) (Absolute x)) (regs16 f r) x reads got in
      let p = row (Two op2.Mov false (Reg 1) (Absolute (base_of f + 148))) (at_pc (regs16 f r) ((r.pc + 2) % 65536)) ((r.pc + 4) % 65536) in
      let owed = given f st all B Q (B (entering f r d last caller e)) d j r2 m2 to after p d.mem gives in
      let shown = step_shown f st all B Q (entering f r d last caller e) w ev i0 plain (shown_two f st all B Q w (base_of f + 148) (λ x y. Two op2.Mov false (Reg 1) (Absolute x)) (regs16 f r) x reads got
      (owes_shown f st (Then f st all B Q j d) (NoTell f st all B Q) (B (entering f r d last caller e)) p x safe.devices safe.memory owed)) in
      from_entry j r d last caller e _ safe shown (record { from = here; to = omega arith }) from at_
      (owes_met f st (Then f st all B Q j d) (NoTell f st all B Q) (B (entering f r d last caller e)) p x safe.devices safe.memory owed)

-- the private section with the caller's R12 to R15 in their places
abbrev pub with_saved : List ℕ → Regs → List ℕ
with_saved priv r = put_word (put_word (put_word (put_word priv 6 r.r12) 8 r.r13) 10 r.r14) 12 r.r15

-- memory has the data of the private section and the bytes outside
pub record Loaded (f : Fixed) (priv outside m : List ℕ) : Type 0 where
  pub size : base_of f + length priv ≡ f.setup.section.layout.priv_to
  pub whole : length outside ≡ 65536
  pub bytes : (o : ℕ) → IsData o → o < length priv → slice_index m (base_of f + o) ≡ slice_index priv o
  pub others : (a : ℕ) → in_private f.setup.section a ≡ false → slice_index m a ≡ slice_index outside a

-- the caller's registers are words, and SP is the one that is given back
pub record Calls (f : Fixed) (r : Regs) : Type 0 where
  pub sp : r.sp ≡ f.sp
  pub sp_word : r.sp < 65536
  pub r12 : r.r12 < 65536
  pub r13 : r.r13 < 65536
  pub r14 : r.r14 < 65536
  pub r15 : r.r15 < 65536

module _ (f : Fixed) (st : Stands f) (all : List Mark) (B : Watched → Violation → Type 0) (at : ℕ → ℕ) where
  abbrev Q0 : List ℕ → List ℕ → Regs → Data → Watched → Type 0
  Q0 priv outside r d = Stood f all at (record { place = 0; stack = []; priv = with_saved priv r; mem = outside; devices = d.devices; marks = d.marks; back = None })

  -- SP is saved first
  holds_first : (priv outside m : List ℕ) → Loaded f priv outside m → OutsideKept f m → MemoryHolds f at None [] priv outside (base_of f + 512) (put_cell m (base_of f + 148) f.sp)
  holds_first priv outside m l k =
      let p = data_place f st 148 (omega arith) refl (omega (arith, st.room)) in
      record {
        top = omega arith;
        room = omega arith;
        whole = l.whole;
        words = tt;
        size = l.size;
        bytes = λ o i lt. get-put_other m (base_of f + 148) f.sp (base_of f + o) (apart o i) (apart1 o i) ∙ l.bytes o i lt;
        others = outside_stays f st m outside (base_of f + 148) f.sp p l.others;
        returns = tt;
        entry_sp = same_word f st m (base_of f + 148) f.sp k p;
      }
    where
      apart : (o : ℕ) → IsData o → base_of f + o ≢ base_of f + 148
      apart o i e = elim (i.beside) [ inl q ↦ omega arith | inr q ↦ omega arith ]

      apart1 : (o : ℕ) → IsData o → base_of f + o ≢ base_of f + 148 + 1
      apart1 o i e = elim (i.beside) [ inl q ↦ omega arith | inr q ↦ omega arith ]

  -- a register is stored in its place
  store : (o v : ℕ) (priv outside m : List ℕ) → 2 ≤ o → o + 2 ≤ 104 → o % 2 ≡ 0 → OutsideKept f m → MemoryHolds f at None [] priv outside (base_of f + 512) m
      → MemoryHolds f at None [] (put_word priv o v) outside (base_of f + 512) (put_cell m (base_of f + o) v)
  store o v priv outside m p q ev k h = holds_store f st at None [] priv outside (base_of f + 512) m o v k h ev (record { low = p; beside = inl (omega arith) }) (let z = h.size in let y = st.room in
      omega arith)

  pub entry_run : (t : Text f f.setup.section.layout.pub_from 12 (entry_words (base_of f))) (r : Regs) (d : Data) (last caller : ℕ) (e : Event) (priv outside : List ℕ)
      → r.pc ≡ f.setup.section.layout.pub_from → Safe f all (entering f r d last caller e) → entered_from (entering f r d last caller e).node f.setup.section.id ≡ f.caller
      → Calls f r → Loaded f priv outside d.mem → at 0 ≡ f.setup.section.layout.pub_from + 24 → Runs f all B (Q0 priv outside r d) 6 (entering f r d last caller e)
  entry_run t r d last caller e priv outside pc safe from calls loaded at0 =
      let b = base_of f in
      let P = f.setup.section.layout.pub_from in
      let lim = st.below in
      let high = t.to in
      let csp = calls.sp in
      let lsp = calls.sp_word in
      let stay = flags_stay r.sr in
      let v0 : r.sp % 65536 ≡ f.sp = omega arith in
      let l12 = calls.r12 in
      let l13 = calls.r13 in
      let l14 = calls.r14 in
      let l15 = calls.r15 in
      let ls : f.sp < 65536 = omega arith in
      let p148 = data_word f st 148 (mid_shown _ 148 2 (omega arith) (omega arith)) (omega arith) refl (omega (arith, st.room)) in
      let p6 = data_word f st 6 (low_shown _ 6 2 (omega arith)) (omega arith) refl (omega (arith, st.room)) in
      let p8 = data_word f st 8 (low_shown _ 8 2 (omega arith)) (omega arith) refl (omega (arith, st.room)) in
      let p10 = data_word f st 10 (low_shown _ 10 2 (omega arith)) (omega arith) refl (omega (arith, st.room)) in
      let p12 = data_word f st 12 (low_shown _ 12 2 (omega arith)) (omega arith) refl (omega (arith, st.room)) in
      let next : (r.pc + 4) % 65536 ≡ P + 4 = omega arith in
      let sp2 : (b + 512) % 65536 - (b + 512) % 65536 % 2 ≡ b + 512 = omega (arith, st.base_even, st.room, st.beneath) in
      let m0 = put_cell d.mem (b + 148) f.sp in
      let h0 = holds_first priv outside d.mem loaded safe.memory in
      let m1 = put_cell m0 (b + 6) r.r12 in
      let q1 = put_word priv 6 r.r12 in
      let m2 = put_cell m1 (b + 8) r.r13 in
      let q2 = put_word q1 8 r.r13 in
      let m3 = put_cell m2 (b + 10) r.r14 in
      let q3 = put_word q2 10 r.r14 in
      let m4 = put_cell m3 (b + 12) r.r15 in
      let r0 = record r { pc = P + 4 } in
      let r1 = record r { pc = P + 8 } in
      let r2 = record r { pc = P + 12 } in
      let r3 = record r { pc = P + 16 } in
      let r4 = record r { pc = P + 20 } in
      let r5 = record r { pc = P + 24; sp = b + 512 } in
      first f st all B at (Q0 priv outside r d) t r d last caller e 5 pc safe from r0 m0 (inside t 2 (omega arith))
      (b + 148, refl, p148, f.sp, v0, ls, (rw (stay, next) refl, refl)) (λ s0.
      goes f st all B (Q0 priv outside r d) t 2 (mov r12 (& (b + 6))) refl (omega arith) refl refl r0 (record d { mem = m0 }) 4 refl s0
      r1 m1 (inside t 4 (omega arith)) (b + 6, refl, p6, r.r12, omega arith, l12, (rw stay refl, refl)) (λ s1.
      goes f st all B (Q0 priv outside r d) t 4 (mov r13 (& (b + 8))) refl (omega arith) refl refl r1 (record d { mem = m1 }) 3 refl s1
      r2 m2 (inside t 6 (omega arith)) (b + 8, refl, p8, r.r13, omega arith, l13, (rw stay refl, refl)) (λ s2.
      goes f st all B (Q0 priv outside r d) t 6 (mov r14 (& (b + 10))) refl (omega arith) refl refl r2 (record d { mem = m2 }) 2 refl s2
      r3 m3 (inside t 8 (omega arith)) (b + 10, refl, p10, r.r14, omega arith, l14, (rw stay refl, refl)) (λ s3.
      goes f st all B (Q0 priv outside r d) t 8 (mov r15 (& (b + 12))) refl (omega arith) refl refl r3 (record d { mem = m3 }) 1 refl s3
      r4 m4 (inside t 10 (omega arith)) (b + 12, refl, p12, r.r15, omega arith, l15, (rw stay refl, refl)) (λ s4.
      goes f st all B (Q0 priv outside r d) t 10 (mov (## (b + 512)) sp) refl (omega arith) refl refl r4 (record d { mem = m4 }) 0 refl s4
      r5 m4 (inside t 12 (omega arith)) (rw (stay, sp2) refl, refl) (λ s5.
      Here (record {
        regs = r5;
        rest = record d { mem = m4 };
        state = refl;
        safe = s5;
        shows = record {
          pc = sym at0;
          holds = store 12 r.r15 q3 outside m3 (omega arith) (omega arith) refl s3.memory
              (store 10 r.r14 q2 outside m2 (omega arith) (omega arith) refl s2.memory
              (store 8 r.r13 q1 outside m1 (omega arith) (omega arith) refl s1.memory (store 6 r.r12 priv outside m0 (omega arith) (omega arith) refl s0.memory h0)));
          devices = refl;
          marks = refl;
        };
      })))))))
