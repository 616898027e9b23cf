-- The device's word: a write to an actuator and a read of a sensor, each with its mark.
use Rattle.sx_isa.specs.Instructions.{first_word}
use Rattle.sx_isa.specs.Standing.{words_of}
use Rattle.sx_isa.specs.Assembly.{&◌, pop, push}
use Rattle.std.proofs.Common.{◌≡◌, ℕ, zero, suc, ◌+◌, ◌-◌, ◌%◌, ◌<◌, ◌≤◌, true, false, cond, inr, List, [], ◌∷◌, ◌++◌, length, Some, refl, sym, ◌∙◌, ap, subst, arith}
use Rattle.sx_image.specs.Reach.{Here, Next, Goes}
use Rattle.sx_isa.specs.declared.instruction.Operand.TheVariants.{Increment, Absolute}
use Rattle.sx_isa.specs.declared.instruction.Op2.TheVariants as op2
use Rattle.sx_isa.specs.declared.instruction.Op1.TheVariants as op1
use Rattle.sx_isa.specs.declared.instruction.Instr.TheVariants.{Two, One}
use Rattle.sx_rules.specs.declared.access.Violation.{Violation}
use Rattle.spec_machine.specs.declared.kinds.Event.TheVariants as event
use Rattle.std.specs.Prelude.{slice_set, Ok, ◌==◌}
use Rattle.sx_bus.specs.declared.devices.Window.{Window}
use Rattle.sx_bus.specs.Devices.{device_at, on_word, with_changed, stale, cleared}
use Rattle.spec_invocation.specs.Marks as mark
use Rattle.spec_invocation.specs.Marks.{HasPrefix, Mark}
use Rattle.sx_tmpl.proofs.Running.Steps.{InText, by_outcome, two_does}
use Rattle.std.proofs.lemmas.List.{append-nil}
use Rattle.sx_rules.specs.Access.{holder}
use Rattle.spec_machine.specs.declared.kinds.Touch.{Touch}
use Rattle.spec_machine.specs.declared.kinds.Touch.TheVariants.{DeviceRead, DeviceWrite}
use Rattle.sx_bus.specs.declared.devices.Kind.TheVariants.{Sensor, Actuator}
use Rattle.std.specs.List.{position_from}
use Rattle.spec_machine.specs.Run.{Moment, Finished, untouched, with_touch, device_of, load, store, after_read, after_write}
use Rattle.sx_image.specs.Watched.{marks_of_touches, watch, Watched}
use Rattle.sx_tmpl.proofs.Running.Owned.{may_read, may_write, own_above, run_holder}
use Rattle.sx_tmpl.proofs.Running.Owes.{load_word, store_word, kept_word}
use Rattle.sx_tmpl.specs.Unseen.{IsWordShown, StepShowsNone}
use Rattle.spec_machine.specs.Step.{own_of, start, attempt}
use Rattle.sx_tmpl.proofs.Running.Flags.{flags_stay, flags_after}
use Rattle.sx_ir.specs.Conf.{Conf}
use Rattle.sx_ir.specs.Meaning.{next}
use Rattle.sx_tmpl.specs.Running.{Regs, regs16, Fixed, Data, running, Safe, cell, OutsideKept}
use Rattle.sx_tmpl.proofs.Running.MidRun.{Stands, Runs, place_of, put_cell, word_shown}
use Rattle.sx_tmpl.specs.Shows.{base_of, Stood}
use Rattle.spec_machine.specs.Registers.{at_pc}
use Rattle.std.proofs.lemmas.Bool.{eq-eqb, ne_eqb}
use Rattle.sx_isa.proofs.StandingLemmas.{even_same}
use Rattle.sx_tmpl.proofs.Operations.Plain.{inside, Leads}
use Rattle.sx_tmpl.proofs.Running.Instructions.{reads_of}
use Rattle.sx_tmpl.proofs.Running.Holding.{low_shown, stack_word, holds_push, holds_pop}

-- clearing a sensor's sample leaves where the devices are
at_cleared : (ds : List Window) (i n a : ℕ) → position_from (on_word a) n (with_changed stale ds i) ≡ position_from (on_word a) n ds
at_cleared [] i n a = refl
at_cleared (w ∷ ds) zero n a = refl
at_cleared (w ∷ ds) (suc i) n a = ap (λ o. cond (on_word a w) (Some n) o) (at_cleared ds i (n + 1) a)

module _ (f : Fixed) (st : Stands f) (all : List Mark) (B : Watched → Violation → Type 0) (Q : Watched → Type 0) where
  -- a step that touches a device
  from_touched : (n : ℕ) (r r2 : Regs) (d : Data) (m : List ℕ) (ds : List Window) (ts : List Touch) (new : List Mark) → Safe f all (running f r d) → StepShowsNone f.setup f.entered (running f r d)
      → InText f r.pc → InText f r2.pc
      → attempt f.setup.mac (running f r d).node ≡ Finished (regs16 f r2) (record { mem = m; devices = ds; touches = ts }) → marks_of_touches ts ≡ new → OutsideKept f m
      → ((a : ℕ) → device_at ds a ≡ device_at d.devices a) → HasPrefix all (d.marks ++ new)
      → (Safe f all (running f r2 (record { mem = m; devices = ds; exchange = d.exchange; marks = d.marks ++ new }))
      → Runs f all B Q n (running f r2 (record { mem = m; devices = ds; exchange = d.exchange; marks = d.marks ++ new }))) → Runs f all B Q (suc n) (running f r d)
  unfolding watch
  from_touched n r r2 d m ds ts new safe shown here there at_ told kept same marks after =
      let c = running f r d in
      let d2 : Data = record { mem = m; devices = ds; exchange = d.exchange; marks = d.marks ++ new } in
      let own : own_of c.node ≡ f.setup.section.id = run_holder f st r.pc here.from here.to in
      let to : holder f.setup.live r2.pc ≡ f.setup.section.id = run_holder f st r2.pc there.from there.to in
      let eq : (f.setup.section.id == f.setup.section.id) ≡ true = eq-eqb f.setup.section.id f.setup.section.id refl in
      let ne : (f.setup.section.id == 0) ≡ false = ne_eqb f.setup.section.id 0 (omega (arith, own_above f st)) in
      let s : watch f.setup.mac c ≡ Goes (running f r2 d2) = ap (by_outcome f st all B Q c) at_
      ∙ rw (own, to, eq, ne) (ap (λ l. Goes (running f r2 (record d2 { marks = d.marks ++ l }))) (append-nil (marks_of_touches ts) ∙ told)) in
      Next {k = n} (safe, shown) s (omega arith) (after (record { inside = to; sections = refl; memory = kept; devices = λ a. same a ∙ safe.devices a; marks = marks }))

module _ (f : Fixed) (st : Stands f) (all : List Mark) (B : Watched → Violation → Type 0) (at : ℕ → ℕ) where
  base_word : f.setup.section.layout.priv_from + 2 ≤ f.setup.section.layout.priv_to
  base_word = omega (arith, st.room)

  -- a write to the actuator at the private section's start
  store_actuator : (x : Moment) (v i : ℕ) (w : Window) → device_of x.devices (base_of f) ≡ Some (i, w) → w.kind ≡ Actuator
      → store f.setup.live f.setup.section.id true (base_of f) v x ≡ Ok (record x { touches = with_touch x.touches (DeviceWrite i v) })
  store_actuator x v i w found kind =
      let le = base_word in
      let e0 = even_same (base_of f) st.base_even in
      let m1 = may_write f st (base_of f) (omega arith) (omega arith) in
      let m2 = may_write f st (base_of f + 1) (omega arith) (omega arith) in
      rw (e0, m1, m2, found, kind) refl

  -- a read of the sensor there, which is fresh, and of one which isn't
  load_fresh : (x : Moment) (i : ℕ) (w : Window) → device_of x.devices (base_of f) ≡ Some (i, w) → w.kind ≡ Sensor → w.fresh ≡ true
      → load f.setup.live f.setup.section.id true (base_of f) x ≡ Ok (0x8000 + w.value, record { mem = x.mem; devices = cleared x.devices i; touches = with_touch x.touches (DeviceRead i w.value) })
  load_fresh x i w found kind fresh =
      let le = base_word in
      let e0 = even_same (base_of f) st.base_even in
      let m1 = may_read f st (base_of f) (omega arith) (omega arith) in
      let m2 = may_read f st (base_of f + 1) (omega arith) (omega arith) in
      rw (e0, m1, m2, found, kind, fresh) refl

  load_stale : (x : Moment) (i : ℕ) (w : Window) → device_of x.devices (base_of f) ≡ Some (i, w) → w.kind ≡ Sensor → w.fresh ≡ false
      → load f.setup.live f.setup.section.id true (base_of f) x ≡ Ok (0, x)
  load_stale x i w found kind fresh =
      let le = base_word in
      let e0 = even_same (base_of f) st.base_even in
      let m1 = may_read f st (base_of f) (omega arith) (omega arith) in
      let m2 = may_read f st (base_of f + 1) (omega arith) (omega arith) in
      rw (e0, m1, m2, found, kind, fresh) refl

  pub emit_leads : (c : Conf) (v i : ℕ) (w : Window) (rest : List ℕ) → device_of c.devices (base_of f) ≡ Some (i, w) → w.kind ≡ Actuator → HasPrefix all (c.marks ++ mark.Actuated i v ∷ [])
      → Leads f st all B at 2 (words_of (pop (& (base_of f)) ∷ [])) 1 (record c { stack = v ∷ rest }) (record (next c rest) { marks = c.marks ++ mark.Actuated i v ∷ [] })
  emit_leads c v i w rest found kind begins r d t on sh safe =
      let Q = Stood f all at (record (next c rest) { marks = c.marks ++ mark.Actuated i v ∷ [] }) in
      let h = sh.holds in
      let high = t.to in
      let low = t.from in
      let p1 = stack_word f st r.sp (length (v ∷ rest)) h.top (omega arith) (omega (arith, h.room)) in
      let up : (r.sp + 2) % 65536 ≡ r.sp + 2 = omega (arith, p1.high, st.beneath) in
      let r2 = record r { pc = at c.place + 4; sp = r.sp + 2 } in
      let x = start (running f r d).node in
      let here : device_of d.devices (base_of f) ≡ Some (i, w) = ap (λ ds. device_of ds (base_of f)) sh.devices ∙ found in
      let is : cell d.mem r.sp ≡ v = h.words.0 in
      let g : List ℕ = at_pc (regs16 f (record r { sp = (r.sp + 2) % 65536; sr = flags_after op2.Mov 0 0 r.sr })) (at c.place + 4) in
      let done : after_write (store f.setup.live f.setup.section.id true (base_of f) (cell d.mem r.sp) x) (λ y. Finished g y) ≡ Finished (regs16 f r2)
      (record x { touches = with_touch untouched (DeviceWrite i v) }) =
      ap (λ r. after_write r (λ y. Finished g y)) (store_actuator x (cell d.mem r.sp) i w here kind)
      ∙ ap (λ v. Finished g (record x { touches = with_touch untouched (DeviceWrite i v) })) is
      ∙ ap (λ g. Finished g (record x { touches = with_touch untouched (DeviceWrite i v) })) (rw (up, flags_stay r.sr) refl) in
      let does = two_does f st all B Q t 0 (first_word (pop (& 0))) (base_of f) (λ x y. Two op2.Mov false (Increment 1) (Absolute x)) refl refl (omega arith)
      (reads_of (pop (& 0)) refl refl) event.Quiet r d (omega (arith, sh.pc)) safe in
      let shown = does.1 (inr (subst (λ (a : ℕ). IsWordShown f.setup a) (sym (even_same r.sp p1.is_even)) (word_shown f.setup r.sp p1.shown), λ v y e z g. tt)) in
      let at_ = does.0
      ∙ ap (λ r. after_read r (λ v y. after_write (store f.setup.live f.setup.section.id true (base_of f) v y) (λ y. Finished g y))) (load_word f st r.sp r.sp x refl (place_of p1) safe.devices) ∙ done in
      let mk : d.marks ++ mark.Actuated i v ∷ [] ≡ c.marks ++ mark.Actuated i v ∷ [] = ap (λ l. l ++ mark.Actuated i v ∷ []) sh.marks in
      from_touched f st all B Q 0 r r2 d d.mem d.devices (with_touch untouched (DeviceWrite i v)) (mark.Actuated i v ∷ []) safe shown (record { from = omega (arith, sh.pc); to = omega (arith, sh.pc) })
      (inside t 2 (omega arith)) at_ refl safe.memory (λ a. refl) (subst (λ l. HasPrefix all l) (sym mk) begins)
      (λ s. Here (record {
        regs = r2;
        rest = record d { marks = d.marks ++ mark.Actuated i v ∷ [] };
        state = refl;
        safe = s;
        shows =
            record { pc = omega (arith, on); holds = holds_pop f st at c.back v rest c.priv c.mem r.sp d.mem h; devices = sh.devices; marks = mk };
      }))

  -- the sensor's word is pushed: fresh, with its mark, and stale
  pub sense_fresh : (c : Conf) (i : ℕ) (w : Window) → device_of c.devices (base_of f) ≡ Some (i, w) → w.kind ≡ Sensor → w.fresh ≡ true → w.value < 32768 → length c.stack < 160
      → HasPrefix all (c.marks ++ mark.Sampled i w.value ∷ [])
      → Leads f st all B at 2 (words_of (push (& (base_of f)) ∷ [])) 1 c
      (record (next c ((0x8000 + w.value) ∷ c.stack)) { devices = cleared c.devices i; marks = c.marks ++ mark.Sampled i w.value ∷ [] })
  sense_fresh c i w found kind fresh lv room begins r d t on sh safe =
      let Q = Stood f all at (record (next c ((0x8000 + w.value) ∷ c.stack)) { devices = cleared c.devices i; marks = c.marks ++ mark.Sampled i w.value ∷ [] }) in
      let h = sh.holds in
      let top = h.top in
      let high = t.to in
      let low = t.from in
      let v = 0x8000 + w.value in
      let sp = r.sp - 2 in
      let pr = stack_word f st sp (length (v ∷ c.stack)) (omega arith) (omega arith) (omega arith) in
      let down : (r.sp + 65534) % 65536 ≡ sp = omega (arith, st.beneath, st.room) in
      let r2 = record r { pc = at c.place + 4; sp = sp } in
      let x = start (running f r d).node in
      let here : device_of d.devices (base_of f) ≡ Some (i, w) = ap (λ ds. device_of ds (base_of f)) sh.devices ∙ found in
      let y : Moment = record { mem = d.mem; devices = cleared d.devices i; touches = with_touch untouched (DeviceRead i w.value) } in
      let same : (a : ℕ) → device_at (cleared d.devices i) a ≡ device_at f.devices a = λ a. at_cleared d.devices i 0 a ∙ safe.devices a in
      let g : List ℕ = at_pc (slice_set (at_pc (regs16 f r) (at c.place + 2)) 1 ((r.sp + 65534) % 65536)) (at c.place + 4) in
      let m2 = put_cell d.mem sp v in
      let zero_at : base_of f ≡ base_of f + 0 = omega arith in
      let does = two_does f st all B Q t 0 (first_word (push (& 0))) (base_of f) (λ x y. One op1.Push false (Absolute x)) refl refl (omega arith)
      (reads_of (push (& 0)) refl refl) event.Quiet r d (omega (arith, sh.pc)) safe in
      let shown = does.1 (inr (word_shown f.setup _ (0, even_same (base_of f) st.base_even ∙ zero_at, low_shown (length f.setup.ends) 0 2 (omega arith)), λ v y e z g. tt)) in
      let at_ = does.0
      ∙ ap (λ r_. after_read r_ (λ v y. after_write (store f.setup.live f.setup.section.id true ((r.sp + 65534) % 65536) v y) (λ y. Finished g y))) (load_fresh x i w here kind fresh)
      ∙ ap (λ o. after_write o (λ y. Finished g y)) (store_word f st ((r.sp + 65534) % 65536) sp v y down (place_of pr) same)
      ∙ ap (λ g. Finished g (record y { mem = m2 })) (rw down refl) in
      let mk : d.marks ++ mark.Sampled i w.value ∷ [] ≡ c.marks ++ mark.Sampled i w.value ∷ [] = ap (λ l. l ++ mark.Sampled i w.value ∷ []) sh.marks in
      from_touched f st all B Q 0 r r2 d m2 (cleared d.devices i) (with_touch untouched (DeviceRead i w.value)) (mark.Sampled i w.value ∷ []) safe shown
      (record { from = omega (arith, sh.pc); to = omega (arith, sh.pc) }) (inside t 2 (omega arith)) at_ refl
      (kept_word f st d.mem sp v safe.memory (place_of pr) (omega arith)) (λ a. at_cleared d.devices i 0 a) (subst (λ l. HasPrefix all l) (sym mk) begins)
      (λ s. Here (record {
        regs = r2;
        rest = record { mem = m2; devices = cleared d.devices i; exchange = d.exchange; marks = d.marks ++ mark.Sampled i w.value ∷ [] };
        state = refl;
        safe = s;
        shows = record {
          pc = omega (arith, on);
          holds = holds_push f st at c.back c.stack c.priv c.mem r.sp d.mem sp v safe.memory h (omega arith) (omega arith);
          devices = ap (λ ds. cleared ds i) sh.devices;
          marks = mk;
        };
      }))

  pub sense_stale : (c : Conf) (i : ℕ) (w : Window) → device_of c.devices (base_of f) ≡ Some (i, w) → w.kind ≡ Sensor → w.fresh ≡ false → length c.stack < 160
      → Leads f st all B at 2 (words_of (push (& (base_of f)) ∷ [])) 1 c (next c (0 ∷ c.stack))
  sense_stale c i w found kind fresh room r d t on sh safe =
      let Q = Stood f all at (next c (0 ∷ c.stack)) in
      let h = sh.holds in
      let top = h.top in
      let high = t.to in
      let low = t.from in
      let sp = r.sp - 2 in
      let pr = stack_word f st sp (length (0 ∷ c.stack)) (omega arith) (omega arith) (omega arith) in
      let down : (r.sp + 65534) % 65536 ≡ sp = omega (arith, st.beneath, st.room) in
      let r2 = record r { pc = at c.place + 4; sp = sp } in
      let x = start (running f r d).node in
      let here : device_of d.devices (base_of f) ≡ Some (i, w) = ap (λ ds. device_of ds (base_of f)) sh.devices ∙ found in
      let g : List ℕ = at_pc (slice_set (at_pc (regs16 f r) (at c.place + 2)) 1 ((r.sp + 65534) % 65536)) (at c.place + 4) in
      let m2 = put_cell d.mem sp 0 in
      let zero_at : base_of f ≡ base_of f + 0 = omega arith in
      let does = two_does f st all B Q t 0 (first_word (push (& 0))) (base_of f) (λ x y. One op1.Push false (Absolute x)) refl refl (omega arith)
      (reads_of (push (& 0)) refl refl) event.Quiet r d (omega (arith, sh.pc)) safe in
      let shown = does.1 (inr (word_shown f.setup _ (0, even_same (base_of f) st.base_even ∙ zero_at, low_shown (length f.setup.ends) 0 2 (omega arith)), λ v y e z g. tt)) in
      let at_ = does.0
      ∙ ap (λ r_. after_read r_ (λ v y. after_write (store f.setup.live f.setup.section.id true ((r.sp + 65534) % 65536) v y) (λ y. Finished g y))) (load_stale x i w here kind fresh)
      ∙ ap (λ o. after_write o (λ y. Finished g y)) (store_word f st ((r.sp + 65534) % 65536) sp 0 x down (place_of pr) safe.devices)
      ∙ ap (λ g. Finished g (record x { mem = m2 })) (rw down refl) in
      from_touched f st all B Q 0 r r2 d m2 d.devices untouched [] safe shown (record { from = omega (arith, sh.pc); to = omega (arith, sh.pc) }) (inside t 2 (omega arith)) at_ refl
      (kept_word f st d.mem sp 0 safe.memory (place_of pr) (omega arith)) (λ a. refl) (subst (λ l. HasPrefix all l) (sym (append-nil d.marks)) safe.marks)
      (λ s. Here (record {
        regs = r2;
        rest = record { mem = m2; devices = d.devices; exchange = d.exchange; marks = d.marks ++ [] };
        state = refl;
        safe = s;
        shows = record {
          pc = omega (arith, on);
          holds = holds_push f st at c.back c.stack c.priv c.mem r.sp d.mem sp 0 safe.memory h (omega arith) (omega arith);
          devices = sh.devices;
          marks = append-nil d.marks ∙ sh.marks;
        };
      }))
