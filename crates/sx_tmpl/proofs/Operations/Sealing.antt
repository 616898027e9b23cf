-- Wrap and unwrap as one step each: buffers in the private section are never refused.
use Rattle.std.proofs.Common.{◌≡◌, ℕ, suc, ◌+◌, ◌-◌, ◌*◌, ◌%◌, ◌<◌, ◌≤◌, ◌⊎◌, inl, inr, true, false, not, ◌&&◌, ◌==◌, nat_le, nat_lt, List, [], ◌∷◌, ◌++◌}
use Rattle.std.proofs.Common.{length, take, Option, Some, None, refl, sym, ◌∙◌, ap, subst, arith, cond}
use Rattle.std.specs.Prelude.{slice_get}
use Rattle.std.specs.List.{list_any, position_from}
use Rattle.std.proofs.lemmas.Bool.{and_from, eq-eqb, ne_eqb, le-leb, le-ltb, lt-ltb, ltb-true, and_parts, cases_Bool, cases_lt, true≢false}
use Rattle.std.proofs.lemmas.Option.{none-some}
use Rattle.std.proofs.lemmas.List.{append-nil, length-take}
use Rattle.sx_image.specs.Reach.{Goes, Next, Ends}
use Rattle.sx_bus.specs.declared.devices.Window.{Window}
use Rattle.sx_bus.specs.Devices.{device_at, on_word, places_of}
use Rattle.sx_rules.specs.declared.access.Violation.{Violation}
use Rattle.sx_rules.specs.Access.{holder}
use Rattle.std.proofs.Math.Seq.{take-append_seam}
use Rattle.sx_tag.proofs.TagBytes.{tag_short}
use Rattle.sx_tag.specs.Mac.{Mac}
use Rattle.sx_tag.specs.Wrap.{Wrapped, wrapped, unwrapped, padded, crypt, xor_bytes, stream}
use Rattle.spec_machine.specs.declared.kinds.Event.{Event}
use Rattle.spec_machine.specs.declared.kinds.Event.TheVariants as event
use Rattle.spec_machine.specs.declared.kinds.Exchange.{Exchange}
use Rattle.spec_machine.specs.Memory.{bytes_from, put_bytes, word}
use Rattle.spec_machine.specs.Ranges.{meets, passes_end, meets_device}
use Rattle.spec_machine.specs.Plan.{Plan, Bytes, Put, Tell, Writable}
use Rattle.spec_machine.specs.Given.{Given, own_section, concluded}
use Rattle.spec_machine.specs.Run.{Outcome, Finished, Violated, Module, exec}
use Rattle.spec_machine.specs.Rows.{program}
use Rattle.spec_machine.specs.Modules.{module_instruction}
use Rattle.spec_machine.specs.ModuleRows.{own_key, buffers, tested, with_inputs, exchanged, wrap, unwrap, opened, within, module_row}
use Rattle.spec_machine.specs.Step.{own_of, start, is_module_word, given_at_pc, attempt}
use Rattle.spec_machine.specs.State.{State}
use Rattle.spec_invocation.specs.Marks as mark
use Rattle.spec_invocation.specs.Marks.{Mark, HasPrefix}
use Rattle.sx_image.specs.Watched.{Watched, watch, violation_of, marks_of_event}
use Rattle.sx_tmpl.specs.Running.{Regs, regs16, Fixed, Data, sections_of, running_after, Safe}
use Rattle.sx_tmpl.proofs.Running.MidRun.{Stands, Runs, PrivateRange}
use Rattle.sx_tmpl.proofs.Running.Owned.{own_found, run_holder, in_private_yes}
use Rattle.sx_tmpl.proofs.Running.Owes.{OwesSeal, Met, seal_met}
use Rattle.sx_tmpl.specs.Shows.{base_of}
use Rattle.sx_tmpl.specs.Unseen.{AreShown, StepShowsNone, WasOpen, WordShowsNone}
use Rattle.sx_mean.specs.Offsets.{end_key_at}
use Rattle.sx_mean.specs.Working.{plain_at}
use Rattle.sx_tmpl.proofs.Running.Mem.{word_is}
use Rattle.sx_tmpl.proofs.Running.Steps.{InText, Text, by_outcome, reached, tests_passed}
use Rattle.spec_machine.proofs.Lengths.{length-bytes_from}

-- no device's word meets bytes that lie on none
none_meets : (devices : List Window) (at n i : ℕ) → ((b : ℕ) → at ≤ b → b < at + n → position_from (on_word b) i devices ≡ None)
    → list_any (λ place. meets at n place (place + 2)) (places_of devices) ≡ false
none_meets [] at n i h = refl
none_meets (w ∷ ws) at n i h = rw (here, none_meets ws at n (i + 1) (λ b p q. later b (h b p q))) refl
  where
    first : (b : ℕ) → position_from (on_word b) i (w ∷ ws) ≡ None → on_word b w ≡ false
    first b e = elim (cases_Bool (on_word b w)) [ inl t ↦ absurd (none-some i (sym (rw t at e))) | inr t ↦ t ]

    later : (b : ℕ) → position_from (on_word b) i (w ∷ ws) ≡ None → position_from (on_word b) (i + 1) ws ≡ None
    later b e = let t = first b e in rw t at e

    here : meets at n w.at (w.at + 2) ≡ false
    here = elim (cases_Bool (meets at n w.at (w.at + 2))) [
      | inl t ↦
          let p = and_parts (nat_lt 0 n) (nat_lt at (w.at + 2) && nat_lt w.at (at + n)) t in
          let q = and_parts (nat_lt at (w.at + 2)) (nat_lt w.at (at + n)) p.1 in
          let some : 0 < n = ltb-true 0 n p.0 in
          let q0 : at < w.at + 2 = ltb-true at (w.at + 2) q.0 in
          let q1 : w.at < at + n = ltb-true w.at (at + n) q.1 in
          elim (cases_lt at w.at) [
            | inl lt ↦ absurd (true≢false (sym (and_from _ _ (le-leb w.at w.at (omega arith)) (lt-ltb w.at (w.at + 2) (omega arith))) ∙ first w.at (h w.at (omega arith) q1)))
            | inr ge ↦ absurd (true≢false (sym (and_from _ _ (le-leb w.at at ge) (lt-ltb at (w.at + 2) q0)) ∙ first at (h at (omega arith) (omega arith))))
          ]
      | inr t ↦ t
    ]

module _ (f : Fixed) (st : Stands f) (all : List Mark) (B : Watched → Violation → Type 0) (Q : Watched → Type 0) where
  abbrev pub NoDone : List ℕ → List ℕ → Type 0
  NoDone regs m = ⊥

  -- what is to follow a module instruction that tells
  abbrev pub Tells : ℕ → Data → List ℕ → Event → Exchange → List ℕ → Type 0
  Tells n d regs ev x m = (r2 : Regs) × (regs ≡ regs16 f r2) × InText f r2.pc × (violation_of ev ≡ None) × (new : List Mark) × (marks_of_event ev x ≡ new) × HasPrefix all (d.marks ++ new)
      × (Safe f all (running_after ev f r2 (record d { mem = m; exchange = x; marks = d.marks ++ new }))
      → Runs f all B Q n (running_after ev f r2 (record d { mem = m; exchange = x; marks = d.marks ++ new })))

  -- the instruction's gift, with the module as the one whose code it is
  abbrev pub given_own : Event → Regs → Data → Given
  given_own e r d = record (given_at_pc f.setup.mac (running_after e f r d).node) { own = f.setup.section.id }

  from_told : (n : ℕ) (e : Event) (r : Regs) (d : Data) (o : Outcome) → Safe f all (running_after e f r d) → StepShowsNone f.setup f.entered (running_after e f r d) → InText f r.pc → attempt f.setup.mac (running_after e f r d).node ≡ o
      → Met f NoDone (Tells n d) (B (running_after e f r d)) (start (running_after e f r d).node) o → Runs f all B Q (suc n) (running_after e f r d)
  unfolding watch
  from_told n e r d (Finished regs y) safe shown here at h = absurd h.2
  from_told n e r d (Violated v) safe shown here at h = Ends (safe, shown) (rw at refl) (omega arith) h
  from_told n e r d (Module regs y t ev x) safe shown here at h =
      let c = running_after e f r d in
      let told = h.3 in
      let r2 = told.0 in
      let new = told.4 in
      let d2 : Data = record d { mem = y.mem; exchange = x; marks = d.marks ++ new } in
      let o : Outcome = Module (regs16 f r2) (record (start c.node) { mem = y.mem }) (sections_of f) ev x in
      let is : Module regs y t ev x ≡ o = ap (λ z. Module regs z t ev x) h.0 ∙ ap (λ u. Module regs (record (start c.node) { mem = y.mem }) u ev x) h.2
      ∙ ap (λ g. Module g (record (start c.node) { mem = y.mem }) (sections_of f) ev x) told.1 in
      let own : own_of c.node ≡ f.setup.section.id = run_holder f st r.pc here.from here.to in
      let to : holder f.setup.live r2.pc ≡ f.setup.section.id = run_holder f st r2.pc told.2.from told.2.to in
      let same : (f.setup.section.id == f.setup.section.id) ≡ true = eq-eqb f.setup.section.id f.setup.section.id refl in
      let quiet = told.3 in
      let marks = told.5 in
      let s : watch f.setup.mac c ≡ Goes (running_after ev f r2 d2) = ap (by_outcome f st all B Q c) (at ∙ is)
      ∙ rw (quiet, own, to, same) (ap (λ l. Goes (running_after ev f r2 (record d2 { marks = d.marks ++ l }))) marks) in
      let safe2 : Safe f all (running_after ev f r2 d2) = record { inside = to; sections = refl; memory = h.1; devices = safe.devices; marks = told.6 } in
      Next {k = n} (safe, shown) s (omega arith) (told.7 safe2)

  -- the instruction at PC by its first word
  abbrev at_word : ℕ → State → Outcome
  at_word w a = cond (is_module_word w) (module_instruction f.setup.mac (w - 0x1380) (given_at_pc f.setup.mac a) a.mem) (exec a.sections (own_of a) (program w a.regs) (start a))

-- the key of a wrap or unwrap: the module's own, or sixteen bytes of the private section
pub data KeyAt (f : Fixed) (r : Regs) (d : Data) (key : List ℕ) : Type 0 where
  OwnKey : r.r9 ≡ 0 → f.setup.section.key ≡ key → KeyAt f r d key
  KeyIn : (k : ℕ) → k < length f.setup.ends → r.r9 ≡ base_of f + end_key_at k → PrivateRange f r.r9 16 → bytes_from d.mem r.r9 16 ≡ key
      → WasOpen f.setup f.entered k key → KeyAt f r d key

-- its other buffers: the header, the body or cipher, the place of the other, and the tag
pub record Buffers (f : Fixed) (r : Regs) : Type 0 where
  pub header : PrivateRange f r.r10 r.r11
  pub text : PrivateRange f r.r12 r.r13
  pub out : PrivateRange f r.r14 r.r13
  pub tag : PrivateRange f r.r15 16
  pub few : r.r11 ≤ 32
  pub short : r.r13 ≤ 32
  pub header_shown : AreShown f.setup r.r10 r.r11
  pub text_shown : AreShown f.setup r.r12 r.r13

module _ (f : Fixed) (st : Stands f) where
  no_passing : (a n : ℕ) → PrivateRange f a n → passes_end a n ≡ false
  no_passing a n p = le-ltb 65536 (a + n) (omega (arith, p.high, st.beneath))

  no_meeting : (ds : List Window) (a n : ℕ) → ((b : ℕ) → device_at ds b ≡ device_at f.devices b) → PrivateRange f a n → meets_device (places_of ds) a n ≡ false
  no_meeting ds a n same p =
      none_meets ds a n 0 (λ b x y. same b ∙ st.private_plain b (in_private_yes f.setup.section b (omega (arith, p.low)) (omega (arith, p.high))) (omega (arith, p.low)))

  empty_meets : (ps : List ℕ) (a : ℕ) → meets_device ps a 0 ≡ false
  empty_meets [] a = refl
  empty_meets (p ∷ ps) a = empty_meets ps a

  range_shorter : (a n k : ℕ) → PrivateRange f a n → k ≤ n → PrivateRange f a k
  range_shorter a n k p h = record { low = p.low; high = omega (arith, p.high) }

  -- what both begin with is owed
  module _ (all : List Mark) (e : Event) (r : Regs) (d : Data) (T : List ℕ → Event → Exchange → List ℕ → Type 0) (B : Violation → Type 0) (Bw : Watched → Violation → Type 0) (Q : Watched
      → Type 0) where
    abbrev g : Given
    g = given_own f st all Bw Q e r d

    abbrev OwesT : Plan → Type 0
    OwesT p = OwesSeal f (NoDone f st all Bw Q) T B p d.mem

    tests_met : (rest : Plan) → ((b : ℕ) → device_at d.devices b ≡ device_at f.devices b) → Buffers f r → passes_end r.r9 (cond (own_key (regs16 f r)) 0 16) ≡ false
        → meets_device (places_of d.devices) r.r9 (cond (own_key (regs16 f r)) 0 16) ≡ false → OwesT rest → OwesT (tested g (buffers g.regs) rest)
    tests_met rest same bs k1 k2 owed =
        let p1 = no_passing r.r10 r.r11 bs.header in
        let p2 = no_passing r.r12 r.r13 bs.text in
        let p3 = no_passing r.r14 r.r13 bs.out in
        let p4 = no_passing r.r15 16 bs.tag in
        let q1 = no_meeting d.devices r.r10 r.r11 same bs.header in
        let q2 = no_meeting d.devices r.r12 r.r13 same bs.text in
        let q3 = no_meeting d.devices r.r14 r.r13 same bs.out in
        let q4 = no_meeting d.devices r.r15 16 same bs.tag in
        let x1 : list_any (λ b. passes_end b.at b.count) (buffers (regs16 f r)) ≡ false = rw (k1, p1, p2, p3, p4) refl in
        let x2 : list_any (λ b. meets_device (places_of d.devices) b.at b.count) (buffers (regs16 f r)) ≡ false = rw (k2, q1, q2, q3, q4) refl in
        ((λ no_. absurd (true≢false (sym (ap not x1) ∙ no_))), (λ _. ((λ no_. absurd (true≢false (sym (ap not x2) ∙ no_))), (λ _. owed))))

    pub inputs_met : (key : List ℕ) (rest : List ℕ → List ℕ → List ℕ → Plan) → ((b : ℕ) → device_at d.devices b ≡ device_at f.devices b) → Buffers f r → KeyAt f r d key
        → OwesT (rest key (bytes_from d.mem r.r10 r.r11) (bytes_from d.mem r.r12 r.r13)) → OwesT (with_inputs g f.setup.section rest)
    inputs_met key rest same bs (OwnKey z is) owed =
        let own : own_key (regs16 f r) ≡ true = eq-eqb r.r9 0 z in
        let lens : (nat_le r.r11 32 && nat_le r.r13 32) ≡ true = and_from _ _ (le-leb r.r11 32 bs.few) (le-leb r.r13 32 bs.short) in
        let k1 : passes_end r.r9 (cond (own_key (regs16 f r)) 0 16) ≡ false = rw own (le-ltb 65536 (r.r9 + 0) (omega (arith, z))) in
        let k2 : meets_device (places_of d.devices) r.r9 (cond (own_key (regs16 f r)) 0 16) ≡ false = rw own (empty_meets (places_of d.devices) r.r9) in (
          (λ no_. absurd (true≢false (sym lens ∙ no_))),
          (λ _. tests_met _ same bs k1 k2
              (subst (λ b. OwesT (cond b (body f.setup.section.key) (Bytes r.r9 16 body))) (sym own) (subst (λ key. OwesT (body key)) (sym is) (bs.header, (bs.text, owed))))),
        )
      where
        body : List ℕ → Plan
        body key = Bytes r.r10 r.r11 (λ ad. Bytes r.r12 r.r13 (λ text. rest key ad text))
    inputs_met key rest same bs (KeyIn i one place p is kept) owed =
        let own : own_key (regs16 f r) ≡ false = ne_eqb r.r9 0 (omega (arith, p.low)) in
        let lens : (nat_le r.r11 32 && nat_le r.r13 32) ≡ true = and_from _ _ (le-leb r.r11 32 bs.few) (le-leb r.r13 32 bs.short) in
        let k1 : passes_end r.r9 (cond (own_key (regs16 f r)) 0 16) ≡ false = rw own (no_passing r.r9 16 p) in
        let k2 : meets_device (places_of d.devices) r.r9 (cond (own_key (regs16 f r)) 0 16) ≡ false = rw own (no_meeting d.devices r.r9 16 same p) in (
          (λ no_. absurd (true≢false (sym lens ∙ no_))),
          (λ _. tests_met _ same bs k1 k2
              (subst (λ b. OwesT (cond b (body f.setup.section.key) (Bytes r.r9 16 body))) (sym own) (p, subst (λ key. OwesT (body key)) (sym is) (bs.header, (bs.text, owed))))),
        )
      where
        body : List ℕ → Plan
        body key = Bytes r.r10 r.r11 (λ ad. Bytes r.r12 r.r13 (λ text. rest key ad text))

xor_short : (bs ks : List ℕ) → length (xor_bytes bs ks) ≤ length bs
xor_short [] ks = omega arith
xor_short (b ∷ bs) [] = omega arith
xor_short (b ∷ bs) (k ∷ ks) = let h = xor_short bs ks in omega arith

pub crypt_short : (mac : Mac) (key ad bs : List ℕ) → length (crypt mac key ad bs) ≤ length bs
unfolding crypt
crypt_short mac key ad bs = xor_short bs (stream mac key ad)

-- the mark of an exchange of a header and a body
mark_of : (regs ad body : List ℕ) → (take (length ad) (padded ad) ≡ ad) × (take (length body) (padded body) ≡ body)
mark_of regs ad body = (take-append_seam ad _, take-append_seam body _)

module _ (f : Fixed) (st : Stands f) (all : List Mark) (B : Watched → Violation → Type 0) (Q : Watched → Type 0) where
  -- a module instruction in the text is fetched, and its row is run as code of the module
  module_fetched : {P n : ℕ} {ws : List ℕ} (t : Text f P n ws) (k w code : ℕ) → slice_get ws k ≡ Some w → k + 1 ≤ n → (e : Event) (r : Regs) (d : Data) → r.pc ≡ P + 2 * k
      → Safe f all (running_after e f r d)
      → ((a : State) → at_word f st all B Q w a ≡ exec a.sections (own_of a) (module_row f.setup.mac code (given_at_pc f.setup.mac a)) (start a))
      → attempt f.setup.mac (running_after e f r d).node ≡ exec (sections_of f) f.setup.section.id (module_row f.setup.mac code (given_own f st all B Q e r d)) (start (running_after e f r d).node)
  module_fetched {P = P} {n = n} t k w code has fits e r d pc safe row =
      let x = reached f st all B Q t k w has fits r d.mem pc safe.memory in
      let a = (running_after e f r d).node in
      let e1 : word d.mem r.pc ≡ w = word_is d.mem r.pc x.is_even ∙ x.is in
      let own : own_of a ≡ f.setup.section.id = run_holder f st r.pc x.here (omega (arith, x.ends)) in
      tests_passed f st all B Q e r d safe x.here x.ends x.is_even ∙ ap (λ w. at_word f st all B Q w a) e1 ∙ row a
      ∙ ap (λ o. exec (sections_of f) o (module_row f.setup.mac code (record (given_at_pc f.setup.mac a) { own = o })) (start a)) own

  -- what it shows
  seal_shown : {P n : ℕ} {ws : List ℕ} (t : Text f P n ws) (k w : ℕ) → slice_get ws k ≡ Some w → k + 1 ≤ n → (e : Event) (r : Regs) (d : Data) (key : List ℕ) → r.pc ≡ P + 2 * k
      → Safe f all (running_after e f r d) → is_module_word w ≡ true → (w ≡ 0x1384) ⊎ (w ≡ 0x1385) → Buffers f r → KeyAt f r d key → (w ≡ 0x1384 → r.r9 ≡ 0 → r.r13 ≡ 0) → (w ≡ 0x1385 → AreShown f.setup r.r15 16) → (w ≡ 0x1385 → r.r9 ≡ 0 → (r.r14 ≡ base_of f + plain_at) × (r.r13 ≤ 16))
      → StepShowsNone f.setup f.entered (running_after e f r d)
  seal_shown t k w has fits e r d key pc safe module_ seals bs key_at bodiless_ tag opened_ =
      let x = reached f st all B Q t k w has fits r d.mem pc safe.memory in
      let a = running_after e f r d in
      let e1 : word d.mem r.pc ≡ w = word_is d.mem r.pc x.is_even ∙ x.is in
      subst (λ (z : ℕ). WordShowsNone f.setup f.entered a z (is_module_word z)) (sym e1) (subst (λ b. WordShowsNone f.setup f.entered a w b) (sym module_)
      (record { seals = seals; key = key_in key_at; header = bs.header_shown; text = bs.text_shown; bodiless = bodiless_; tag = tag; opened = opened_ }))
    where
      key_in : KeyAt f r d key → (r.r9 ≡ 0) ⊎ ((i : ℕ) × (i < length f.setup.ends) × (r.r9 ≡ f.setup.section.layout.priv_from + end_key_at i)
          × WasOpen f.setup f.entered i (bytes_from d.mem r.r9 16))
      key_in (OwnKey z is) = inl z
      key_in (KeyIn i one place p is kept) = inr (i, one, place, subst (λ (l : List ℕ). WasOpen f.setup f.entered i l) (sym is) kept)

  next_pc : {P n : ℕ} {ws : List ℕ} (t : Text f P n ws) (k : ℕ) (r : Regs) → k + 1 ≤ n → r.pc ≡ P + 2 * k → (r.pc + 2) % 65536 ≡ P + 2 * (k + 1)
  next_pc t k r le pc = omega (arith, t.to, st.below)

  abbrev sealed : Regs → Data → List ℕ → Wrapped
  sealed r d key = wrapped f.setup.mac key (bytes_from d.mem r.r10 r.r11) (bytes_from d.mem r.r12 r.r13)

  -- what is to follow a wrap of this header and body under this key
  abbrev pub WrapThen : ℕ → Event → Regs → Data → ℕ → List ℕ → List ℕ → List ℕ → Type 0
  WrapThen j e r d pc key ad body =
      let w = wrapped f.setup.mac key ad body in
      let marks = d.marks ++ mark.Wrapped ad body (r.r9 == 0) ∷ [] in
      HasPrefix all marks
      → ((x : Exchange) → let r2 = record r { pc = pc; r15 = 1 } in
      let d2 : Data = record d { mem = put_bytes (put_bytes d.mem r.r14 w.cipher) r.r15 w.tag; exchange = x; marks = marks } in
      Safe f all (running_after (event.Wrapped f.setup.section.id) f r2 d2) → Runs f all B Q j (running_after (event.Wrapped f.setup.section.id) f r2 d2))
      → Runs f all B Q (suc j) (running_after e f r d)

  -- wrap
  pub wrap_step : {P n : ℕ} {ws : List ℕ} (t : Text f P n ws) (k : ℕ) → slice_get ws k ≡ Some 0x1384 → k + 1 ≤ n → (e : Event) (r : Regs) (d : Data) (key : List ℕ) (j : ℕ) → r.pc ≡ P + 2 * k
      → Safe f all (running_after e f r d)
      → Buffers f r → KeyAt f r d key → (r.r9 ≡ 0 → r.r13 ≡ 0) → WrapThen j e r d (P + 2 * (k + 1)) key (bytes_from d.mem r.r10 r.r11) (bytes_from d.mem r.r12 r.r13)
  unfolding module_row
  wrap_step {P = P} t k has fits e r d key j pc safe bs key_at bodiless_ marks after =
      let g = given_own f st all B Q e r d in
      let ad = bytes_from d.mem r.r10 r.r11 in
      let body = bytes_from d.mem r.r12 r.r13 in
      let w = sealed r d key in
      let found : own_section g ≡ Some f.setup.section = own_found f st in
      let lc : length w.cipher ≤ r.r13 = let c = crypt_short f.setup.mac key ad body in let l = length-bytes_from d.mem r.r12 r.r13 in omega arith in
      let lt = tag_short f.setup.mac key ad w.cipher in
      let next = next_pc t k r fits pc in
      let r2 = record r { pc = P + 2 * (k + 1); r15 = 1 } in
      let m = mark_of (regs16 f r) ad body in
      let new = mark.Wrapped ad body (r.r9 == 0) ∷ [] in
      let row : OwesSeal f (NoDone f st all B Q) (Tells f st all B Q j d) (B (running_after e f r d)) (wrap f.setup.mac g f.setup.section) d.mem =
      inputs_met f st all e r d (Tells f st all B Q j d) (B (running_after e f r d)) B Q key
      (λ key ad body. Put r.r14 (wrapped f.setup.mac key ad body).cipher
      (Put r.r15 (wrapped f.setup.mac key ad body).tag (Tell (concluded (regs16 f r) 1) (event.Wrapped f.setup.section.id) (exchanged (regs16 f r) ad body)))) safe.devices bs key_at (
        range_shorter f st r.r14 r.r13 (length w.cipher) bs.out lc,
        (
          range_shorter f st r.r15 16 (length w.tag) bs.tag lt,
          λ kept. (
            r2,
            rw next refl,
            record { from = omega (arith, t.from); to = omega (arith, t.to) },
            refl,
            new,
            ap (λ a. mark.Wrapped a (take (length body) (padded body)) (r.r9 == 0) ∷ []) m.0
                ∙ ap (λ b. mark.Wrapped ad b (r.r9 == 0) ∷ []) m.1,
            marks,
            after _,
          ),
        ),
      ) in
      let owed : OwesSeal f (NoDone f st all B Q) (Tells f st all B Q j d) (B (running_after e f r d)) (module_row f.setup.mac 4 g) d.mem =
      subst (λ o. OwesSeal f (NoDone f st all B Q) (Tells f st all B Q j d) (B (running_after e f r d)) (within g (wrap f.setup.mac g) o) d.mem) (sym found) row in
      from_told f st all B Q j e r d _ safe (seal_shown t k 0x1384 has fits e r d key pc safe refl (inl refl) bs key_at (λ x. bodiless_) (λ x. absurd (omega (arith, x))) (λ x. absurd (omega (arith, x))))
      (record { from = omega (arith, t.from); to = omega (arith, t.to) }) (module_fetched t k 0x1384 4 has fits e r d pc safe (λ a. refl))
      (seal_met f st (NoDone f st all B Q) (Tells f st all B Q j d) (B (running_after e f r d)) (module_row f.setup.mac 4 g) (start (running_after e f r d).node) safe.memory owed)

  abbrev unsealed : Regs → Data → List ℕ → Option (List ℕ)
  unsealed r d key = unwrapped f.setup.mac key (bytes_from d.mem r.r10 r.r11) (bytes_from d.mem r.r12 r.r13) (bytes_from d.mem r.r15 16)

  -- what is to follow an unwrap with this result: of a wrong tag, and of a right one, whose mark has its place
  abbrev Refused : ℕ → Regs → Data → ℕ → Option (List ℕ) → Type 0
  Refused j r d pc result =
      result ≡ None → Safe f all (running_after event.Quiet f (record r { pc = pc; r15 = 0 }) d) → Runs f all B Q j (running_after event.Quiet f (record r { pc = pc; r15 = 0 }) d)

  abbrev Begun : Regs → Data → Option (List ℕ) → Type 0
  Begun r d result = (plain : List ℕ) → result ≡ Some plain → HasPrefix all (d.marks ++ mark.Unwrapped (bytes_from d.mem r.r10 r.r11) (take r.r13 plain) (r.r9 == 0) ∷ [])

  abbrev Opened : ℕ → Regs → Data → ℕ → Option (List ℕ) → Type 0
  Opened j r d pc result =
      (plain : List ℕ) (x : Exchange) → result ≡ Some plain → let r2 = record r { pc = pc; r15 = 1 } in
      let new = mark.Unwrapped (bytes_from d.mem r.r10 r.r11) (take r.r13 plain) (r.r9 == 0) ∷ [] in
      let d2 : Data = record d { mem = put_bytes d.mem r.r14 (take r.r13 plain); exchange = x; marks = d.marks ++ new } in
      Safe f all (running_after (event.Unwrapped f.setup.section.id) f r2 d2) → Runs f all B Q j (running_after (event.Unwrapped f.setup.section.id) f r2 d2)

  -- unwrap: where the tag is wrong only R15 tells it
  pub unwrap_step : {P n : ℕ} {ws : List ℕ} (t : Text f P n ws) (k : ℕ) → slice_get ws k ≡ Some 0x1385 → k + 1 ≤ n
      → (e : Event) (r : Regs) (d : Data) (key : List ℕ) (j : ℕ) (result : Option (List ℕ)) → r.pc ≡ P + 2 * k → Safe f all (running_after e f r d)
      → Buffers f r → AreShown f.setup r.r15 16 → (r.r9 ≡ 0 → (r.r14 ≡ base_of f + plain_at) × (r.r13 ≤ 16)) → KeyAt f r d key → unsealed r d key ≡ result
      → Refused j r d (P + 2 * (k + 1)) result → Begun r d result → Opened j r d (P + 2 * (k + 1)) result
      → Runs f all B Q (suc j) (running_after e f r d)
  unfolding module_row
  unwrap_step {P = P} t k has fits e r d key j result pc safe bs tag_shown out_plain key_at is failed marks after =
      let g = given_own f st all B Q e r d in
      let found : own_section g ≡ Some f.setup.section = own_found f st in
      let row : OwesSeal f (NoDone f st all B Q) (Tells f st all B Q j d) (B (running_after e f r d)) (unwrap f.setup.mac g f.setup.section) d.mem =
      inputs_met f st all e r d (Tells f st all B Q j d) (B (running_after e f r d)) B Q key
      (λ key ad cipher. Bytes r.r15 16 (λ tag. Writable r.r14 r.r13 (opened g ad (unwrapped f.setup.mac key ad cipher tag)))) safe.devices bs key_at (
        bs.tag,
        (
          bs.out,
          subst (λ o. OwesSeal f (NoDone f st all B Q) (Tells f st all B Q j d) (B (running_after e f r d)) (opened g (bytes_from d.mem r.r10 r.r11) o) d.mem) (sym is)
              (either result failed marks after),
        ),
      ) in
      let owed : OwesSeal f (NoDone f st all B Q) (Tells f st all B Q j d) (B (running_after e f r d)) (module_row f.setup.mac 5 g) d.mem =
      subst (λ o. OwesSeal f (NoDone f st all B Q) (Tells f st all B Q j d) (B (running_after e f r d)) (within g (unwrap f.setup.mac g) o) d.mem) (sym found) row in
      from_told f st all B Q j e r d _ safe (seal_shown t k 0x1385 has fits e r d key pc safe refl (inr refl) bs key_at (λ x. absurd (omega (arith, x))) (λ x. tag_shown) (λ x. out_plain))
      (record { from = omega (arith, t.from); to = omega (arith, t.to) }) (module_fetched t k 0x1385 5 has fits e r d pc safe (λ a. refl))
      (seal_met f st (NoDone f st all B Q) (Tells f st all B Q j d) (B (running_after e f r d)) (module_row f.setup.mac 5 g) (start (running_after e f r d).node) safe.memory owed)
    where
      next : (r.pc + 2) % 65536 ≡ P + 2 * (k + 1)
      next = next_pc t k r fits pc

      ad : List ℕ
      ad = bytes_from d.mem r.r10 r.r11

      either : (result : Option (List ℕ))
          → Refused j r d (P + 2 * (k + 1)) result → Begun r d result → Opened j r d (P + 2 * (k + 1)) result
          → OwesSeal f (NoDone f st all B Q) (Tells f st all B Q j d) (B (running_after e f r d)) (opened (given_own f st all B Q e r d) (bytes_from d.mem r.r10 r.r11) result) d.mem
      either None failed marks after = λ kept. (
        record r { pc = P + 2 * (k + 1); r15 = 0 },
        rw next refl,
        record { from = omega (arith, t.from); to = omega (arith, t.to) },
        refl,
        [],
        refl,
        subst (λ l. HasPrefix all l) (sym (append-nil d.marks)) safe.marks,
        subst (λ l. Safe f all (running_after event.Quiet f (record r { pc = P + 2 * (k + 1); r15 = 0 }) (record d { marks = l }))
            → Runs f all B Q j (running_after event.Quiet f (record r { pc = P + 2 * (k + 1); r15 = 0 }) (record d { marks = l }))) (sym (append-nil d.marks)) (failed refl),
      )
      either (Some plain) failed marks after =
          let body = take r.r13 plain in
          let m = mark_of (regs16 f r) (bytes_from d.mem r.r10 r.r11) body in
          let lb : length body ≤ r.r13 = let h = length-take r.r13 plain in omega (arith, h) in (
            range_shorter f st r.r14 r.r13 (length body) bs.out lb,
            λ kept. (
              record r { pc = P + 2 * (k + 1); r15 = 1 },
              rw next refl,
              record { from = omega (arith, t.from); to = omega (arith, t.to) },
              refl,
              mark.Unwrapped (bytes_from d.mem r.r10 r.r11) body (r.r9 == 0) ∷ [],
              ap (λ a. mark.Unwrapped a (take (length body) (padded body)) (r.r9 == 0) ∷ []) m.0 ∙ ap (λ b. mark.Unwrapped (bytes_from d.mem r.r10 r.r11) b (r.r9 == 0) ∷ []) m.1,
              marks plain refl,
              after plain _ refl,
            ),
          )

  -- wrap, by the header and the body that are in memory
  pub wrap_as : {P n : ℕ} {ws : List ℕ} (t : Text f P n ws) (k : ℕ) → slice_get ws k ≡ Some 0x1384 → k + 1 ≤ n → (e : Event) (r : Regs) (d : Data) (key ad body : List ℕ) (j : ℕ) → r.pc ≡ P + 2 * k
      → Safe f all (running_after e f r d)
      → Buffers f r → KeyAt f r d key → (r.r9 ≡ 0 → r.r13 ≡ 0) → bytes_from d.mem r.r10 r.r11 ≡ ad → bytes_from d.mem r.r12 r.r13 ≡ body → WrapThen j e r d (P + 2 * (k + 1)) key ad body
  wrap_as {P = P} t k has fits e r d key ad body j pc safe bs key_at bodiless_ ea eb =
      subst (λ ad. WrapThen j e r d (P + 2 * (k + 1)) key ad body) ea
      (subst (λ body. WrapThen j e r d (P + 2 * (k + 1)) key (bytes_from d.mem r.r10 r.r11) body) eb
      (wrap_step t k has fits e r d key j pc safe bs key_at bodiless_))
