-- An end is opened with the copied packet's field and the plain key, by a routine that occurs once.
use Rattle.sx_isa.specs.Assembly.{##◌, #◌, &◌, ◌⟨◌⟩, call, clr, mov, pc, pop, r12}
use Rattle.sx_tmpl.proofs.Running.Instructions.{goes}
use Rattle.sx_tmpl.specs.Template.{slot_words}
use Rattle.std.proofs.Common.{◌≡◌, ℕ, zero, suc, ◌+◌, ◌-◌, ◌*◌, ◌/◌, ◌%◌, ◌<◌, ◌≤◌, inl, inr, List, [], ◌∷◌, ◌++◌, length, Option, None, Some, refl, sym, ◌∙◌, ap, subst, arith, slice_index}
use Rattle.sx_image.specs.Reach.{Here}
use Rattle.sx_isa.specs.Spelling.{spelling}
use Rattle.sx_isa.specs.Standing.{words_of}
use Rattle.sx_rules.specs.declared.access.Violation.{Violation}
use Rattle.spec_machine.specs.declared.kinds.Event.TheVariants as event
use Rattle.std.specs.Prelude.{slice_set, drop, take}
use Rattle.sx_tmpl.proofs.Running.Mem.{cell-put_other, put_word_is, word_is}
use Rattle.spec_machine.specs.Memory.{even, bytes_from, put_bytes, word, put_word}
use Rattle.sx_mean.specs.Offsets as offsets
use Rattle.sx_tmpl.proofs.Running.Flags.{flags_stay}
use Rattle.spec_invocation.specs.Marks.{Mark}
use Rattle.sx_image.specs.Watched.{Watched}
use Rattle.sx_ir.specs.Conf.{Conf}
use Rattle.sx_ir.specs.Meaning.{next, slot_keyed}
use Rattle.sx_tmpl.specs.Running.{Regs, Fixed, Data, running, Safe, cell}
use Rattle.sx_tmpl.proofs.Running.MidRun.{Stands, Runs, put_cell}
use Rattle.sx_tmpl.specs.Shows.{base_of, MemoryHolds, Stood}
use Rattle.sx_tmpl.proofs.Running.Steps.{NoTell, Text, Then, three_met}
use Rattle.sx_tmpl.proofs.Running.Owes.{moved_met}
use Rattle.sx_tmpl.proofs.Running.Instructions.{goes, reads_of, word_there}
use Rattle.sx_isa.specs.declared.instruction.Instr.{Instr}
use Rattle.sx_isa.specs.Instructions.{first_word}
use Rattle.spec_machine.specs.Step.{start}
use Rattle.sx_bus.specs.Devices.{device_at}
use Rattle.sx_tmpl.proofs.Running.Owned.{in_private_yes}
use Rattle.std.specs.Prelude.{slice_get}
use Rattle.sx_tmpl.specs.Unseen.{HoldsNoKey, InSlotKey}
use Rattle.sx_tmpl.proofs.Operations.Plain.{inside, Leads}
use Rattle.spec_machine.proofs.Lengths.{length-bytes_from, length-put_word}
use Rattle.std.proofs.lemmas.List.{append_assoc}
use Rattle.sx_isa.proofs.StandingLemmas.{even_same}
use Rattle.sx_tmpl.proofs.Running.Holding.{low_shown, slot_shown, stack_word, data_place, data_word, holds_push, holds_pop, holds_store, holds_word, word_below}

-- a word below stays
word_stays : (p : List ℕ) (o v j : ℕ) → o % 2 ≡ 0 → j % 2 ≡ 0 → j + 2 ≤ o → word (put_word p o v) j ≡ word p j
word_stays p o v j ev ej le = word_is (put_word p o v) j ej ∙ ap (λ l. cell l j) (put_word_is p o v ev) ∙ cell-put_other p o v j (omega arith) (omega arith) (omega arith) ∙ sym (word_is p j ej)

-- two bytes written are a word written
two_put : (p rest : List ℕ) (o x y : ℕ) → o % 2 ≡ 0 → x < 256 → y < 256 → put_bytes (put_word p o (x + 256 * y)) (o + 2) rest ≡ put_bytes p o (x ∷ y ∷ rest)
unfolding put_cell
two_put p rest o x y ev lx ly =
    let e1 : (x + 256 * y) % 256 ≡ x % 256 = omega arith in
    let e2 : (x + 256 * y) / 256 ≡ y % 256 = omega arith in
    let e3 : o + 2 ≡ o + 1 + 1 = omega arith in
    ap (λ l. put_bytes l (o + 2) rest) (put_word_is p o (x + 256 * y) ev)
    ∙ ap (λ a. put_bytes (slice_set (slice_set p o a) (o + 1) ((x + 256 * y) / 256)) (o + 2) rest) e1
    ∙ ap (λ b. put_bytes (slice_set (slice_set p o (x % 256)) (o + 1) b) (o + 2) rest) e2
    ∙ ap (λ n. put_bytes (slice_set (slice_set p o (x % 256)) (o + 1) (y % 256)) n rest) e3

-- the words of the copied packet and of its plain body stay, and so does the length
abbrev Keeps : List ℕ → List ℕ → Type 0
Keeps k p = ((j : ℕ) → j % 2 ≡ 0 → j < 72 → word k j ≡ word p j) × (length k ≡ length p)

keeps_same : (p : List ℕ) → Keeps p p
keeps_same p = (λ j ev lt. refl, refl)

keeps_on : (k p : List ℕ) (o v : ℕ) → o % 2 ≡ 0 → 512 ≤ o → Keeps k p → Keeps (put_word k o v) p
keeps_on k p o v even_ low h = (λ j ev lt. word_stays k o v j even_ ev (omega (arith, low, lt)) ∙ h.0 j ev lt, length-put_word k o v ∙ h.1)

-- the first words of a key
abbrev key_part : List ℕ → List ℕ → ℕ → ℕ → List ℕ
key_part k p o zero = k
key_part k p o (suc n) = put_word (key_part k p o n) (o + 2 * n) (word p (56 + 2 * n))

key_keeps : (k p : List ℕ) (o : ℕ) → o % 2 ≡ 0 → 512 ≤ o → Keeps k p → (n : ℕ) → Keeps (key_part k p o n) p
key_keeps k p o ev low h zero = h
key_keeps k p o ev low h (suc n) = keeps_on (key_part k p o n) p (o + 2 * n) (word p (56 + 2 * n)) (omega (arith, ev)) (omega (arith, low)) (key_keeps k p o ev low h n)

-- the next word of the key is the plain body's, and there is room for it
key_word : (k p : List ℕ) (o : ℕ) → o % 2 ≡ 0 → 512 ≤ o → Keeps k p → (n : ℕ) → n < 8 → word (key_part k p o n) (56 + 2 * n) ≡ word p (56 + 2 * n)
key_word k p o ev low h n lt = (key_keeps k p o ev low h n).0 (56 + 2 * n) (omega arith) (omega (arith, lt))

key_length : (k p : List ℕ) (o : ℕ) → o % 2 ≡ 0 → 512 ≤ o → Keeps k p → (n : ℕ) → length (key_part k p o n) ≡ length p
key_length k p o ev low h n = (key_keeps k p o ev low h n).1

-- bytes after bytes
put_append : (m : List ℕ) (a : ℕ) (xs ys : List ℕ) → put_bytes (put_bytes m a xs) (a + length xs) ys ≡ put_bytes m a (xs ++ ys)
put_append m a [] ys = let e : a + 0 ≡ a = omega arith in ap (λ b. put_bytes m b ys) e
put_append m a (x ∷ xs) ys =
    let e : a + suc (length xs) ≡ a + 1 + length xs = omega arith in
    ap (λ b. put_bytes (put_bytes (slice_set m a (x % 256)) (a + 1) xs) b ys) e ∙ put_append (slice_set m a (x % 256)) (a + 1) xs ys

-- the first words of a key are its first bytes
key_put : (k p : List ℕ) (o : ℕ) → o % 2 ≡ 0 → ((j : ℕ) → 56 ≤ j → j < 72 → slice_index p j < 256) → (n : ℕ) → n ≤ 8 → key_part k p o n ≡ put_bytes k o (bytes_from p 56 (2 * n))
unfolding bytes_from cell
key_put k p o ev small zero le = refl
key_put k p o ev small (suc n) le =
    let bs = bytes_from p 56 (2 * n) in
    let x = slice_index p (56 + 2 * n) in
    let y = slice_index p (56 + 2 * n + 1) in
    let lx : x < 256 = small (56 + 2 * n) (omega arith) (omega (arith, le)) in
    let ly : y < 256 = small (56 + 2 * n + 1) (omega arith) (omega (arith, le)) in
    let even_ : (56 + 2 * n) % 2 ≡ 0 = omega arith in
    let even_o : (o + 2 * n) % 2 ≡ 0 = omega (arith, ev) in
    let is : word p (56 + 2 * n) ≡ x + 256 * y = word_is p (56 + 2 * n) even_ in
    let count : length bs ≡ 2 * n = length-bytes_from p 56 (2 * n) in
    let last : 56 + suc (2 * n) ≡ 56 + 2 * n + 1 = omega arith in
    let more : 2 * suc n ≡ suc (suc (2 * n)) = omega arith in
    ap (λ v. put_word (key_part k p o n) (o + 2 * n) v) is
    ∙ two_put (key_part k p o n) [] (o + 2 * n) x y even_o lx ly
    ∙ ap (λ l. put_bytes l (o + 2 * n) (x ∷ y ∷ [])) (key_put k p o ev small n (omega (arith, le)))
    ∙ ap (λ c. put_bytes (put_bytes k o bs) (o + c) (x ∷ y ∷ [])) (sym count)
    ∙ put_append k o bs (x ∷ y ∷ [])
    ∙ ap (λ l. put_bytes k o l) (sym (append_assoc bs (x ∷ []) (y ∷ [])))
    ∙ ap (λ j. put_bytes k o ((bs ++ x ∷ []) ++ slice_index p j ∷ [])) (sym last)
    ∙ ap (λ c. put_bytes k o (bytes_from p 56 c)) (sym more)

module _ (f : Fixed) (st : Stands f) (all : List Mark) (B : Watched → Violation → Type 0) (at : ℕ → ℕ) (Q : Watched
    → Type 0) (P k : ℕ) (t : Text f P 32 (slot_words (base_of f))) (back : Option ℕ) (stack outside : List ℕ) where
  -- MOV &s, y(R12)
  move_step : (i s o y : ℕ) → o ≡ offsets.end_at k + y → take 3 (drop i (slot_words (base_of f))) ≡ spelling (mov (& (base_of f + s)) (y ⟨ r12 ⟩)) → i + 3 ≤ 32
      → 2 ≤ s → s + 2 ≤ 104 → s % 2 ≡ 0 → 512 ≤ o → o % 2 ≡ 0 → HoldsNoKey (length f.setup.ends) s 2 → HoldsNoKey (length f.setup.ends) o 2 → (r : Regs) (d : Data) (priv : List ℕ) (v j : ℕ) → r.r12 ≡ base_of f + offsets.end_at k → o + 2 ≤ length priv → word priv s ≡ v
      → MemoryHolds f at back stack priv outside r.sp d.mem → Safe f all (running f (record r { pc = P + 2 * i }) d)
      → ((m : List ℕ) → MemoryHolds f at back stack (put_word priv o v) outside r.sp m → Safe f all (running f (record r { pc = P + 2 * (i + 3) }) (record d { mem = m }))
      → Runs f all B Q j (running f (record r { pc = P + 2 * (i + 3) }) (record d { mem = m })))
      → Runs f all B Q (suc j) (running f (record r { pc = P + 2 * i }) d)
  move_step i s o y eo has le s1 s2 se o1 oe shown_s shown_o r d priv v j e12 fits ev h safe after =
      let beneath = st.beneath in
      let sz2 = h.size in
      let place : (r.r12 + y) % 65536 ≡ base_of f + o = omega arith in
      let sz = h.size in
      let ps = data_word f st s shown_s s1 se (omega (arith, st.room)) in
      let po = data_word f st o shown_o (omega arith) oe (omega arith) in
      let is = holds_word f st at back stack priv outside r.sp d.mem s h se (record { low = s1; beside = inl (omega arith) }) (let y = st.room in omega arith) ∙ ev in
      let lv = word_below f st (base_of f + s) is safe.memory in
      let m2 = put_cell d.mem (base_of f + o) v in
      let h2 = holds_store f st at back stack priv outside r.sp d.mem o v safe.memory h oe (record { low = omega arith; beside = inr o1 }) fits in
      goes f st all B Q t i (mov (& (base_of f + s)) (y ⟨ r12 ⟩)) has le refl refl (record r { pc = P + 2 * i }) d j refl safe
      (record r { pc = P + 2 * (i + 3) }) m2 (inside t (i + 3) le)
      (base_of f + s, refl, ps, v, is, (base_of f + o, place, po, v, refl, lv, (rw (flags_stay r.sr) refl, refl))) (after m2 h2)

  -- the same of a word of a key
  move_key : (i s o y : ℕ) → o ≡ offsets.end_at k + y → take 3 (drop i (slot_words (base_of f))) ≡ spelling (mov (& (base_of f + s)) (y ⟨ r12 ⟩)) → i + 3 ≤ 32
      → 2 ≤ s → s + 2 ≤ 104 → s % 2 ≡ 0 → 512 ≤ o → o % 2 ≡ 0 → InSlotKey (length f.setup.ends) o → (r : Regs) (d : Data) (priv : List ℕ) (v j : ℕ) → r.r12 ≡ base_of f + offsets.end_at k → o + 2 ≤ length priv → word priv s ≡ v
      → MemoryHolds f at back stack priv outside r.sp d.mem → Safe f all (running f (record r { pc = P + 2 * i }) d)
      → ((m : List ℕ) → MemoryHolds f at back stack (put_word priv o v) outside r.sp m → Safe f all (running f (record r { pc = P + 2 * (i + 3) }) (record d { mem = m }))
      → Runs f all B Q j (running f (record r { pc = P + 2 * (i + 3) }) (record d { mem = m })))
      → Runs f all B Q (suc j) (running f (record r { pc = P + 2 * i }) d)
  move_key i s o y eo has le s1 s2 se o1 oe inside_key r d priv v j e12 fits ev h safe after =
      let beneath = st.beneath in
      let sz2 = h.size in
      let place : (r.r12 + y) % 65536 ≡ base_of f + o = omega arith in
      let sz = h.size in
      let ps = data_place f st s s1 se (omega (arith, st.room)) in
      let po = data_place f st o (omega arith) oe (omega arith) in
      let is = holds_word f st at back stack priv outside r.sp d.mem s h se (record { low = s1; beside = inl (omega arith) }) (let y = st.room in omega arith) ∙ ev in
      let lv = word_below f st (base_of f + s) is safe.memory in
      let w = first_word (mov (& 0) (0 ⟨ r12 ⟩)) in
      let ii : ℕ → ℕ → Instr = λ x z. mov (& x) (z ⟨ r12 ⟩) in
      let no_device : device_at d.devices (base_of f + o) ≡ None = safe.devices (base_of f + o)
      ∙ st.private_plain (base_of f + o) (in_private_yes f.setup.section (base_of f + o) (omega arith) (omega (arith, po.high))) po.low in
      let read_free_ : device_at d.devices (base_of f + s) ≡ None = safe.devices (base_of f + s)
      ∙ st.private_plain (base_of f + s) (in_private_yes f.setup.section (base_of f + s) (omega arith) (omega (arith, ps.high))) ps.low in
      let r1 = record r { pc = P + 2 * i } in
      let r2 = record r { pc = P + 2 * (i + 3) } in
      let x0 = start (running f r1 d).node in
      let there = λ (n u : ℕ) (h : slice_get (w ∷ (base_of f + s) ∷ (y ∷ [])) n ≡ Some u). word_there (slot_words (base_of f)) (w ∷ (base_of f + s) ∷ (y ∷ [])) 3 i n u has h in
      let at0 : i ≡ i + 0 = omega arith in
      let here : slice_get (slot_words (base_of f)) i ≡ Some w = ap (slice_get (slot_words (base_of f))) at0 ∙ there 0 w refl in
      three_met f st all B Q t i w (base_of f + s) y ii here (there 1 (base_of f + s) refl) (there 2 y refl) le (reads_of (mov (& 0) (0 ⟨ r12 ⟩)) refl refl) event.Quiet r1 d j refl safe
      (moved_met f st (Then f st all B Q j d) (NoTell f st all B Q) (B (running f r1 d)) (base_of f + s) (base_of f + s) ((r.r12 + y) % 65536) (base_of f + o) v _ x0 refl ps is place po lv
      safe.devices safe.memory (λ kept. (
        r2,
        rw (flags_stay r.sr) refl,
        inside t (i + 3) le,
        after (put_cell d.mem (base_of f + o) v) (holds_store f st at back stack priv outside r.sp d.mem o v safe.memory h oe (record { low = omega arith; beside = inr o1 }) fits),
      )))
      (inl (record { from = read_free_; at = (r.r12 + y) % 65536; o = o; regs = _; is = λ v. refl; place = ap even place ∙ even_same (base_of f + o) po.is_even; free = ap (device_at d.devices) place ∙ no_device; key = inside_key }))

module _ (f : Fixed) (st : Stands f) (all : List Mark) (B : Watched → Violation → Type 0) (at : ℕ → ℕ) where
  pub set_end_leads : (c : Conf) (k A : ℕ) → Text f A 32 (slot_words (base_of f)) → offsets.end_at k + 24 ≤ length c.priv → k < length f.setup.ends → length c.stack ≤ 160
      → Leads f st all B at 4 (words_of (mov (## (base_of f + offsets.end_at k)) r12 ∷ call (## A) ∷ [])) 14 c
      (record (next c c.stack) { priv = slot_keyed c.priv k (word c.priv 18) (bytes_from c.priv 56 16) })
  set_end_leads c k A rt fits one len r d t on sh safe =
      let h = sh.holds in
      let top = h.top in
      let room = st.room in
      let beneath = st.beneath in
      let lim = st.below in
      let high = t.to in
      let sp = r.sp - 2 in
      let ret = at c.place + 8 in
      let pr = stack_word f st sp (length (ret ∷ c.stack)) (omega arith) (omega arith) (omega arith) in
      let down : (r.sp + 65534) % 65536 ≡ sp = omega arith in
      let target : A % 65536 - A % 65536 % 2 ≡ A = omega (arith, rt.to, rt.is_even) in
      let sz_ = h.size in
      let e12 : (base_of f + offsets.end_at k) % 65536 ≡ base_of f + offsets.end_at k = omega arith in
      let r00 = record r { pc = at c.place + 4; r12 = base_of f + offsets.end_at k } in
      let r_ = record r00 { sp = sp } in
      let ev : ret % 2 ≡ 0 = omega (arith, t.is_even) in
      let keven : ret - ret % 2 ≡ ret = omega arith in
      let up : (sp + 2) % 65536 ≡ sp + 2 = omega arith in
      let h0 = holds_push f st at c.back c.stack c.priv c.mem r.sp d.mem sp ret safe.memory h (omega arith) (omega arith) in
      let d0 : Data = record d { mem = put_cell d.mem sp ret } in
      let b = base_of f in
      let sz = h.size in
      let stay = flags_stay r.sr in
      let p = c.priv in
      let o0 = offsets.end_at k in
      let o1 = offsets.end_number_at k in
      let o2 = offsets.end_open_at k in
      let o = offsets.end_key_at k in
      let field = word p 18 in
      let Q = Stood f all at (record (next c c.stack) { priv = slot_keyed p k field (bytes_from p 56 16) }) in
      let small : (j : ℕ) → 56 ≤ j → j < 72
      → slice_index p j < 256 = λ j x y. subst (λ (n : ℕ). n < 256) (h.bytes j (record { low = omega arith; beside = inl (omega arith) }) (omega arith)) (safe.memory.bytes (b + j)) in
      let q0 = put_word p o0 field in
      let q1 = put_word q0 o1 0 in
      let K0 = put_word q1 o2 1 in
      let even_ : o % 2 ≡ 0 = omega arith in
      let low : 512 ≤ o = omega arith in
      let t0 : Keeps q0 p = keeps_on p p o0 field (omega arith) (omega arith) (keeps_same p) in
      let t1 : Keeps q1 p = keeps_on q0 p o1 0 (omega arith) (omega arith) t0 in
      let t2 : Keeps K0 p = keeps_on q1 p o2 1 (omega arith) (omega arith) t1 in
      let n0 : length q0 ≡ length p = t0.1 in
      let n1 : length q1 ≡ length p = t1.1 in
      let K = key_part K0 p o in
      let long : (n : ℕ) → length (K n) ≡ length p = key_length K0 p o even_ low t2 in
      let word_ : (n : ℕ) → n < 8 → word (K n) (56 + 2 * n) ≡ word p (56 + 2 * n) = key_word K0 p o even_ low t2 in
      let fits_ : (n : ℕ) → n < 8 → o + 2 * n + 2 ≤ length (K n) = λ n lt. let same = long n in omega (arith, fits, same, lt) in
      let move : (n : ℕ) → n < 8 → take 3 (drop (7 + 3 * n) (slot_words b)) ≡ spelling (mov (& (b + (56 + 2 * n))) ((8 + 2 * n) ⟨ r12 ⟩)) → (m : List ℕ) (j : ℕ)
      → MemoryHolds f at c.back (ret ∷ c.stack) (K n) c.mem sp m → Safe f all (running f (record r_ { pc = A + 2 * (7 + 3 * n) }) (record d0 { mem = m }))
      → ((m2 : List ℕ) → MemoryHolds f at c.back (ret ∷ c.stack) (K (suc n)) c.mem sp m2 → Safe f all (running f (record r_ { pc = A + 2 * (7 + 3 * n + 3) }) (record d0 { mem = m2 }))
      → Runs f all B Q j (running f (record r_ { pc = A + 2 * (7 + 3 * n + 3) }) (record d0 { mem = m2 })))
      → Runs f all B Q (suc j) (running f (record r_ { pc = A + 2 * (7 + 3 * n) }) (record d0 { mem = m })) =
      λ n lt has m j h s after. move_key f st all B at Q A k rt c.back (ret ∷ c.stack) c.mem (7 + 3 * n) (56 + 2 * n) (o + 2 * n) (8 + 2 * n) (omega arith) has (omega (arith, lt)) (omega arith)
      (omega (arith, lt)) (omega arith) (omega arith) (omega (arith, even_)) (record { slot = k; one = one; from = omega arith; to = omega (arith, lt) }) r_ (record d0 { mem = m }) (K n) (word p (56 + 2 * n)) j refl (fits_ n lt) (word_ n lt) h s after in
      let first_at : offsets.end_at k + 0 ≡ o0 = omega arith in
      let pn = data_word f st o1 (slot_shown _ k 2 2 (omega arith)) (omega arith) (omega arith) (omega arith) in
      let po = data_word f st o2 (slot_shown _ k 4 2 (omega arith)) (omega arith) (omega arith) (omega arith) in
      let i2 : (b + o0 + 2) % 65536 ≡ b + o1 = omega arith in
      let i4 : (b + o0 + 4) % 65536 ≡ b + o2 = omega arith in
      let done : key_part K0 p o 8 ≡ put_bytes K0 o (bytes_from p 56 16) = key_put K0 p o even_ small 8 (omega arith) in
      goes f st all B Q t 0 (mov (## (b + o0)) r12) refl (omega arith) refl refl r d 13 (omega (arith, sh.pc)) safe
      r00 d.mem (inside t 2 (omega arith)) (rw (stay, e12) refl, refl) (λ s_a.
      goes f st all B Q t 2 (call (## A)) refl (omega arith) refl refl r00 d 12 refl s_a
      (record r_ { pc = A }) (put_cell d.mem sp ret) (record { from = rt.from; to = omega (arith, rt.to) })
      (sp, down, pr, ret, refl, omega arith, (rw (down, target) refl, refl)) (λ s_b.
      subst (λ pc. Safe f all (running f (record r_ { pc = pc }) d0) → Runs f all B Q 12 (running f (record r_ { pc = pc }) d0)) (omega arith)
      (λ s0.
      move_step f st all B at Q A k rt c.back (ret ∷ c.stack) c.mem 0 18 o0 0 (omega arith) refl (omega arith) (omega arith) (omega arith) refl (omega arith)
      (omega arith) (low_shown _ 18 2 (omega arith)) (subst (λ (o : ℕ). HoldsNoKey (length f.setup.ends) o 2) first_at (slot_shown _ k 0 2 (omega arith))) r_ d0 p field 11 refl (omega arith) refl h0 s0 (λ ma ha sa.
      goes f st all B Q rt 3 (clr (2 ⟨ r12 ⟩)) refl (omega arith) refl refl (record r_ { pc = A + 6 }) (record d0 { mem = ma }) 10 refl sa
      (record r_ { pc = A + 10 }) (put_cell ma (b + o1) 0) (inside rt 5 (omega arith))
      (b + o1, i2, pn, 0, refl, omega arith, (rw stay refl, refl)) (λ sb.
      let hb = holds_store f st at c.back (ret ∷ c.stack) q0 c.mem sp ma o1 0 sa.memory ha (omega arith) (record { low = omega arith; beside = inr (omega arith) })
      (omega arith) in
      goes f st all B Q rt 5 (mov (# 1) (4 ⟨ r12 ⟩)) refl (omega arith) refl refl (record r_ { pc = A + 10 }) (record d0 { mem = put_cell ma (b + o1) 0 }) 9 refl sb
      (record r_ { pc = A + 14 }) (put_cell (put_cell ma (b + o1) 0) (b + o2) 1) (inside rt 7 (omega arith))
      (b + o2, i4, po, 1, refl, omega arith, (rw stay refl, refl)) (λ sc.
      let hc = holds_store f st at c.back (ret ∷ c.stack) q1 c.mem sp (put_cell ma (b + o1) 0) o2 1 sb.memory hb (omega arith)
      (record { low = omega arith; beside = inr (omega arith) }) (omega arith) in
      move 0 (omega arith) refl (put_cell (put_cell ma (b + o1) 0) (b + o2) 1) 8 hc sc (λ x0 h0 s0_.
      move 1 (omega arith) refl x0 7 h0 s0_ (λ x1 h1 s1_.
      move 2 (omega arith) refl x1 6 h1 s1_ (λ x2 h2 s2_.
      move 3 (omega arith) refl x2 5 h2 s2_ (λ x3 h3 s3_.
      move 4 (omega arith) refl x3 4 h3 s3_ (λ x4 h4 s4_.
      move 5 (omega arith) refl x4 3 h4 s4_ (λ x5 h5 s5_.
      move 6 (omega arith) refl x5 2 h5 s5_ (λ x6 h6 s6_.
      move 7 (omega arith) refl x6 1 h6 s6_ (λ x7 h7 s7_.
      goes f st all B Q rt 31 (pop pc) refl (omega arith) refl refl (record r_ { pc = A + 62 }) (record d0 { mem = x7 }) 0 refl s7_
      (record r_ { pc = ret; sp = sp + 2 }) x7 (inside t 4 (omega arith)) (sp, refl, pr, ret, h7.words.0, (rw (up, stay, keven) refl, refl)) (λ sz_2.
      Here (record {
        regs = record r_ { pc = ret; sp = sp + 2 };
        rest = record d0 { mem = x7 };
        state = refl;
        safe = sz_2;
        shows =
            record {
              pc = omega (arith, on);
              holds = subst (λ l. MemoryHolds f at c.back c.stack l c.mem (sp + 2) x7) done
                  (holds_pop f st at c.back ret c.stack (K 8) c.mem sp x7 h7);
              devices = sh.devices;
              marks = sh.marks;
            };
      })))))))))))))) s_b))
