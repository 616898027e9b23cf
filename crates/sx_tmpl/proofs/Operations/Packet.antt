-- The routine of an end's packet.
use Rattle.sx_isa.specs.Assembly as asm
use Rattle.sx_isa.specs.Assembly.{##◌, #◌, &◌, ◌⟨◌⟩, add, ahead, cmp, inc, jz, mov, pc, r10, r11, r12, r13, r14, r15, r9, rla, sp, tst}
use Rattle.sx_tmpl.proofs.Running.Instructions.{goes, goes_after}
use Rattle.sx_tmpl.proofs.Running.Loading.{loads}
use Rattle.sx_tmpl.specs.Template.{routine_words}
use Rattle.std.proofs.Common.{◌≡◌, ℕ, suc, ◌+◌, ◌-◌, ◌*◌, ◌%◌, ◌<◌, ◌≤◌, inl, inr, Bool, true, false, not, ◌&&◌, List, [], ◌∷◌, ◌++◌, length, Option, refl, sym, ◌∙◌, ap, subst, arith}
use Rattle.sx_isa.specs.Spelling.{spelling}
use Rattle.sx_isa.specs.declared.instruction.Op2.TheVariants as op2
use Rattle.sx_rules.specs.declared.access.Violation.{Violation}
use Rattle.spec_machine.specs.declared.kinds.Event.{Event}
use Rattle.spec_machine.specs.declared.kinds.Event.TheVariants as event
use Rattle.std.specs.Prelude.{Ok, Err, drop, take, nat_lt, ◌==◌}
use Rattle.spec_invocation.specs.Windows.{write_bytes}
use Rattle.sx_tmpl.proofs.Running.MidRun.{PrivateRange, PrivateWord, Stands, Runs, later, place_of, put_cell}
use Rattle.sx_tmpl.proofs.Running.Mem.{cell-put_other, put_word_is, word_is, length-put}
use Rattle.sx_tmpl.proofs.Running.Holding.{same_word, holds_under, holds_under_bytes, stack_word, low_shown, mid_shown, slot_shown, data_word, holds_pop, holds_store, holds_word, word_below}
use Rattle.sx_tag.specs.Mac.{IsTag}
use Rattle.sx_tag.proofs.TagBytes.{cipher_bytes, cipher_length, tag_bytes, tag_length}
use Rattle.spec_machine.proofs.Lengths.{length-put_bytes}
use Rattle.spec_machine.proofs.PublicKept.{put_other}
use Rattle.sx_tmpl.proofs.Operations.Bytes.{BytesAt, bytes_same, bytes_append, bytes_put, pair, six, bytes_agree, stand_from}
use Rattle.sx_tmpl.proofs.Operations.CopyLoop.{Turns}
use Rattle.sx_tmpl.proofs.Operations.CopyOut.{copy_runs}
use Rattle.spec_machine.specs.declared.kinds.Exchange.{Exchange}
use Rattle.spec_machine.specs.Memory.{bytes_from, put_bytes, word, put_word}
use Rattle.sx_tag.specs.Wrap.{wrapped}
use Rattle.sx_mean.specs.Offsets as offsets
use Rattle.sx_mean.specs.Working as working
use Rattle.spec_invocation.specs.ModuleState.{EndState, end_state}
use Rattle.spec_invocation.specs.Windows as windows
use Rattle.spec_invocation.specs.Acts.{event_header, event_packet}
use Rattle.spec_invocation.specs.Marks as mark
use Rattle.spec_invocation.specs.Marks.{HasPrefix, Mark}
use Rattle.sx_tmpl.specs.Unseen.{WasOpen}
use Rattle.sx_tmpl.specs.Running.{running_after, Regs, Fixed, Data, running, Safe, cell}
use Rattle.sx_tmpl.proofs.Running.Flags.{flags_stay, flags_after, equal, unequal}
use Rattle.sx_tmpl.proofs.Operations.Sealing.{KeyIn, Buffers, wrap_as}
use Rattle.sx_image.specs.Watched.{Watched}
use Rattle.sx_tmpl.specs.Shows.{base_of, IsData, MemoryHolds}
use Rattle.sx_tmpl.proofs.Running.Steps.{Text, InText}
use Rattle.std.proofs.lemmas.Bool.{cases_eq, lt-ltb, le-ltb, eq-eqb, ne_eqb}
use Rattle.sx_tmpl.proofs.Operations.Plain.{inside}

-- an end is ready to send
abbrev pub is_ready : EndState → Bool
is_ready e = e.is_open && nat_lt e.number 65535

module _ (f : Fixed) (st : Stands f) (all : List Mark) (B : Watched → Violation → Type 0) (at : ℕ → ℕ) (Q : Watched
    → Type 0) (k A : ℕ) (t : Text f A 70 (routine_words (base_of f) k)) (back : Option ℕ) (priv : List ℕ) (slot : offsets.end_at k + 24 ≤ length priv) (one : k < length f.setup.ends) where
  abbrev R : ℕ → Watched → Type 0
  R n c = Runs f all B Q n c

  abbrev H : List ℕ → List ℕ → ℕ → List ℕ → Type 0
  H stack outside sp m = MemoryHolds f at back stack priv outside sp m

  -- a word of the end's slot
  slot_word : (o : ℕ) (stack outside : List ℕ) (sp : ℕ) (m : List ℕ) → o % 2 ≡ 0 → o + 2 ≤ 8 → H stack outside sp m
      → (cell m (base_of f + (offsets.end_at k + o)) ≡ word priv (offsets.end_at k + o)) × PrivateWord f (base_of f + (offsets.end_at k + o))
  slot_word o stack outside sp m ev le h =
      let i : IsData (offsets.end_at k + o) = record { low = omega arith; beside = inr (omega arith) } in
      (holds_word f st at back stack priv outside sp m (offsets.end_at k + o) h (omega arith) i (omega arith), data_word f st (offsets.end_at k + o) (slot_shown _ k o 2 le) (omega arith) (omega arith) (omega (arith, h.size)))

  -- the two tests
  pub tests_run : (e : EndState) → end_state priv k ≡ e → (r : Regs) (d : Data) (stack outside : List ℕ) (j : ℕ) → r.pc ≡ A + 2 * 0 → H stack outside r.sp d.mem → Safe f all (running f r d)
      → (is_ready e ≡ false → (sr : ℕ) → Safe f all (running f (record r { pc = A + 138; sr = sr }) d) → R j (running f (record r { pc = A + 138; sr = sr }) d))
      → (is_ready e ≡ true → (sr : ℕ) → Safe f all (running f (record r { pc = A + 12; sr = sr }) d) → R j (running f (record r { pc = A + 12; sr = sr }) d))
      → R (suc (suc (suc (suc j)))) (running f r d)
  unfolding end_state
  tests_run e is r d stack outside j pc h safe skip go_on =
      let open_ = word priv (offsets.end_open_at k) in
      let number = word priv (offsets.end_number_at k) in
      let so = slot_word 4 stack outside r.sp d.mem refl (omega arith) h in
      let sn = slot_word 2 stack outside r.sp d.mem refl (omega arith) h in
      let lo : open_ < 65536 = word_below f st (base_of f + offsets.end_open_at k) so.0 safe.memory in
      let ln : number < 65536 = word_below f st (base_of f + offsets.end_number_at k) sn.0 safe.memory in
      let sr1 = flags_after op2.Cmp 0 open_ r.sr in
      let sr3 = flags_after op2.Cmp 65535 number sr1 in
      let r1 = record r { pc = A + 4; sr = sr1 } in
      let r2 = record r { pc = A + 6; sr = sr1 } in
      let r3 = record r { pc = A + 10; sr = sr3 } in
      let ready : (b : Bool) → (e.is_open ≡ b) → is_ready e ≡ (b && nat_lt e.number 65535) = λ b x. ap (λ b. b && nat_lt e.number 65535) x in
      goes f st all B Q t 0 (tst (& (base_of f + offsets.end_open_at k))) refl (omega arith) refl refl r d _ pc safe
      r1 d.mem (inside t 2 (omega arith)) (base_of f + offsets.end_open_at k, refl, so.1, open_, so.0, (refl, refl)) (λ s1.
      elim (cases_eq open_ 0) [
        | inl z ↦
            let to : (A + 6 + 132) % 65536 ≡ A + 138 = omega (arith, t.to, st.below) in
            let no_ : is_ready e ≡ false = ready false (sym (ap (λ (x : EndState). x.is_open) is) ∙ ap not (eq-eqb open_ 0 z)) in
            goes f st all B Q t 2 (jz (ahead 66)) refl (omega arith) refl refl r1 d _ refl s1
            (record r { pc = A + 138; sr = sr1 }) d.mem (inside t 69 (omega arith)) (rw (equal 0 open_ r.sr (omega arith) z, to) refl, refl) (λ s2.
            later f all B Q j (suc (suc j)) _ (omega arith) (skip no_ sr1 s2))
        | inr nz ↦
            let is_open : e.is_open ≡ true = sym (ap (λ (x : EndState). x.is_open) is) ∙ ap not (ne_eqb open_ 0 nz) in
            goes f st all B Q t 2 (jz (ahead 66)) refl (omega arith) refl refl r1 d _ refl s1 r2 d.mem (inside t 3 (omega arith))
            (rw (unequal 0 open_ r.sr (omega arith) lo nz) refl, refl) (λ s2.
            goes f st all B Q t 3 (cmp (# 65535) (& (base_of f + offsets.end_number_at k))) refl (omega arith) refl refl r2 d _ refl s2
            r3 d.mem (inside t 5 (omega arith)) (base_of f + offsets.end_number_at k, refl, sn.1, number, sn.0, (refl, refl)) (λ s3.
            elim (cases_eq number 65535) [
              | inl z ↦
                  let to : (A + 12 + 126) % 65536 ≡ A + 138 = omega (arith, t.to, st.below) in
                  let no_ : is_ready e ≡ false = ready true is_open ∙ le-ltb e.number 65535 (omega (arith, ap (λ (x : EndState). x.number) is)) in
                  goes f st all B Q t 5 (jz (ahead 63)) refl (omega arith) refl refl r3 d _ refl s3
                  (record r { pc = A + 138; sr = sr3 }) d.mem (inside t 69 (omega arith))
                  (rw (equal 65535 number sr1 (omega arith) z, to) refl, refl) (skip no_ sr3)
              | inr nz2 ↦
                  let yes_ : is_ready e ≡ true = ready true is_open ∙ lt-ltb e.number 65535 (omega (arith, ap (λ (x : EndState). x.number) is)) in
                  goes f st all B Q t 5 (jz (ahead 63)) refl (omega arith) refl refl r3 d _ refl s3
                  (record r { pc = A + 12; sr = sr3 }) d.mem (inside t 6 (omega arith))
                  (rw (unequal 65535 number sr1 (omega arith) ln nz2) refl, refl) (go_on yes_ sr3)
            ]))
      ])

  -- a word that only templates use
  scratch : (o : ℕ) → 106 ≤ o → o % 2 ≡ 0 → o ≤ 146 → PrivateWord f (base_of f + o)
  scratch o p ev q = data_word f st o (mid_shown _ o 2 (omega arith) (omega arith)) (omega arith) ev (omega (arith, st.room))

  -- writing it leaves what memory holds
  under : (stack outside : List ℕ) (sp : ℕ) (m : List ℕ) (o v : ℕ) → 106 ≤ o → o % 2 ≡ 0 → o ≤ 146 → H stack outside sp m → H stack outside sp (put_cell m (base_of f + o) v)
  under stack outside sp m o v p ev q h =
      holds_under f st at back stack priv outside sp m (base_of f + o) v h (place_of (scratch o p ev q)) (omega arith) (inl (omega arith)) (let t = h.top in let r = h.room in omega arith)

  -- header and body are made
  pub header_run : (e : EndState) → end_state priv k ≡ e → (r : Regs) (d : Data) (ret v : ℕ) (rest outside : List ℕ) (j : ℕ) → r.pc ≡ A + 2 * 6 → H (ret ∷ v ∷ rest) outside r.sp d.mem
      → Safe f all (running f r d)
      → ((m : List ℕ) → H (ret ∷ v ∷ rest) outside r.sp m → cell m (base_of f + 106) ≡ 3 → cell m (base_of f + 106 + 2) ≡ e.field → cell m (base_of f + 106 + 4) ≡ e.number
      → cell m (base_of f + 130) ≡ v
      → Safe f all (running f (record r { pc = A + 36 }) (record d { mem = m })) → R j (running f (record r { pc = A + 36 }) (record d { mem = m })))
      → R (suc (suc (suc (suc j)))) (running f r d)
  unfolding end_state
  header_run e is r d ret v rest outside j pc h safe after =
      let b = base_of f in
      let field = word priv (offsets.end_at k) in
      let number = word priv (offsets.end_number_at k) in
      let ef : field ≡ e.field = ap (λ (x : EndState). x.field) is in
      let en : number ≡ e.number = ap (λ (x : EndState). x.number) is in
      let stay = flags_stay r.sr in
      let stack = ret ∷ v ∷ rest in
      let top = h.top in
      let p106 = scratch 106 (omega arith) refl (omega arith) in
      let p108 = scratch 108 (omega arith) refl (omega arith) in
      let p110 = scratch 110 (omega arith) refl (omega arith) in
      let p130 = scratch 130 (omega arith) refl (omega arith) in
      let pv = stack_word f st (r.sp + 2) (length (v ∷ rest)) (omega arith) (omega arith) (omega (arith, h.room)) in
      let up : (r.sp + 2) % 65536 ≡ r.sp + 2 = omega (arith, pv.high, st.beneath) in
      let m1 = put_cell d.mem (b + 106) 3 in
      let h1 = under stack outside r.sp d.mem 106 3 (omega arith) refl (omega arith) h in
      let m2 = put_cell m1 (b + 108) field in
      let h2 = under stack outside r.sp m1 108 field (omega arith) refl (omega arith) h1 in
      let m3 = put_cell m2 (b + 110) number in
      let h3 = under stack outside r.sp m2 110 number (omega arith) refl (omega arith) h2 in
      let m4 = put_cell m3 (b + 130) v in
      let h4 = under stack outside r.sp m3 130 v (omega arith) refl (omega arith) h3 in
      let z0 : b + (offsets.end_at k + 0) ≡ b + offsets.end_at k = omega arith in
      let f0 : offsets.end_at k + 0 ≡ offsets.end_at k = omega arith in
      let sf = slot_word 0 stack outside r.sp m1 refl (omega arith) h1 in
      let isf : cell m1 (b + offsets.end_at k) ≡ field = ap (cell m1) (sym z0) ∙ sf.0 ∙ ap (word priv) f0 in
      let pf : PrivateWord f (b + offsets.end_at k) = subst (λ a. PrivateWord f a) z0 sf.1 in
      let sn = slot_word 2 stack outside r.sp m2 refl (omega arith) h2 in
      let r1 = record r { pc = A + 18 } in
      let r2 = record r { pc = A + 24 } in
      let r3 = record r { pc = A + 30 } in
      let r4 = record r { pc = A + 36 } in
      goes f st all B Q t 6 (mov (## 3) (& (b + 106))) refl (omega arith) refl refl r d _ pc safe r1 m1 (inside t 9 (omega arith))
      (b + 106, refl, p106, 3, refl, omega arith, (rw stay refl, refl)) (λ s1.
      let small = word_below f st (b + offsets.end_at k) isf s1.memory in
      goes f st all B Q t 9 (mov (& (b + offsets.end_at k)) (& (b + 108))) refl (omega arith) refl refl r1 (record d { mem = m1 }) _ refl s1
      r2 m2 (inside t 12 (omega arith))
      (b + offsets.end_at k, refl, pf, field, isf, (b + 108, refl, p108, field, refl, small, (rw stay refl, refl))) (λ s2.
      let small = word_below f st (b + offsets.end_number_at k) sn.0 s2.memory in
      goes f st all B Q t 12 (mov (& (b + offsets.end_number_at k)) (& (b + 110))) refl (omega arith) refl refl r2 (record d { mem = m2 }) _ refl s2
      r3 m3 (inside t 15 (omega arith))
      (b + offsets.end_number_at k, refl, sn.1, number, sn.0, (b + 110, refl, p110, number, refl, small, (rw stay refl, refl))) (λ s3.
      let small = word_below f st (r.sp + 2) h3.words.1.0 s3.memory in
      goes f st all B Q t 15 (mov (2 ⟨ sp ⟩) (& (b + 130))) refl (omega arith) refl refl r3 (record d { mem = m3 }) _ refl s3
      r4 m4 (inside t 18 (omega arith)) (r.sp + 2, up, pv, v, h3.words.1.0, (b + 130, refl, p130, v, refl, small, (rw stay refl, refl))) (after m4 h4
      (cell-put_other m3 (b + 130) v (b + 106) (omega arith) (omega arith) (omega arith)
      ∙ cell-put_other m2 (b + 110) number (b + 106) (omega arith) (omega arith) (omega arith)
      ∙ cell-put_other m1 (b + 108) field (b + 106) (omega arith) (omega arith) (omega arith) ∙ same_word f st d.mem (b + 106) 3 safe.memory (place_of p106))
      (ap (cell m4) (omega arith) ∙ cell-put_other m3 (b + 130) v (b + 108) (omega arith) (omega arith) (omega arith)
      ∙ cell-put_other m2 (b + 110) number (b + 108) (omega arith) (omega arith) (omega arith) ∙ same_word f st m1 (b + 108) field s1.memory (place_of p108) ∙ ef)
      (ap (cell m4) (omega arith) ∙ cell-put_other m3 (b + 130) v (b + 110) (omega arith) (omega arith) (omega arith)
      ∙ same_word f st m2 (b + 110) number s2.memory (place_of p110) ∙ en)
      (same_word f st m3 (b + 130) v s3.memory (place_of p130))))))

  -- the registers are loaded, and the body is wrapped
  pub wrap_run : IsTag f.setup.mac → (e : EndState) → end_state priv k ≡ e → (r : Regs) (d : Data) (v : ℕ) (stack outside : List ℕ) (j : ℕ) → r.pc ≡ A + 2 * 18 → H stack outside r.sp d.mem
      → Safe f all (running f r d)
      → cell d.mem (base_of f + 106) ≡ 3 → cell d.mem (base_of f + 106 + 2) ≡ e.field → cell d.mem (base_of f + 106 + 4) ≡ e.number → cell d.mem (base_of f + 130) ≡ v
      → WasOpen f.setup f.entered k e.key → HasPrefix all (d.marks ++ mark.Wrapped (event_header e) (windows.two v) false ∷ [])
      → ((x : Exchange) (m : List ℕ) (r2 : Regs) → r2.pc ≡ A + 64 → r2.sp ≡ r.sp → H stack outside r.sp m → BytesAt m (base_of f + 106) (event_packet f.setup e v)
      → let d2 : Data = record d { mem = m; exchange = x; marks = d.marks ++ mark.Wrapped (event_header e) (windows.two v) false ∷ [] } in
      Safe f all (running_after (event.Wrapped f.setup.section.id) f r2 d2) → R j (running_after (event.Wrapped f.setup.section.id) f r2 d2))
      → R (suc (suc (suc (suc (suc (suc (suc (suc j)))))))) (running f r d)
  unfolding end_state
  wrap_run tag e is r d v stack outside j pc h safe c0 c1 c2 cv kept marks after =
      let b = base_of f in
      let room = st.room in
      let beneath = st.beneath in
      let sz = h.size in
      let top = h.top in
      let deep = h.room in
      let r7 = record r { pc = A + 62; r9 = b + offsets.end_key_at k; r10 = b + 106; r11 = 6; r12 = b + 130; r13 = 2; r14 = b + 112; r15 = b + 114 } in
      let bytes = safe.memory.bytes in
      let ad : bytes_from d.mem (b + 106) 6 ≡ event_header e = six d.mem (b + 106) 3 e.field e.number bytes c0 c1 c2 in
      let body : bytes_from d.mem (b + 130) 2 ≡ windows.two v = pair d.mem (b + 130) v bytes cv in
      let key : bytes_from d.mem (b + offsets.end_key_at k) 16 ≡ e.key =
      bytes_agree d.mem priv b (offsets.end_key_at k) 16 (λ i lt. h.bytes (offsets.end_key_at k + i) (record { low = omega arith; beside = inr (omega arith) }) (omega arith))
      ∙ ap (λ (x : EndState). x.key) is in
      let pk : PrivateRange f (b + offsets.end_key_at k) 16 = record { low = omega arith; high = omega arith } in
      let bs : Buffers f r7 = record {
        header = record { low = omega arith; high = omega arith };
        text = record { low = omega arith; high = omega arith };
        out = record { low = omega arith; high = omega arith };
        tag = record { low = omega arith; high = omega arith };
        few = omega arith;
        short = omega arith;
        header_shown = (106, refl, mid_shown (length f.setup.ends) 106 6 (omega arith) (omega arith));
        text_shown = (130, refl, mid_shown (length f.setup.ends) 130 2 (omega arith) (omega arith));
      } in
      let ne : (b + offsets.end_key_at k == 0) ≡ false = ne_eqb (b + offsets.end_key_at k) 0 (omega arith) in
      let W = wrapped f.setup.mac e.key (event_header e) (windows.two v) in
      let lc = cipher_length f.setup.mac tag e.key (event_header e) (windows.two v) (omega arith) in
      let lt = tag_length f.setup.mac tag e.key (event_header e) (windows.two v) in
      let lv : v < 65536 = word_below f st (b + 130) cv safe.memory in
      let mc = put_bytes d.mem (b + 112) W.cipher in
      let mt = put_bytes mc (b + 114) W.tag in
      let hc = holds_under_bytes f st at back W.cipher stack priv outside r.sp d.mem (b + 112) h (omega arith) (omega arith) in
      let ht = holds_under_bytes f st at back W.tag stack priv outside r.sp mc (b + 114) hc (omega arith) (omega arith) in
      let size : length d.mem ≡ 65536 = safe.memory.size in
      let size2 : length mc ≡ 65536 = length-put_bytes W.cipher d.mem (b + 112) ∙ size in
      let at_header : BytesAt mt (b + 106) (event_header e) =
      bytes_same d.mem mt (b + 106) (event_header e) (λ c p q. put_other W.tag mc (b + 114) c (inl (omega arith)) ∙ put_other W.cipher d.mem (b + 112) c (inl (omega arith)))
      (subst (λ l. BytesAt d.mem (b + 106) l) ad (stand_from d.mem (b + 106) 6)) in
      let at_cipher : BytesAt mt (b + 112) W.cipher =
      bytes_same mc mt (b + 112) W.cipher (λ c p q. put_other W.tag mc (b + 114) c (inl (omega arith)))
      (bytes_put W.cipher d.mem (b + 112) (cipher_bytes f.setup.mac tag e.key (event_header e) (windows.two v) (omega arith, (omega arith, tt))) (omega arith)) in
      let at_tag : BytesAt mt (b + 114) W.tag = bytes_put W.tag mc (b + 114) (tag_bytes f.setup.mac tag e.key (event_header e) (windows.two v)) (omega arith) in
      let packet : BytesAt mt (b + 106) (event_packet f.setup e v) =
      bytes_append mt (b + 106) (event_header e) (W.cipher ++ W.tag) at_header
      (subst (λ a. BytesAt mt a (W.cipher ++ W.tag)) (omega arith) (bytes_append mt (b + 112) W.cipher W.tag at_cipher (subst (λ a. BytesAt mt a W.tag) (omega arith) at_tag))) in
      loads f st all B Q t 18
      ((## (b + offsets.end_key_at k), 9) ∷ (## (b + 106), 10) ∷ (## 6, 11) ∷ (## (b + 130), 12) ∷ (# 2, 13) ∷ (## (b + 112), 14) ∷ (## (b + 114), 15) ∷ []) refl (omega arith) refl
      (omega arith, (omega arith, (omega arith, (omega arith, (omega arith, (omega arith, (omega arith, tt))))))) r d (suc j) r.pc pc safe (λ s7.
      subst (λ own. HasPrefix all (d.marks ++ mark.Wrapped (event_header e) (windows.two v) own ∷ [])
      → ((x : Exchange) → let d2 : Data = record d { mem = mt; exchange = x; marks = d.marks ++ mark.Wrapped (event_header e) (windows.two v) own ∷ [] } in
      Safe f all (running_after (event.Wrapped f.setup.section.id) f (record r7 { pc = A + 64; r15 = 1 }) d2)
      → R j (running_after (event.Wrapped f.setup.section.id) f (record r7 { pc = A + 64; r15 = 1 }) d2)) → R (suc j) (running f r7 d)) ne
      (wrap_as f st all B Q t 31 refl (omega arith) event.Quiet r7 d e.key (event_header e) (windows.two v) j refl s7 bs (KeyIn k one refl pk key kept) (λ z. absurd (omega (arith, z))) ad body)
      marks (λ x s. after x mt (record r7 { pc = A + 64; r15 = 1 }) refl refl ht packet s))

  -- R12 doubled
  double_run : (i : ℕ) → take 1 (drop i (routine_words (base_of f) k)) ≡ spelling (rla r12) → i + 1 ≤ 70 → (r : Regs) (d : Data) (x j : ℕ) → x < 32768
      → Safe f all (running f (record r { pc = A + 2 * i; r12 = x }) d)
      → ((sr : ℕ) → Safe f all (running f (record r { pc = A + 2 * (i + 1); sr = sr; r12 = 2 * x }) d) → R j (running f (record r { pc = A + 2 * (i + 1); sr = sr; r12 = 2 * x }) d))
      → R (suc j) (running f (record r { pc = A + 2 * i; r12 = x }) d)
  double_run i has le r d x j lt safe after =
      let twice : (x % 65536 + x % 65536 + 0) % 65536 ≡ 2 * x = omega arith in
      let sr1 = flags_after op2.Add (x % 65536) (x % 65536) r.sr in
      goes f st all B Q t i (rla r12) has le refl refl (record r { pc = A + 2 * i; r12 = x }) d j refl safe
      (record r { pc = A + 2 * (i + 1); sr = sr1; r12 = 2 * x }) d.mem (inside t (i + 1) le) (rw twice refl, refl) (after sr1)

  -- a word of the data is read
  data_read : (o : ℕ) (stack outside : List ℕ) (sp : ℕ) (m : List ℕ) → 2 ≤ o → o + 2 ≤ 56 → o % 2 ≡ 0 → H stack outside sp m → (cell m (base_of f + o) ≡ word priv o) × PrivateWord f (base_of f + o)
  data_read o stack outside sp m p q ev h = (
    holds_word f st at back stack priv outside sp m o h ev (record { low = p; beside = inl (omega arith) }) (let z = h.size in let y = st.room in
        omega arith),
    data_word f st o (low_shown _ o 2 q) p ev (let y = st.room in omega arith),
  )

  -- the place of the packet in the out-window
  pub address_run : (e : Event) (r : Regs) (d : Data) (stack outside : List ℕ) (p out j : ℕ) → r.pc ≡ A + 2 * 32 → H stack outside r.sp d.mem → Safe f all (running_after e f r d)
      → word priv working.pieces_at ≡ p → p < 2048 → word priv 10 ≡ out → out + 24 * p < 65536
      → ((sr : ℕ) (r14 : ℕ) → let r2 = record r { pc = A + 2 * 46; sr = sr; r12 = out + 24 * p; r13 = base_of f + 106; r14 = r14; r15 = 3 } in Safe f all (running f r2 d) → R j (running f r2 d))
      → R (suc (suc (suc (suc (suc (suc (suc (suc (suc (suc j)))))))))) (running_after e f r d)
  address_run e r d stack outside p out j pc h safe is lp io lo after =
      let b = base_of f in
      let room = st.room in
      let beneath = st.beneath in
      let rp = data_read 4 stack outside r.sp d.mem (omega arith) (omega arith) refl h in
      let ro = data_read 10 stack outside r.sp d.mem (omega arith) (omega arith) refl h in
      let r1 = record r { pc = A + 68; r12 = p } in
      goes_after f st all B Q e t 32 (mov (& (b + 4)) r12) refl (omega arith) refl refl r d _ pc safe r1 d.mem (inside t 34 (omega arith))
      (b + 4, refl, rp.1, p, rp.0 ∙ is, (rw (flags_stay r.sr) refl, refl)) (λ s1.
      double_run 34 refl (omega arith) r1 d p _ (omega arith) s1 (λ sr2 s2.
      double_run 35 refl (omega arith) (record r { sr = sr2 }) d (2 * p) _ (omega arith) s2 (λ sr3 s3.
      double_run 36 refl (omega arith) (record r { sr = sr3 }) d (2 * (2 * p)) _ (omega arith) s3 (λ sr4 s4.
      let x = 2 * (2 * (2 * p)) in
      let cutx : x % 65536 ≡ x = omega arith in
      let r4 = record r { pc = A + 74; sr = sr4; r12 = x } in
      let r5 = record r { pc = A + 76; sr = sr4; r12 = x; r14 = x } in
      goes f st all B Q t 37 (mov r12 r14) refl (omega arith) refl refl r4 d _ refl s4 r5 d.mem (inside t 38 (omega arith))
      (rw (flags_stay sr4, cutx) refl, refl) (λ s5.
      double_run 38 refl (omega arith) (record r { sr = sr4; r14 = x }) d x _ (omega arith) s5 (λ sr6 s6.
      let y = 2 * x in
      let z : (y % 65536 + x % 65536 + 0) % 65536 ≡ 24 * p = omega arith in
      let sr7 = flags_after op2.Add (x % 65536) (y % 65536) sr6 in
      let r6 = record r { pc = A + 78; sr = sr6; r12 = y; r14 = x } in
      let r7 = record r { pc = A + 80; sr = sr7; r12 = 24 * p; r14 = x } in
      goes f st all B Q t 39 (add r14 r12) refl (omega arith) refl refl r6 d _ refl s6 r7 d.mem (inside t 40 (omega arith))
      (rw z refl, refl) (λ s7.
      last sr7 x s7 ro)))))))
    where
      last : (sr r14 : ℕ) → Safe f all (running f (record r { pc = A + 80; sr = sr; r12 = 24 * p; r14 = r14 }) d) → (cell d.mem (base_of f + 10) ≡ word priv 10) × PrivateWord f (base_of f + 10)
          → R (suc (suc (suc j))) (running f (record r { pc = A + 80; sr = sr; r12 = 24 * p; r14 = r14 }) d)
      last sr r14 s7 ro =
          let b = base_of f in
          let sum : (24 * p % 65536 + out + 0) % 65536 ≡ out + 24 * p = omega arith in
          let room = st.room in
          let beneath = st.beneath in
          let sr8 = flags_after op2.Add out (24 * p % 65536) sr in
          let r7 = record r { pc = A + 80; sr = sr; r12 = 24 * p; r14 = r14 } in
          let r8 = record r { pc = A + 84; sr = sr8; r12 = out + 24 * p; r14 = r14 } in
          goes f st all B Q t 40 (add (& (b + 10)) r12) refl (omega arith) refl refl r7 d _ refl s7 r8 d.mem (inside t 42 (omega arith))
          (b + 10, refl, ro.1, out, ro.0 ∙ io, (rw sum refl, refl)) (λ s8.
          loads f st all B Q t 42 ((## (b + 106), 13) ∷ (## 3, 15) ∷ []) refl (omega arith) refl (omega arith, (omega arith, tt)) r8 d j r8.pc refl s8 (after sr8 r14))

  -- back to where the routine was called
  pub return_run : (r : Regs) (d : Data) (priv2 stack outside : List ℕ) (ret j : ℕ) → r.pc ≡ A + 2 * 69 → MemoryHolds f at back (ret ∷ stack) priv2 outside r.sp d.mem → InText f ret → ret % 2 ≡ 0
      → Safe f all (running f r d)
      → (MemoryHolds f at back stack priv2 outside (r.sp + 2) d.mem → Safe f all (running f (record r { pc = ret; sp = r.sp + 2 }) d) → R j (running f (record r { pc = ret; sp = r.sp + 2 }) d))
      → R (suc j) (running f r d)
  return_run r d priv2 stack outside ret j pc h to ev safe after =
      let p1 = stack_word f st r.sp (length (ret ∷ stack)) h.top (omega arith) (omega (arith, h.room)) in
      let up : (r.sp + 2) % 65536 ≡ r.sp + 2 = omega (arith, p1.high, st.beneath) in
      let kept_even : ret - ret % 2 ≡ ret = omega arith in
      goes f st all B Q t 69 asm.ret refl (omega arith) refl refl r d j pc safe (record r { pc = ret; sp = r.sp + 2 }) d.mem to
      (r.sp, refl, p1, ret, h.words.0, (rw (up, flags_stay r.sr, kept_even) refl, refl)) (after
      (holds_pop f st at back ret stack priv2 outside r.sp d.mem h))

  -- number and count of pieces rise
  pub counts_run : (e : EndState) → end_state priv k ≡ e → (r : Regs) (d : Data) (stack outside : List ℕ) (ret p j : ℕ) → r.pc ≡ A + 2 * 65 → H (ret ∷ stack) outside r.sp d.mem → e.number < 65535
      → word priv working.pieces_at ≡ p → p < 65535 → InText f ret → ret % 2 ≡ 0 → Safe f all (running f r d)
      → ((sr : ℕ) (m : List ℕ) → MemoryHolds f at back stack (put_word (put_word priv (offsets.end_number_at k) (e.number + 1)) working.pieces_at (p + 1)) outside (r.sp + 2) m
      → Safe f all (running f (record r { pc = ret; sp = r.sp + 2; sr = sr }) (record d { mem = m })) → R j (running f (record r { pc = ret; sp = r.sp + 2; sr = sr }) (record d { mem = m })))
      → R (suc (suc (suc j))) (running f r d)
  unfolding end_state
  counts_run e is r d stack outside ret p j pc h ln ip lp to ev safe after =
      let b = base_of f in
      let n = e.number in
      let o = offsets.end_number_at k in
      let en : word priv o ≡ n = ap (λ (x : EndState). x.number) is in
      let sn = slot_word 2 (ret ∷ stack) outside r.sp d.mem refl (omega arith) h in
      let i_n : IsData o = record { low = omega arith; beside = inr (omega arith) } in
      let up_n : (n + 1 + 0) % 65536 ≡ n + 1 = omega arith in
      let m1 = put_cell d.mem (b + o) (n + 1) in
      let priv1 = put_word priv o (n + 1) in
      let h1 = holds_store f st at back (ret ∷ stack) priv outside r.sp d.mem o (n + 1) safe.memory h (omega arith) i_n (omega arith) in
      let same : priv1 ≡ put_cell priv o (n + 1) = put_word_is priv o (n + 1) (omega arith) in
      let size : length priv1 ≡ length priv = ap (λ (l : List ℕ). length l) same ∙ length-put priv o (n + 1) in
      let ip1 : word priv1 4 ≡ p = word_is priv1 4 refl ∙ ap (λ l. cell l 4) same ∙ cell-put_other priv o (n + 1) 4 (omega arith) (omega arith) (omega arith) ∙ sym (word_is priv 4 refl) ∙ ip in
      let i_p : IsData 4 = record { low = omega arith; beside = inl (omega arith) } in
      let pp = data_word f st 4 (low_shown _ 4 2 (omega arith)) (omega arith) refl (omega (arith, st.room)) in
      let cp : cell m1 (b + 4) ≡ p = holds_word f st at back (ret ∷ stack) priv1 outside r.sp m1 4 h1 refl i_p (omega arith) ∙ ip1 in
      let up_p : (p + 1 + 0) % 65536 ≡ p + 1 = omega arith in
      let m2 = put_cell m1 (b + 4) (p + 1) in
      let sr1 = flags_after op2.Add 1 n r.sr in
      let sr2 = flags_after op2.Add 1 p sr1 in
      let r1 = record r { pc = A + 134; sr = sr1 } in
      let r2 = record r { pc = A + 138; sr = sr2 } in
      goes f st all B Q t 65 (inc (& (b + o))) refl (omega arith) refl refl r d _ pc safe r1 m1 (inside t 67 (omega arith))
      (b + o, refl, sn.1, n, sn.0 ∙ en, (b + o, refl, sn.1, n + 1, up_n, omega arith, (refl, refl))) (λ s1.
      goes f st all B Q t 67 (inc (& (b + 4))) refl (omega arith) refl refl r1 (record d { mem = m1 }) _ refl s1 r2 m2 (inside t 69 (omega arith))
      (b + 4, refl, pp, p, cp, (b + 4, refl, pp, p + 1, up_p, omega arith, (refl, refl))) (λ s2.
      return_run r2 (record d { mem = m2 }) (put_word priv1 4 (p + 1)) stack outside ret _ refl
      (holds_store f st at back (ret ∷ stack) priv1 outside r.sp m1 4 (p + 1) s1.memory h1 refl i_p (omega arith)) to ev s2
      (after sr2 m2)))

  -- where the end is ready: header and body, wrap, copy, counts
  pub send_run : IsTag f.setup.mac → (e : EndState) → end_state priv k ≡ e → (r : Regs) (d : Data) (ret v : ℕ) (rest outside : List ℕ) (p out j : ℕ) → r.pc ≡ A + 2 * 6
      → H (ret ∷ v ∷ rest) outside r.sp d.mem → Safe f all (running f r d)
      → e.number < 65535 → word priv working.pieces_at ≡ p → 24 * p + 24 ≤ 384 → word priv 10 ≡ out → out + 384 ≤ 65536 → f.from ≤ out + 24 * p → out + 24 * p + 24 ≤ f.to → InText f ret → ret % 2 ≡ 0
      → WasOpen f.setup f.entered k e.key → (marks : List Mark) → d.marks ++ mark.Wrapped (event_header e) (windows.two v) false ∷ [] ≡ marks → HasPrefix all marks
      → ((x : Violation) → write_bytes f.setup d.devices outside (out + 24 * p) (event_packet f.setup e v) ≡ Err x → (c : Watched) → c.marks ≡ marks → B c x)
      → ((mem : List ℕ) → write_bytes f.setup d.devices outside (out + 24 * p) (event_packet f.setup e v) ≡ Ok mem → (r2 : Regs) (d2 : Data) → r2.pc ≡ ret
      → MemoryHolds f at back (v ∷ rest) (put_word (put_word priv (offsets.end_number_at k) (e.number + 1)) working.pieces_at (p + 1)) mem r2.sp d2.mem → d2.devices ≡ d.devices → d2.marks ≡ marks
      → Safe f all (running f r2 d2) → R j (running f r2 d2))
      → R (58 + j) (running f r d)
  send_run tag e is r d ret v rest outside p out j pc h safe ln ip lp io lo w1 w2 to ev kept marks em begins stop done =
      let W = wrapped f.setup.mac e.key (event_header e) (windows.two v) in
      let bs = event_packet f.setup e v in
      let lc = cipher_length f.setup.mac tag e.key (event_header e) (windows.two v) (omega arith) in
      let lt = tag_length f.setup.mac tag e.key (event_header e) (windows.two v) in
      let la = Rattle.std.proofs.Common.length-append W.cipher W.tag in
      let count : 24 ≡ length bs = omega arith in
      let stands : Turns (routine_words (base_of f) k) 46 true =
      record { copies = (refl, (refl, (refl, (refl, (refl, (refl, (refl, (refl, tt)))))))); add_is = refl; dec_is = refl; jump_is = refl } in
      subst (λ n. R n (running f r d)) (omega arith)
      (header_run e is r d ret v rest outside (45 + suc (suc (suc j)) + 6) pc h safe (λ m h1 c0 c1 c2 cv s1.
      subst (λ n. R n (running f (record r { pc = A + 36 }) (record d { mem = m }))) (omega arith)
      (wrap_run tag e is (record r { pc = A + 36 }) (record d { mem = m }) v (ret ∷ v ∷ rest) outside (33 + suc (suc (suc j)) + 10) refl h1 s1 c0 c1 c2 cv kept
      (subst (λ l. HasPrefix all l) (sym em) begins) (λ x m2 r2 pc2 sp2 h2 packet s2.
      let d2 : Data = record { mem = m2; devices = d.devices; exchange = x; marks = d.marks ++ mark.Wrapped (event_header e) (windows.two v) false ∷ [] } in
      let hs = subst (λ a. H (ret ∷ v ∷ rest) outside a m2) (sym sp2) h2 in
      let Ended : List ℕ → Type 0 = λ m5. (mem : List ℕ) × (write_bytes f.setup d.devices outside (out + 24 * p) bs ≡ Ok mem) × MemoryHolds f at back (ret ∷ v ∷ rest) priv mem r2.sp m5 in
      subst (λ n. R n (running_after (event.Wrapped f.setup.section.id) f r2 d2)) (omega arith)
      (address_run (event.Wrapped f.setup.section.id) r2 d2 (ret ∷ v ∷ rest) outside p out (33 + suc (suc (suc j))) pc2 hs s2 ip
      (omega arith) io (omega arith) (λ sr3 r14 s3.
      let r3 = record r2 { r14 = r14 } in
      subst (λ n. R n (running f (record r3 { pc = A + 92; sr = sr3; r12 = out + 24 * p; r13 = base_of f + 106; r15 = 3 }) d2)) (omega arith)
      (copy_runs f st all B at Q t d2.devices safe.devices back (ret ∷ v ∷ rest) priv r3 d2 Ended true 46 stands (omega arith) 2 bs sr3 (out + 24 * p) (base_of f + 106) (suc (suc (suc j))) outside
      (omega arith) count (omega arith) w1 (omega (arith, count)) (record { low = omega arith; high = omega (arith, st.room, count) })
      (106, refl, mid_shown (length f.setup.ends) 106 (length bs) (omega arith) (omega (arith, count))) packet hs s3
      (λ x2 bad_ r4 m4. stop x2 bad_ (running f r4 (record d2 { mem = m4 })) em)
      (λ mem good m5 h5. (mem, good, h5))
      (λ m5 ended pc5 sr5 a5 a6 ep s5.
      counts_run e is (record r3 { pc = pc5; sr = sr5; r12 = a5; r13 = a6; r15 = 0 }) (record d2 { mem = m5 }) (v ∷ rest) ended.0 ret p j ep ended.2 ln ip (omega arith) to ev s5
      (λ sr6 m6 h6 s6. done ended.0 ended.1 (record r3 { pc = ret; sp = r2.sp + 2; sr = sr6; r12 = a5; r13 = a6; r15 = 0 }) (record d2 { mem = m6 }) refl h6 refl em s6)))))))))
