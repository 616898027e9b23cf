-- The operation that makes an end's packet: a call of its routine.
use Rattle.sx_isa.specs.Standing.{words_of}
use Rattle.sx_isa.specs.Assembly.{##◌, call}
use Rattle.sx_tmpl.proofs.Running.Instructions.{goes}
use Rattle.sx_tmpl.specs.Template.{routine_words}
use Rattle.std.proofs.Common.{◌≡◌, ℕ, suc, ◌+◌, ◌-◌, ◌*◌, ◌%◌, ◌<◌, ◌≤◌, inl, inr, Bool, true, false, not, cond, nat_le, nat_lt, List, [], ◌∷◌, ◌++◌, length, refl, sym, ◌∙◌, ap, subst, arith}
use Rattle.sx_image.specs.Reach.{Here, Goes, Stops}
use Rattle.sx_rules.specs.declared.access.Violation.{Violation}
use Rattle.std.specs.Prelude.{Result, Ok, Err, nat_lt}
use Rattle.std.proofs.lemmas.Bool.{true≢false, or_left, leb-true, ltb-true, and_parts, cases_lt, lt-ltb}
use Rattle.spec_invocation.specs.Windows.{write_bytes}
use Rattle.sx_tag.specs.Mac.{IsTag}
use Rattle.sx_tmpl.proofs.Running.Outcomes.{ok_err, ok_same, err_same, goes_same, goes_stops, stops_same}
use Rattle.sx_tmpl.proofs.Operations.Packet.{is_ready, tests_run, send_run, return_run}
use Rattle.sx_ir.specs.Conf.{Violates, Stuck, Conf}
use Rattle.sx_ir.specs.Meaning.{OperationResult, send, send_open, copied_out, packed, sealed_event, saved, pieces, has_out_window, next, has_packet_room}
use Rattle.spec_machine.specs.Ranges.{passes_end}
use Rattle.sx_mean.specs.Offsets as offsets
use Rattle.sx_mean.specs.Working as working
use Rattle.spec_invocation.specs.ModuleState.{EndState, end_state}
use Rattle.spec_invocation.specs.Windows as windows
use Rattle.spec_invocation.specs.Acts.{event_header, event_packet}
use Rattle.spec_invocation.specs.Marks as mark
use Rattle.spec_invocation.specs.Marks.{HasPrefix, Mark}
use Rattle.spec_machine.specs.Memory.{put_word}
use Rattle.sx_image.specs.Watched.{Watched}
use Rattle.sx_tmpl.specs.Unseen.{WasOpen}
use Rattle.sx_tmpl.proofs.Running.Entered.{IsKept, end_kept}
use Rattle.sx_tmpl.specs.Running.{Regs, Fixed, Data, running, Safe}
use Rattle.sx_tmpl.proofs.Running.MidRun.{Stands, Runs, later, put_cell}
use Rattle.sx_tmpl.specs.Shows.{base_of, MemoryHolds, ShowsConfiguration, Stood}
use Rattle.sx_tmpl.proofs.Running.Steps.{Text, InText}
use Rattle.sx_tmpl.proofs.Operations.Plain.{inside, Leads}
use Rattle.sx_tmpl.proofs.Texts.Made.{made_bytes-append, made_prefix}
use Rattle.spec_invocation.specs.Pieces.{made_bytes}
use Rattle.sx_tmpl.proofs.Running.Holding.{stack_word, holds_push}

-- with the packet's wrap the marks make its bytes, too
packet_made : (all marks : List Mark) (header body : List ℕ) (p : ℕ) → 24 * p ≤ made_bytes marks → HasPrefix all (marks ++ mark.Wrapped header body false ∷ []) → 24 * p + 24 ≤ made_bytes all
packet_made all marks header body p room begins =
    let x = made_prefix all (marks ++ mark.Wrapped header body false ∷ []) begins in
    let y = made_bytes-append marks (mark.Wrapped header body false ∷ []) in
    omega (arith, room, x, y)

-- what `Packet` does, in words
pub data Sending (f : Fixed) (c : Conf) (k v : ℕ) (e : EndState) (after : OperationResult) : Type 0 where
  Idle : is_ready e ≡ false → after ≡ Goes (next c c.stack) → Sending f c k v e after
  Sent : (mem : List ℕ) → is_ready e ≡ true → has_out_window f.setup c ≡ true → saved c 14 + 384 ≤ 65536 → 24 * pieces c + 24 ≤ 384 → 24 * pieces c ≤ made_bytes c.marks
      → write_bytes f.setup c.devices c.mem (saved c 14 + 24 * pieces c) (event_packet f.setup e v) ≡ Ok mem → after ≡ Goes (packed (sealed_event c e v) k e mem) → Sending f c k v e after
  Refused : (x : Violation) → is_ready e ≡ true → has_out_window f.setup c ≡ true → saved c 14 + 384 ≤ 65536 → 24 * pieces c + 24 ≤ 384 → 24 * pieces c ≤ made_bytes c.marks
      → write_bytes f.setup c.devices c.mem (saved c 14 + 24 * pieces c) (event_packet f.setup e v) ≡ Err x → after ≡ Stops (Violates x (sealed_event c e v).marks) → Sending f c k v e after
  Nothing_said : after ≡ Stops Stuck → Sending f c k v e after

pub sending : (f : Fixed) (c : Conf) (k v : ℕ) (e : EndState) → Sending f c k v e (send f.setup c k v e)
sending f c k v e = window (has_out_window f.setup c) refl
  where
    W : Result (List ℕ) Violation
    W = write_bytes f.setup c.devices c.mem (saved c 14 + 24 * pieces c) (event_packet f.setup e v)

    short : has_out_window f.setup c ≡ true → saved c 14 + 384 ≤ 65536
    short h = elim (cases_lt 65536 (saved c 14 + 384)) [
      | inl lt ↦ absurd (true≢false (sym h ∙ ap not (or_left (passes_end (saved c 14) 384) _ (lt-ltb 65536 (saved c 14 + 384) lt))))
      | inr ge ↦ ge
    ]

    copied : (w : Result (List ℕ) Violation) → W ≡ w → has_out_window f.setup c ≡ true → is_ready e ≡ true → 24 * pieces c + 24 ≤ 384 → 24 * pieces c ≤ made_bytes c.marks
        → Sending f c k v e (copied_out w (sealed_event c e v) (packed (sealed_event c e v) k e))
    copied (Ok mem) ew h r n m = Sent mem r h (short h) n m ew refl
    copied (Err x) ew h r n m = Refused x r h (short h) n m ew refl

    fits : (b : Bool) → has_packet_room c ≡ b → has_out_window f.setup c ≡ true → is_ready e ≡ true
        → Sending f c k v e (cond b (copied_out W (sealed_event c e v) (packed (sealed_event c e v) k e)) (Stops Stuck))
    fits true n h r =
        let b = and_parts (nat_le (24 * pieces c + 24) 384) (nat_le (24 * pieces c) (made_bytes c.marks)) n in
        copied W refl h r (leb-true (24 * pieces c + 24) 384 b.0) (leb-true (24 * pieces c) (made_bytes c.marks) b.1)
    fits false n h r = Nothing_said refl

    ready : (b : Bool) → is_ready e ≡ b → has_out_window f.setup c ≡ true → Sending f c k v e (cond b (send_open f.setup c k v e) (Goes (next c c.stack)))
    ready true r h = fits (has_packet_room c) refl h r
    ready false r h = Idle r refl

    window : (b : Bool) → has_out_window f.setup c ≡ b → Sending f c k v e (cond b (cond (is_ready e) (send_open f.setup c k v e) (Goes (next c c.stack))) (Stops Stuck))
    window true h = ready (is_ready e) refl h
    window false h = Nothing_said refl

module _ (f : Fixed) (st : Stands f) (all : List Mark) (B : Watched → Violation → Type 0) (at : ℕ → ℕ) where
  -- the call and the tests, and then either branch
  packet_core : (Q : Watched → Type 0) → IsTag f.setup.mac → (c : Conf) (k v A : ℕ) (rest : List ℕ) (j : ℕ) → offsets.end_at k + 24 ≤ length c.priv → k < length f.setup.ends → length (v ∷ rest) ≤ 160
      → (r : Regs) (d : Data) → Text f (at c.place) 2 (words_of (call (## A) ∷ [])) → Text f A 70 (routine_words (base_of f) k) → at (c.place + 1) ≡ at c.place + 2 * 2
      → ShowsConfiguration f at (record c { stack = v ∷ rest }) r d → Safe f all (running f r d)
      → (let e = end_state c.priv k in let marks = c.marks ++ mark.Wrapped (event_header e) (windows.two v) false ∷ [] in
      (is_ready e ≡ true → WasOpen f.setup f.entered k e.key)
      → (is_ready e ≡ false → (r2 : Regs) (d2 : Data) → ShowsConfiguration f at (next c (v ∷ rest)) r2 d2 → Safe f all (running f r2 d2) → Runs f all B Q j (running f r2 d2))
      → (is_ready e ≡ true → (saved c 14 + 384 ≤ 65536) × (24 * pieces c + 24 ≤ 384) × (f.from ≤ saved c 14 + 24 * pieces c) × (saved c 14 + 24 * pieces c + 24 ≤ f.to) × HasPrefix all marks)
      → (is_ready e ≡ true → (x : Violation) → write_bytes f.setup c.devices c.mem (saved c 14 + 24 * pieces c) (event_packet f.setup e v) ≡ Err x → (w : Watched) → w.marks ≡ marks → B w x)
      → (is_ready e ≡ true → (mem : List ℕ) → write_bytes f.setup c.devices c.mem (saved c 14 + 24 * pieces c) (event_packet f.setup e v) ≡ Ok mem → (r2 : Regs) (d2 : Data)
      → ShowsConfiguration f at (packed (sealed_event (record c { stack = v ∷ rest }) e v) k e mem) r2 d2 → Safe f all (running f r2 d2) → Runs f all B Q j (running f r2 d2))
      → Runs f all B Q (63 + j) (running f r d))
  packet_core Q tag c k v A rest j slot one len r d t rt on sh safe key_kept idle fine stop done =
      let e = end_state c.priv k in
      let marks = c.marks ++ mark.Wrapped (event_header e) (windows.two v) false ∷ [] in
      let h = sh.holds in
      let top = h.top in
      let sp = r.sp - 2 in
      let ret = at c.place + 4 in
      let stack = v ∷ rest in
      let pr = stack_word f st sp (length (ret ∷ stack)) (omega arith) (omega arith) (omega arith) in
      let down : (r.sp + 65534) % 65536 ≡ sp = omega (arith, st.beneath, st.room) in
      let lim = st.below in
      let high = t.to in
      let target : A % 65536 - A % 65536 % 2 ≡ A = omega (arith, rt.to, rt.is_even) in
      let r1 = record r { pc = A; sp = sp } in
      let m1 = put_cell d.mem sp ret in
      let h1 = holds_push f st at c.back stack c.priv c.mem r.sp d.mem sp ret safe.memory h (omega arith) (omega arith) in
      let to : InText f ret = inside t 2 (omega arith) in
      let ev : ret % 2 ≡ 0 = omega (arith, t.is_even) in
      let d1 : Data = record d { mem = m1 } in
      subst (λ n. Runs f all B Q n (running f r d)) (omega arith)
      (goes f st all B Q t 0 (call (## A)) refl (omega arith) refl refl r d (suc (suc (suc (suc (58 + j))))) (omega (arith, sh.pc)) safe
      r1 m1 (record { from = rt.from; to = omega (arith, rt.to) }) (sp, down, pr, ret, refl, omega arith, (rw (down, target) refl, refl)) (λ s1.
      tests_run f st all B at Q k A rt c.back c.priv slot one e refl r1 d1 (ret ∷ stack) c.mem (58 + j) (omega arith) h1 s1
      (λ nr sr s2. subst (λ n. Runs f all B Q n (running f (record r1 { pc = A + 138; sr = sr }) d1)) (omega arith)
      (return_run f st all B at Q k A rt c.back c.priv slot one (record r1 { pc = A + 138; sr = sr }) d1 c.priv stack c.mem ret (57 + j) refl h1 to ev s2
      (λ h3 s3. later f all B Q j (57 + j) _ (omega arith)
      (idle nr (record r1 { pc = ret; sr = sr; sp = sp + 2 }) d1 (record { pc = sym on; holds = h3; devices = sh.devices; marks = sh.marks }) s3))))
      (λ yr sr s2.
      let ok = fine yr in
      let ln : e.number < 65535 = ltb-true e.number 65535 (and_parts e.is_open (nat_lt e.number 65535) yr).1 in
      let same_marks : d1.marks ++ mark.Wrapped (event_header e) (windows.two v) false ∷ [] ≡ marks = ap (λ l. l ++ mark.Wrapped (event_header e) (windows.two v) false ∷ []) sh.marks in
      subst (λ ds. ((x : Violation) → write_bytes f.setup ds c.mem (saved c 14 + 24 * pieces c) (event_packet f.setup e v) ≡ Err x → (w : Watched) → w.marks ≡ marks → B w x)
      → ((mem : List ℕ) → write_bytes f.setup ds c.mem (saved c 14 + 24 * pieces c) (event_packet f.setup e v) ≡ Ok mem → (r2 : Regs) (d2 : Data) → r2.pc ≡ ret
      → MemoryHolds f at c.back (v ∷ rest) (put_word (put_word c.priv (offsets.end_number_at k) (e.number + 1)) working.pieces_at (pieces c + 1)) mem r2.sp d2.mem → d2.devices ≡ d.devices
      → d2.marks ≡ marks → Safe f all (running f r2 d2) → Runs f all B Q j (running f r2 d2))
      → Runs f all B Q (58 + j) (running f (record r1 { pc = A + 12; sr = sr }) d1)) sh.devices
      (send_run f st all B at Q k A rt c.back c.priv slot one tag e refl (record r1 { pc = A + 12; sr = sr }) d1 ret v rest c.mem (pieces c)
      (saved c 14) j refl h1 s2 ln refl ok.1 refl ok.0 ok.2 ok.3 to ev
      (key_kept yr) marks same_marks ok.4)
      (stop yr)
      (λ mem good r2 d2 pc2 h2 dv mk s3. done yr mem good r2 d2 (record { pc = pc2 ∙ sym on; holds = h2; devices = dv ∙ sh.devices; marks = mk }) s3))))

  stuck_violates : (v : Violation) (m : List Mark) → Stuck ≡ Violates v m → ⊥
  stuck_violates v m e = cc

  same_violation : (v w : Violation) (m n : List Mark) → Violates v m ≡ Violates w n → (v ≡ w) × (m ≡ n)
  same_violation v w m n e = (cc, cc)

  -- the words at the configuration's place lead to an end in this violation, after these marks
  abbrev pub Breaks : ℕ → List ℕ → ℕ → Conf → Violation → List Mark → Type 0
  Breaks n ws count c v marks = (r : Regs) (d : Data) → Text f (at c.place) n ws → at (c.place + 1) ≡ at c.place + 2 * n → ShowsConfiguration f at c r d → Safe f all (running f r d)
      → ((w : Watched) → w.marks ≡ marks → B w v) → Runs f all B (λ _. ⊥) count (running f r d)

  pub packet_goes : IsTag f.setup.mac → (c c2 : Conf) (k v A : ℕ) (rest : List ℕ) → offsets.end_at k + 24 ≤ length c.priv → k < length f.setup.ends → IsKept f c → length (v ∷ rest) ≤ 160 → Text f A 70 (routine_words (base_of f) k)
      → send f.setup (record c { stack = v ∷ rest }) k v (end_state c.priv k) ≡ Goes c2 → HasPrefix all c2.marks → saved c 14 ≡ f.from
      → (has_out_window f.setup c ≡ true → (n : ℕ) → n ≤ 384 → n ≤ made_bytes all → f.from + n ≤ f.to)
      → Leads f st all B at 2 (words_of (call (## A) ∷ [])) 63 (record c { stack = v ∷ rest }) c2
  packet_goes tag c c2 k v A rest slot one slots len rt goes begins w1 w2 r d t on sh safe = by_case (sending f (record c { stack = v ∷ rest }) k v e)
    where
      e : EndState
      e = end_state c.priv k

      shown : (c3 : Conf) (r2 : Regs) (d2 : Data) → c3 ≡ c2 → ShowsConfiguration f at c3 r2 d2 → Safe f all (running f r2 d2) → Runs f all B (Stood f all at c2) 0 (running f r2 d2)
      shown c3 r2 d2 same s safe2 = Here (record { regs = r2; rest = d2; state = refl; safe = safe2; shows = subst (λ c. ShowsConfiguration f at c r2 d2) same s })

      by_case : Sending f (record c { stack = v ∷ rest }) k v e (send f.setup (record c { stack = v ∷ rest }) k v e) → Runs f all B (Stood f all at c2) 63 (running f r d)
      by_case (Idle nr is) =
          let same = goes_same _ c2 (sym is ∙ goes) in
          packet_core (Stood f all at c2) tag c k v A rest 0 slot one len r d t rt on sh safe (λ yr. end_kept f.setup f.entered c.priv k one slots (and_parts e.is_open (nat_lt e.number 65535) yr).0)
          (λ _ r2 d2 s safe2. shown (next c (v ∷ rest)) r2 d2 same s safe2)
          (λ yr. absurd (true≢false (sym yr ∙ nr))) (λ yr. absurd (true≢false (sym yr ∙ nr))) (λ yr. absurd (true≢false (sym yr ∙ nr)))
      by_case (Sent mem yr ho lo fits room ok is) =
          let same = goes_same _ c2 (sym is ∙ goes) in
          packet_core (Stood f all at c2) tag c k v A rest 0 slot one len r d t rt on sh safe (λ yr. end_kept f.setup f.entered c.priv k one slots (and_parts e.is_open (nat_lt e.number 65535) yr).0)
          (λ nr. absurd (true≢false (sym yr ∙ nr)))
          (λ _.
          let sealed = subst (λ l. HasPrefix all l) (sym (ap (λ (c : Conf). c.marks) same)) begins in
          let to = w2 ho (24 * pieces c + 24) fits (packet_made all c.marks (event_header e) (windows.two v) (pieces c) room sealed) in
          (lo, fits, omega (arith, w1), omega (arith, w1, to), sealed))
          (λ _ x bad_. absurd (ok_err mem x (sym ok ∙ bad_)))
          (λ _ mem2 ok2 r2 d2 s safe2. shown _ r2 d2 (ap (packed (sealed_event (record c { stack = v ∷ rest }) e v) k e) (ok_same mem2 mem (sym ok2 ∙ ok)) ∙ same) s safe2)
      by_case (Refused x yr ho lo fits room bad_ is) = absurd (goes_stops c2 _ (sym goes ∙ is))
      by_case (Nothing_said is) = absurd (goes_stops c2 Stuck (sym goes ∙ is))

  pub packet_breaks : IsTag f.setup.mac → (c : Conf) (k v A : ℕ) (rest : List ℕ) (x : Violation) (marks : List Mark) → offsets.end_at k + 24 ≤ length c.priv → k < length f.setup.ends → IsKept f c → length (v ∷ rest) ≤ 160
      → Text f A 70 (routine_words (base_of f) k)
      → send f.setup (record c { stack = v ∷ rest }) k v (end_state c.priv k) ≡ Stops (Violates x marks) → HasPrefix all marks → saved c 14 ≡ f.from
      → (has_out_window f.setup c ≡ true → (n : ℕ) → n ≤ 384 → n ≤ made_bytes all → f.from + n ≤ f.to)
      → Breaks 2 (words_of (call (## A) ∷ [])) 63 (record c { stack = v ∷ rest }) x marks
  packet_breaks tag c k v A rest x marks slot one slots len rt stops begins w1 w2 r d t on sh safe ends = by_case (sending f (record c { stack = v ∷ rest }) k v e)
    where
      e : EndState
      e = end_state c.priv k

      by_case : Sending f (record c { stack = v ∷ rest }) k v e (send f.setup (record c { stack = v ∷ rest }) k v e) → Runs f all B (λ _. ⊥) 63 (running f r d)
      by_case (Idle nr is) = absurd (goes_stops _ _ (sym is ∙ stops))
      by_case (Sent mem yr ho lo fits room ok is) = absurd (goes_stops _ _ (sym is ∙ stops))
      by_case (Refused y yr ho lo fits room bad_ is) =
          let same = same_violation y x _ marks (stops_same _ _ (sym is ∙ stops)) in
          packet_core (λ _. ⊥) tag c k v A rest 0 slot one len r d t rt on sh safe (λ yr. end_kept f.setup f.entered c.priv k one slots (and_parts e.is_open (nat_lt e.number 65535) yr).0)
          (λ nr. absurd (true≢false (sym yr ∙ nr)))
          (λ _.
          let sealed = subst (λ l. HasPrefix all l) (sym same.1) begins in
          let to = w2 ho (24 * pieces c + 24) fits (packet_made all c.marks (event_header e) (windows.two v) (pieces c) room sealed) in
          (lo, fits, omega (arith, w1), omega (arith, w1, to), sealed))
          (λ _ z bad2 w m. subst (λ v. B w v) (sym same.0 ∙ err_same y z (sym bad_ ∙ bad2)) (ends w (m ∙ same.1)))
          (λ _ mem ok2. absurd (ok_err mem y (sym ok2 ∙ bad_)))
      by_case (Nothing_said is) = absurd (stuck_violates x marks (stops_same _ _ (sym is ∙ stops)))
