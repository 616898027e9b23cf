-- A wrap or an unwrap of a module's code is the same step in two nodes that differ in keys, if it gives the same in both.
use Rattle.std.proofs.Common.{◌≡◌, ℕ, zero, suc, ◌+◌, ◌-◌, ◌<◌, ◌≤◌, ◌==◌, ◌&&◌, Bool, true, false, cond, not, inl, inr, List, [], ◌∷◌, length, take, slice_index, Option, Some, None}
use Rattle.std.proofs.Common.{refl, sym, ◌∙◌, ap, ap₂, subst, arith, map}
use Rattle.std.specs.Prelude.{nat_le}
use Rattle.std.specs.List.{list_any}
use Rattle.std.proofs.lemmas.Bool.{and_parts, cases_lt, eqb-true}
use Rattle.std.proofs.lemmas.List.{length-take}
use Rattle.spec_machine.proofs.Meanings.{same_bytes}
use Rattle.spec_machine.proofs.SameRights.{same_each, same_range}
use Rattle.sx_rules.specs.declared.access.Access.{Access}
use Rattle.sx_rules.specs.declared.access.Access.TheVariants.{Read, Write}
use Rattle.sx_rules.specs.declared.access.Violation.{Violation}
use Rattle.sx_rules.specs.declared.access.Violation.TheVariants as bad
use Rattle.sx_rules.specs.declared.section.Section.{Section}
use Rattle.sx_rules.specs.Access.{Sections, holder, in_order, may, section_of}
use Rattle.sx_bus.specs.Devices.{device_at, places_of}
use Rattle.sx_tag.specs.Mac.{Mac}
use Rattle.sx_tag.specs.Wrap.{padded, unwrapped, wrapped}
use Rattle.sx_tag.specs.Wrap as wraps
use Rattle.spec_machine.specs.declared.kinds.Event.{Event}
use Rattle.spec_machine.specs.declared.kinds.Event.TheVariants as event
use Rattle.spec_machine.specs.declared.kinds.Exchange.{Exchange}
use Rattle.spec_machine.specs.Given.{Given, concluded}
use Rattle.spec_machine.specs.Memory.{even, bytes_from, put_bytes, word}
use Rattle.spec_machine.specs.ModuleRows.{module_row, within, buffers, exchanged, opened, own_key, tested, unwrap, with_inputs, with_key, wrap}
use Rattle.spec_machine.specs.Plan.{Plan, Need, Tell, Bytes, Put, Writable}
use Rattle.spec_machine.specs.Ranges.{passes_end, meets_device}
use Rattle.spec_machine.specs.Rows.{program}
use Rattle.spec_machine.specs.State.{State}
use Rattle.spec_machine.specs.Step.{attempt, entered_from, given_at_pc, instruction, is_module_word, ordered, own_of, pc_of, settled_step, start, word_outside}
use Rattle.spec_machine.specs.Modules.{module_instruction}
use Rattle.spec_machine.specs.Run.{Moment, Outcome, Finished, Violated, Module, exec, may_each, may_range}
use Rattle.spec_machine.proofs.PlanGuard.{with_mem}
use Rattle.spec_invocation.specs.Marks as mark
use Rattle.sx_mean.specs.Working.{plain_at}
use Rattle.spec_invocation.specs.Setup.{Setup}
use Rattle.sx_image.specs.Watched.{Watched, marks_of_event, marks_of_touches, violation_of, watch, watched_on}
use Rattle.sx_tmpl.specs.Unseen.{AreShown, SealShowsNone, WordShowsNone}
use Rattle.sx_tmpl.specs.Steady.{AgreeAt, AreOpen, SameMarks, SameOpened, SealsAlike, StepAbreast, StepsSteady, keyless}
use Rattle.sx_tmpl.proofs.Running.Holding.{are_part}
use Rattle.sx_tmpl.proofs.Agreeing.{SameMoments, put_agree, put_apart}
use Rattle.sx_tmpl.proofs.Abreast.{holder_keyless, live_keyless, may_keyless, order_keyless, outside_keyless, plain_abreast, same_all, same_more, word_twin}

module _ (s : Setup) (t u : Sections) (live : t.live ≡ s.live) (places : ℕ → Type 0) (fit : AreOpen s places)
    (mays : (access : Access) (at : ℕ) → may u.live s.section.id access at ≡ may t.live s.section.id access at) where
  abbrev own : ℕ
  own = s.section.id

  -- how a module instruction ends alike
  abbrev pub SameTold : Outcome → Outcome → Type 0
  SameTold (Module r x a e c) (Module q y b f d) =
      (q ≡ r) × SameMoments places x y × (a ≡ t) × (b ≡ u) × (f ≡ e) × (violation_of e ≡ None) × SameMarks (marks_of_event e c) (marks_of_event f d)
  SameTold (Violated v) (Violated w) = w ≡ v
  SameTold (Finished r x) o = ⊥
  SameTold (Violated v) (Finished q y) = ⊥
  SameTold (Violated v) (Module q y b f d) = ⊥
  SameTold (Module r x a e c) (Finished q y) = ⊥
  SameTold (Module r x a e c) (Violated w) = ⊥

  abbrev pub Alike : Plan → Plan → Moment → List ℕ → Type 0
  Alike p q x n = SameTold (exec t own p x) (exec u own q (with_mem x n))

  ifs_same : (b c : Bool) (o p : Outcome) (v : Violation) → c ≡ b → (b ≡ true → SameTold o p) → SameTold (cond b o (Violated v)) (cond c p (Violated v))
  ifs_same b c o p v e f = subst (λ (z : Bool). SameTold (cond b o (Violated v)) (cond z p (Violated v))) (sym e) (by b f)
    where
      by : (b : Bool) → (b ≡ true → SameTold o p) → SameTold (cond b o (Violated v)) (cond b p (Violated v))
      by true g = g refl
      by false g = refl

  -- bytes that hold no key are the same
  range_open : (at n len : ℕ) → AreShown s at len → n ≤ len → may_range t.live own Read at n ≡ true → (k : ℕ) → at ≤ k → k < at + n → places k
  range_open at zero len h le e k a b = absurd (omega arith)
  range_open at (suc n) len h le e k a b =
      let p = and_parts (may t.live own Read (at + n)) (may_range t.live own Read at n) e in
      elim (cases_lt k (at + n)) [
        | inl lt ↦ range_open at n len h (omega arith) p.1 k a lt
        | inr ge ↦
            let z : at + n ≡ k = omega arith in
            subst places z (fit.read (at + n) (sym (ap (λ l. may l own Read (at + n)) live) ∙ p.0) (inr (are_part s at len n 1 h (omega arith))))
      ]

  -- At one moment.
  module _ (x : Moment) (n : List ℕ) (agree : AgreeAt places x.mem n) where
    need_ : (b : Bool) (v : Violation) (p q : Plan) → Alike p q x n → Alike (Need b v p) (Need b v q) x n
    need_ b v p q h = ifs_same b b (exec t own p x) (exec u own q (with_mem x n)) v refl (λ e. h)

    tested_ : (g h : Given) (bs : List Rattle.spec_machine.specs.ModuleRows.Buffer) (p q : Plan) → h.devices ≡ g.devices → Alike p q x n → Alike (tested g bs p) (tested h bs q) x n
    tested_ g h bs p q e a =
        subst (λ (ds : List Rattle.sx_bus.specs.declared.devices.Window.Window). Alike (tested g bs p) (tested (record h { devices = ds }) bs q) x n) (sym e)
        (need_ (not (list_any (λ b. passes_end b.at b.count) bs)) bad.Range (Need (not (list_any (λ b. meets_device (places_of g.devices) b.at b.count) bs)) bad.Device p)
        (Need (not (list_any (λ b. meets_device (places_of g.devices) b.at b.count) bs)) bad.Device q)
        (need_ (not (list_any (λ b. meets_device (places_of g.devices) b.at b.count) bs)) bad.Device p q a))

    -- bytes that hold no key are read
    bytes_ : (at len : ℕ) (k l : List ℕ → Plan) → AreShown s at len → Alike (k (bytes_from x.mem at len)) (l (bytes_from x.mem at len)) x n → Alike (Bytes at len k) (Bytes at len l) x n
    bytes_ at len k l shown h =
        ifs_same (may_range t.live own Read at len) (may_range u.live own Read at len) (exec t own (k (bytes_from x.mem at len)) x) (exec u own (l (bytes_from n at len)) (with_mem x n)) bad.Read
        (same_range t.live u.live own mays Read at len) (λ e.
        subst (λ (bs : List ℕ). SameTold (exec t own (k (bytes_from x.mem at len)) x) (exec u own (l bs) (with_mem x n)))
        (same_bytes n x.mem at len (λ i a b. agree.same i (range_open at len len shown (omega arith) e i a b))) h)

    -- the key is read, whatever it is in each
    key_ : (regs : List ℕ) (g h : Given) (a b : Section) (k l : List ℕ → Plan) → g.regs ≡ regs → h.regs ≡ regs
        → Alike (k (cond (own_key regs) a.key (bytes_from x.mem (slice_index regs 9) 16))) (l (cond (own_key regs) b.key (bytes_from n (slice_index regs 9) 16))) x n
        → Alike (with_key g a k) (with_key h b l) x n
    key_ regs g h a b k l eg eh z =
        subst (λ (r : List ℕ). Alike (with_key (record g { regs = r }) a k) (with_key h b l) x n) (sym eg)
        (subst (λ (r : List ℕ). Alike (with_key (record g { regs = regs }) a k) (with_key (record h { regs = r }) b l) x n) (sym eh) (by (own_key regs) z))
      where
        at : ℕ
        at = slice_index regs 9

        by : (c : Bool) → Alike (k (cond c a.key (bytes_from x.mem at 16))) (l (cond c b.key (bytes_from n at 16))) x n
            → Alike (cond c (k a.key) (Bytes at 16 k)) (cond c (l b.key) (Bytes at 16 l)) x n
        by true h = h
        by false h =
            ifs_same (may_range t.live own Read at 16) (may_range u.live own Read at 16) (exec t own (k (bytes_from x.mem at 16)) x) (exec u own (l (bytes_from n at 16)) (with_mem x n)) bad.Read
            (same_range t.live u.live own mays Read at 16) (λ e. h)

  -- bytes are written
  puts : (x : Moment) (n : List ℕ) (at : ℕ) (bs : List ℕ) (p q : Plan) → AgreeAt places x.mem n
      → (AgreeAt places (put_bytes x.mem at bs) (put_bytes n at bs) → Alike p q (record x { mem = put_bytes x.mem at bs }) (put_bytes n at bs)) → Alike (Put at bs p) (Put at bs q) x n
  puts x n at bs p q h f =
      ifs_same (may_each t.live own Write at bs) (may_each u.live own Write at bs) (exec t own p (record x { mem = put_bytes x.mem at bs }))
      (exec u own q (record (with_mem x n) { mem = put_bytes n at bs })) bad.Write (same_each t.live u.live own mays Write at bs) (λ e. f (put_agree places bs x.mem n at h))

  -- other bytes, where places don't count
  each_len : (at : ℕ) (bs cs : List ℕ) → length cs ≡ length bs → may_each t.live own Write at cs ≡ may_each t.live own Write at bs
  each_len at [] [] e = refl
  each_len at [] (c ∷ cs) e = absurd (omega (arith, e))
  each_len at (b ∷ bs) [] e = absurd (omega (arith, e))
  each_len at (b ∷ bs) (c ∷ cs) e = ap (λ z. may t.live own Write at && z) (each_len (at + 1) bs cs (omega (arith, e)))

  -- The module's instruction in both.
  module _ (mac nac : Mac) (g : Given) (caller : ℕ) (base : List ℕ) (exchange : Exchange) (a b : Section) (x : Moment) (n : List ℕ) (agree : AgreeAt places x.mem n)
      (header_shown : AreShown s (slice_index g.regs 10) (slice_index g.regs 11)) (text_shown : AreShown s (slice_index g.regs 12) (slice_index g.regs 13)) where
    abbrev h : Given
    h = record g { sections = u; caller = caller; base = base; exchange = exchange }

    abbrev at : ℕ → ℕ
    at r = slice_index g.regs r

    abbrev key : List ℕ
    key = cond (own_key g.regs) a.key (bytes_from x.mem (at 9) 16)

    abbrev key2 : List ℕ
    key2 = cond (own_key g.regs) b.key (bytes_from n (at 9) 16)

    abbrev ad : List ℕ
    ad = bytes_from x.mem (at 10) (at 11)

    abbrev text : List ℕ
    text = bytes_from x.mem (at 12) (at 13)

    inputs_ : (rest rest2 : List ℕ → List ℕ → List ℕ → Plan) → Alike (rest key ad text) (rest2 key2 ad text) x n → Alike (with_inputs g a rest) (with_inputs h b rest2) x n
    inputs_ rest rest2 z =
        need_ x n agree (nat_le (at 11) 32 && nat_le (at 13) 32) bad.Range (tested g (buffers g.regs) (with_key g a (λ k. Bytes (at 10) (at 11) (λ ad. Bytes (at 12) (at 13) (λ text. rest k ad text)))))
        (tested h (buffers g.regs) (with_key h b (λ k. Bytes (at 10) (at 11) (λ ad. Bytes (at 12) (at 13) (λ text. rest2 k ad text)))))
        (tested_ x n agree g h (buffers g.regs) (with_key g a (λ k. Bytes (at 10) (at 11) (λ ad. Bytes (at 12) (at 13) (λ text. rest k ad text))))
        (with_key h b (λ k. Bytes (at 10) (at 11) (λ ad. Bytes (at 12) (at 13) (λ text. rest2 k ad text)))) refl
        (key_ x n agree g.regs g h a b (λ k. Bytes (at 10) (at 11) (λ ad. Bytes (at 12) (at 13) (λ text. rest k ad text)))
        (λ k. Bytes (at 10) (at 11) (λ ad. Bytes (at 12) (at 13) (λ text. rest2 k ad text))) refl refl
        (bytes_ x n agree (at 10) (at 11) (λ ad. Bytes (at 12) (at 13) (λ text. rest key ad text)) (λ ad. Bytes (at 12) (at 13) (λ text. rest2 key2 ad text)) header_shown
        (bytes_ x n agree (at 12) (at 13) (λ text. rest key ad text) (λ text. rest2 key2 ad text) text_shown z))))

    pub wrap_alike : wrapped nac key2 ad text ≡ wrapped mac key ad text → Alike (wrap mac g a) (wrap nac h b) x n
    wrap_alike e =
        let told : Plan = Tell (concluded g.regs 1) (event.Wrapped g.own) (exchanged g.regs ad text) in
        let w = wrapped mac key ad text in
        inputs_
        (λ k ad text. Put (at 14) (wrapped mac k ad text).cipher (Put (at 15) (wrapped mac k ad text).tag (Tell (concluded g.regs 1) (event.Wrapped g.own) (exchanged g.regs ad text))))
        (λ k ad text. Put (at 14) (wrapped nac k ad text).cipher (Put (at 15) (wrapped nac k ad text).tag (Tell (concluded g.regs 1) (event.Wrapped g.own) (exchanged g.regs ad text))))
        (subst (λ (z : wraps.Wrapped). Alike (Put (at 14) w.cipher (Put (at 15) w.tag told)) (Put (at 14) z.cipher (Put (at 15) z.tag told)) x n) (sym e)
        (puts x n (at 14) w.cipher (Put (at 15) w.tag told) (Put (at 15) w.tag told) agree (λ g1.
        puts (record x { mem = put_bytes x.mem (at 14) w.cipher }) (put_bytes n (at 14) w.cipher) (at 15) w.tag told told g1 (λ g2.
        (refl, record { rest = refl; mem = g2 }, refl, refl, refl, refl, same_all (marks_of_event (event.Wrapped g.own) (exchanged g.regs ad text)))))))

    opened_alike : (own_key g.regs ≡ true → (at 14 ≡ s.section.layout.priv_from + plain_at) × (at 13 ≤ 16)) → (o p : Option (List ℕ)) → SameOpened g.regs o p → Alike (opened g ad o) (opened h ad p) x n
    opened_alike to None None z = (refl, record { rest = refl; mem = agree }, refl, refl, refl, refl, tt)
    opened_alike to None (Some ys) z = absurd z
    opened_alike to (Some xs) None z = absurd z
    opened_alike to (Some xs) (Some ys) (inl e) =
        let plain = take (at 13) xs in
        let told : Plan = Tell (concluded g.regs 1) (event.Unwrapped g.own) (exchanged g.regs ad plain) in
        subst (λ (z : List ℕ). Alike (opened g ad (Some xs)) (opened h ad (Some z)) x n) (sym e)
        (puts x n (at 14) plain told told agree (λ g1.
        (refl, record { rest = refl; mem = g1 }, refl, refl, refl, refl, same_all (marks_of_event (event.Unwrapped g.own) (exchanged g.regs ad plain)))))
    opened_alike to (Some xs) (Some ys) (inr z) =
        let plain = take (at 13) xs in
        let plain2 = take (at 13) ys in
        let lx = length-take (at 13) xs in
        let ly = length-take (at 13) ys in
        let lens = z.1 in
        let there = (to z.0).0 in
        let small = (to z.0).1 in
        let len : length plain2 ≡ length plain = omega (arith, lx, ly, lens) in
        let told : Plan = Tell (concluded g.regs 1) (event.Unwrapped g.own) (exchanged g.regs ad plain) in
        let told2 : Plan = Tell (concluded g.regs 1) (event.Unwrapped g.own) (exchanged g.regs ad plain2) in
        ifs_same (may_each t.live own Write (at 14) plain) (may_each u.live own Write (at 14) plain2) (exec t own told (record x { mem = put_bytes x.mem (at 14) plain }))
        (exec u own told2 (record (with_mem x n) { mem = put_bytes n (at 14) plain2 })) bad.Write (same_each t.live u.live own mays Write (at 14) plain2 ∙ each_len (at 14) plain plain2 len) (λ e. (
          refl,
          record {
            rest = refl;
            mem = put_apart places plain plain2 x.mem n (at 14) len (λ k p q c. fit.plain (k - at 14) (omega (arith, lx, p, q, small)) (subst places (place k p ∙ ap (λ a. a + (k - at 14)) there) c)) agree;
          },
          refl,
          refl,
          refl,
          refl,
          (
            subst (λ (o : Bool). Rattle.sx_tmpl.specs.Steady.SameMark (mark.Unwrapped (take (length ad) (padded ad)) (take (length plain) (padded plain)) o)
                (mark.Unwrapped (take (length ad) (padded ad)) (take (length plain2) (padded plain2)) o)) (sym z.0) (take (length plain2) (padded plain2), refl),
            tt,
          ),
        ))
      where
        place : (k : ℕ) → slice_index g.regs 14 ≤ k → k ≡ slice_index g.regs 14 + (k - slice_index g.regs 14)
        place k p = omega arith

    pub unwrap_alike : AreShown s (at 15) 16 → (own_key g.regs ≡ true → (at 14 ≡ s.section.layout.priv_from + plain_at) × (at 13 ≤ 16)) → SameOpened g.regs (unwrapped mac key ad text (bytes_from x.mem (at 15) 16)) (unwrapped nac key2 ad text (bytes_from x.mem (at 15) 16))
        → Alike (unwrap mac g a) (unwrap nac h b) x n
    unwrap_alike tag_shown to z =
        let tag = bytes_from x.mem (at 15) 16 in
        inputs_
        (λ k ad text. Bytes (at 15) 16 (λ tag. Writable (at 14) (at 13) (opened g ad (unwrapped mac k ad text tag))))
        (λ k ad text. Bytes (at 15) 16 (λ tag. Writable (at 14) (at 13) (opened h ad (unwrapped nac k ad text tag))))
        (bytes_ x n agree (at 15) 16 (λ tag. Writable (at 14) (at 13) (opened g ad (unwrapped mac key ad text tag))) (λ tag. Writable (at 14) (at 13) (opened h ad (unwrapped nac key2 ad text tag))) tag_shown
        (ifs_same (may_range t.live own Write (at 14) (at 13)) (may_range u.live own Write (at 14) (at 13)) (exec t own (opened g ad (unwrapped mac key ad text tag)) x)
        (exec u own (opened h ad (unwrapped nac key2 ad text tag)) (with_mem x n)) bad.Write (same_range t.live u.live own mays Write (at 14) (at 13)) (λ e.
        opened_alike to (unwrapped mac key ad text tag) (unwrapped nac key2 ad text tag) z)))

-- Two nodes, at a wrap or an unwrap of the module's code.
module _ (nac : Mac) (s : Setup) (n : State) (mem : List ℕ) (u : Sections) (key : List ℕ) (exchange : Exchange) (places : ℕ → Type 0) (fit : AreOpen s places) (live : n.sections.live ≡ s.live)
    (same : map keyless u.live ≡ map keyless n.sections.live) (next : u.next ≡ n.sections.next) (agree : AgreeAt places n.mem mem) (own : own_of n ≡ s.section.id) (other : Section)
    (found : section_of n.sections.live s.section.id ≡ Some s.section) (found2 : section_of u.live s.section.id ≡ Some other) (entered : List ℕ) (c : Watched) where
  abbrev m : State
  m = record n { mem = mem; sections = u; key = key; exchange = exchange }

  abbrev Told : Outcome → Outcome → Type 0
  Told o p = SameTold s n.sections u live places fit (λ access at. may_keyless n.sections.live u.live same s.section.id access at) o p

  own_twin : own_of m ≡ own_of n
  own_twin = holder_keyless n.sections.live u.live same (pc_of n)

  abbrev g : Given
  g = record (given_at_pc s.mac n) { own = s.section.id }

  abbrev g2 : Given
  g2 = record (given_at_pc nac m) { own = s.section.id }

  abbrev at_word : Mac → ℕ → State → Outcome
  at_word mac w a = cond (is_module_word w) (module_instruction mac (w - 0x1380) (given_at_pc mac a) a.mem) (exec a.sections (own_of a) (program w a.regs) (start a))

  wrap_one : word n.mem (pc_of n) ≡ 0x1384 → instruction s.mac n ≡ exec n.sections s.section.id (wrap s.mac g s.section) (start n)
  unfolding module_row
  wrap_one e =
      ap (λ w. at_word s.mac w n) e ∙ ap (λ (o : ℕ). exec n.sections o (module_row s.mac 4 (record (given_at_pc s.mac n) { own = o })) (start n)) own
      ∙ ap (λ o. exec n.sections s.section.id (within g (wrap s.mac g) o) (start n)) found

  wrap_two : word mem (pc_of n) ≡ 0x1384 → instruction nac m ≡ exec u s.section.id (wrap nac g2 other) (start m)
  unfolding module_row
  wrap_two e =
      ap (λ w. at_word nac w m) e ∙ ap (λ (o : ℕ). exec u o (module_row nac 4 (record (given_at_pc nac m) { own = o })) (start m)) (own_twin ∙ own)
      ∙ ap (λ o. exec u s.section.id (within g2 (wrap nac g2) o) (start m)) found2

  unwrap_one : word n.mem (pc_of n) ≡ 0x1385 → instruction s.mac n ≡ exec n.sections s.section.id (unwrap s.mac g s.section) (start n)
  unfolding module_row
  unwrap_one e =
      ap (λ w. at_word s.mac w n) e ∙ ap (λ (o : ℕ). exec n.sections o (module_row s.mac 5 (record (given_at_pc s.mac n) { own = o })) (start n)) own
      ∙ ap (λ o. exec n.sections s.section.id (within g (unwrap s.mac g) o) (start n)) found

  unwrap_two : word mem (pc_of n) ≡ 0x1385 → instruction nac m ≡ exec u s.section.id (unwrap nac g2 other) (start m)
  unfolding module_row
  unwrap_two e =
      ap (λ w. at_word nac w m) e ∙ ap (λ (o : ℕ). exec u o (module_row nac 5 (record (given_at_pc nac m) { own = o })) (start m)) (own_twin ∙ own)
      ∙ ap (λ o. exec u s.section.id (within g2 (unwrap nac g2) o) (start m)) found2

  seal_same : (w : ℕ) → word n.mem (pc_of n) ≡ w → SealShowsNone s entered c w n.regs → SealsAlike s nac other n m → word mem (pc_of n) ≡ word n.mem (pc_of n)
      → Told (instruction s.mac n) (instruction nac m)
  seal_same w here shown alike e =
      elim (shown.seals) [
        | inl q ↦
            let z = alike.wraps (here ∙ q) in
            subst (λ (o : Outcome). Told o (instruction nac m)) (sym (wrap_one (here ∙ q))) (subst (λ (o : Outcome). Told (exec n.sections s.section.id (wrap s.mac g s.section) (start n)) o)
            (sym (wrap_two (e ∙ here ∙ q)))
            (wrap_alike s n.sections u live places fit (λ access at. may_keyless n.sections.live u.live same s.section.id access at) s.mac nac g g2.caller g2.base exchange s.section other (start n) mem agree
            shown.header shown.text z))
        | inr q ↦
            let z = alike.opens (here ∙ q) in
            subst (λ (o : Outcome). Told o (instruction nac m)) (sym (unwrap_one (here ∙ q))) (subst (λ (o : Outcome). Told (exec n.sections s.section.id (unwrap s.mac g s.section) (start n)) o)
            (sym (unwrap_two (e ∙ here ∙ q)))
            (unwrap_alike s n.sections u live places fit (λ access at. may_keyless n.sections.live u.live same s.section.id access at) s.mac nac g g2.caller g2.base exchange s.section other (start n) mem agree
            shown.header shown.text (shown.tag q) (λ o. shown.opened q (eqb-true (slice_index n.regs 9) 0 o)) z))
      ]

  ifs_told : (b c : Bool) (o p : Outcome) (v : Violation) → c ≡ b → (b ≡ true → Told o p) → Told (cond b o (Violated v)) (cond c p (Violated v))
  ifs_told = ifs_same s n.sections u live places fit (λ access at. may_keyless n.sections.live u.live same s.section.id access at)

  attempt_told : SealShowsNone s entered c (word n.mem (pc_of n)) n.regs → SealsAlike s nac other n m → Told (attempt s.mac n) (attempt nac m)
  attempt_told shown alike =
      ifs_told (word_outside n.sections.live (pc_of n)) (word_outside u.live (pc_of n)) (ordered s.mac n (device_at n.devices (pc_of n))) (ordered nac m (device_at n.devices (pc_of n))) bad.Fetch
      (ap₂ (λ b c. b && c) (outside_keyless n.sections.live u.live same (even (pc_of n))) (outside_keyless n.sections.live u.live same (even (pc_of n) + 1)))
      (λ e. by (device_at n.devices (pc_of n)) (word_twin s.mac nac s n mem u key exchange places fit live same next agree own e))
    where
      by : (d : Option ℕ) → word mem (pc_of n) ≡ word n.mem (pc_of n) → Told (ordered s.mac n d) (ordered nac m d)
      by (Some device) e = refl
      by None e =
          ifs_told (in_order n.sections.live n.cur (pc_of n)) (in_order u.live n.cur (pc_of n)) (instruction s.mac n) (instruction nac m) bad.Order
          (order_keyless n.sections.live u.live same n.cur (pc_of n)) (λ o. seal_same (word n.mem (pc_of n)) refl shown alike e)

  entered_same : entered_from m (own_of n) ≡ entered_from n (own_of n)
  entered_same = ap (λ (b : Bool). cond (own_of n == n.cur) n.caller (cond b n.last 0)) (live_keyless n.sections.live u.live same n.last)

  module _ (w v : Watched) (here : w.node ≡ n) (there : v.node ≡ m) (marks : SameMarks w.marks v.marks) where
    abbrev S : Outcome → Outcome → Type 0
    S o p = StepAbreast places (watched_on w (settled_step n o) (violation_of (settled_step n o).shown.event)) (watched_on v (settled_step m p) (violation_of (settled_step m p).shown.event))

    told : (r : List ℕ) (x : Moment) (e : Event) (c d : Exchange) (after : List ℕ) → AgreeAt places x.mem after → violation_of e ≡ None → SameMarks (marks_of_event e c) (marks_of_event e d)
        → S (Module r x n.sections e c) (Module r (record x { mem = after }) u e d)
    told r x e c d after agreed none told_marks =
        subst (λ (o : Option Violation). StepAbreast places (watched_on w (settled_step n (Module r x n.sections e c)) o)
        (watched_on v (settled_step m (Module r (record x { mem = after }) u e d)) o)) (sym none) (record {
          nodes = record { rest = nodes; mem = agreed; live = same; next = next };
          event = refl;
          marks = same_more w.marks v.marks _ _ marks (same_more (marks_of_touches x.touches) (marks_of_touches x.touches) (marks_of_event e c) (marks_of_event e d)
              (same_all (marks_of_touches x.touches)) told_marks);
        })
      where
        nodes : (settled_step m (Module r (record x { mem = after }) u e d)).state
            ≡ record (settled_step n (Module r x n.sections e c)).state { mem = after; sections = u; key = key; exchange = d }
        nodes =
            ap (λ (o : ℕ). record (settled_step m (Module r (record x { mem = after }) u e d)).state {
              cur = cond (holder u.live (slice_index r 0) == o) o 0;
              last = o;
              caller = entered_from m o;
            }) own_twin
            ∙ ap₂ (λ (h c : ℕ). record (settled_step n (Module r x n.sections e d)).state {
              mem = after;
              sections = u;
              key = key;
              exchange = d;
              cur = cond (h == own_of n) (own_of n) 0;
              caller = c;
            }) (holder_keyless n.sections.live u.live same (slice_index r 0)) entered_same

    outcome : (o p : Outcome) → Told o p → S o p
    outcome (Module r x t e c) (Module q y b f d) h =
        subst (λ (z : List ℕ). S (Module r x t e c) (Module z y b f d)) (sym h.0)
        (subst (λ (z : Moment). S (Module r x t e c) (Module r z b f d)) (sym h.1.rest)
        (subst (λ (z : Sections). S (Module r x z e c) (Module r (record x { mem = y.mem }) b f d)) (sym h.2)
        (subst (λ (z : Sections). S (Module r x n.sections e c) (Module r (record x { mem = y.mem }) z f d)) (sym h.3)
        (subst (λ (z : Event). S (Module r x n.sections e c) (Module r (record x { mem = y.mem }) u z d)) (sym h.4)
        (told r x e c d y.mem h.1.mem h.5 (subst (λ (z : Event). SameMarks (marks_of_event e c) (marks_of_event z d)) h.4 h.6))))))
    outcome (Violated a) (Violated b) h = h
    outcome (Finished r x) p h = absurd h
    outcome (Violated a) (Finished q y) h = absurd h
    outcome (Violated a) (Module q y b f d) h = absurd h
    outcome (Module r x t e c) (Finished q y) h = absurd h
    outcome (Module r x t e c) (Violated b) h = absurd h

    -- a wrap or an unwrap is the same step in both
    pub seal_abreast : SealShowsNone s entered c (word n.mem (pc_of n)) n.regs → SealsAlike s nac other n m → StepAbreast places (watch s.mac w) (watch nac v)
    unfolding watch
    seal_abreast shown alike =
        subst (λ (z : State). StepAbreast places (watched_on w (settled_step z (attempt s.mac z)) (violation_of (settled_step z (attempt s.mac z)).shown.event)) (watch nac v)) (sym here)
        (subst (λ (z : State). StepAbreast places (watched_on w (settled_step n (attempt s.mac n)) (violation_of (settled_step n (attempt s.mac n)).shown.event))
        (watched_on v (settled_step z (attempt nac z)) (violation_of (settled_step z (attempt nac z)).shown.event))) (sym there)
        (outcome (attempt s.mac n) (attempt nac m) (attempt_told shown alike)))

-- A step of the module's code that shows no key is the same in both nodes.
pub steps_steady : (s : Setup) (places : ℕ → Type 0) → StepsSteady s places
steps_steady s places nac other entered w v fit live own found found2 shown abreast alike =
    let n = w.node in
    let k = abreast.nodes in
    let m : State = record n { mem = v.node.mem; sections = v.node.sections; key = v.node.key; exchange = v.node.exchange } in
    by (is_module_word (word n.mem (pc_of n))) refl shown (subst (λ (z : State). SealsAlike s nac other n z) k.rest alike)
  where
    by : (b : Bool) → is_module_word (word w.node.mem (pc_of w.node)) ≡ b → WordShowsNone s entered w (word w.node.mem (pc_of w.node)) b
        → SealsAlike s nac other w.node (record w.node { mem = v.node.mem; sections = v.node.sections; key = v.node.key; exchange = v.node.exchange })
        → StepAbreast places (watch s.mac w) (watch nac v)
    by true e told same =
        seal_abreast nac s w.node v.node.mem v.node.sections v.node.key v.node.exchange places fit live abreast.nodes.live abreast.nodes.next abreast.nodes.mem own other found found2 entered w w v refl
        abreast.nodes.rest abreast.marks told same
    by false e plain same =
        plain_abreast s.mac nac s w.node v.node.mem v.node.sections v.node.key v.node.exchange places fit live abreast.nodes.live abreast.nodes.next abreast.nodes.mem own w v refl abreast.nodes.rest
        abreast.marks e plain
