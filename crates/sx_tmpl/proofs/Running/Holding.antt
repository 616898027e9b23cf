-- What writes to the stack and to the data leave of what memory holds.
use Rattle.std.proofs.Common.{◌≡◌, ◌≢◌, ℕ, ◌+◌, ◌-◌, ◌*◌, ◌%◌, ◌<◌, ◌≤◌, ◌⊎◌, inl, inr, true, false, List, [], ◌∷◌, length, Option, Some, None, refl, sym, ◌∙◌, ap, subst, arith, slice_index}
use Rattle.std.proofs.lemmas.Bool.{cases_eq, cases_lt, true≢false}
use Rattle.sx_rules.specs.Access.{in_private}
use Rattle.std.specs.Prelude.{slice_set}
use Rattle.std.proofs.lemmas.List.{get_or-set_same, get_or-set_other, length-set}
use Rattle.sx_mean.specs.Offsets.{end_at}
use Rattle.spec_machine.specs.Memory.{word, put_word, put_bytes, bytes_from}
use Rattle.sx_tmpl.specs.Running.{Fixed, OutsideKept, cell}
use Rattle.sx_tmpl.proofs.Running.MidRun.{Stands, PrivateByte, PrivatePlace, PrivateWord, place_of, put_cell}
use Rattle.sx_tmpl.specs.Unseen.{AreShown, HoldsNoKey}
use Rattle.spec_invocation.specs.Setup.{Setup}
use Rattle.sx_tmpl.specs.Shows.{base_of, WordsAt, IsData, MemoryHolds, ReturnsTo}
use Rattle.sx_tmpl.proofs.Operations.Bytes.{bytes_agree}
use Rattle.sx_tmpl.proofs.Running.Owes.{Inside, kept_byte}
use Rattle.sx_tmpl.proofs.Running.Owned.{in_private_yes, may_write}
use Rattle.sx_tmpl.proofs.Running.Mem.{length-put, get-put_other, get-put_low, get-put_high, cell-put_same, cell-put_other, word_lt, word_is, put_word_is}

pub words_same : (m n : List ℕ) (a : ℕ) (ws : List ℕ) → ((b : ℕ) → a ≤ b → b < a + 2 * length ws → slice_index n b ≡ slice_index m b) → WordsAt m a ws → WordsAt n a ws
unfolding cell
words_same m n a [] h w = tt
words_same m n a (x ∷ ws) h w =
    let lo = h a (omega arith) (omega arith) in
    let hi = h (a + 1) (omega arith) (omega arith) in
    let e : cell n a ≡ x = omega (arith, w.0) in
    (e, words_same m n (a + 2) ws (λ b p q. h b (omega arith) (omega arith)) w.1)

-- a place to return to stays where its word does
pub returns_stay : (f : Fixed) (at : ℕ → ℕ) (back : Option ℕ) (m n : List ℕ) → cell n (base_of f + 104) ≡ cell m (base_of f + 104) → ReturnsTo at f back m → ReturnsTo at f back n
returns_stay f at None m n e h = tt
returns_stay f at (Some p) m n e h = e ∙ h

-- offsets below the plain body, and those from it up to the slots
pub low_shown : (ends o n : ℕ) → o + n ≤ 56 → HoldsNoKey ends o n
low_shown ends o n h = record { plain = inl h; slots = λ k lt. inl (omega arith) }

pub mid_shown : (ends o n : ℕ) → 72 ≤ o → o + n ≤ 520 → HoldsNoKey ends o n
mid_shown ends o n l h = record { plain = inr l; slots = λ k lt. inl (omega arith) }

-- fewer of them
pub part_shown : (ends o m i n : ℕ) → HoldsNoKey ends o m → i + n ≤ m → HoldsNoKey ends (o + i) n
part_shown ends o m i n h le = record {
  plain = elim (h.plain) [ inl p ↦ inl (omega arith) | inr p ↦ inr (omega arith) ];
  slots = λ k lt. elim (h.slots k lt) [ inl p ↦ inl (omega arith) | inr p ↦ inr (omega arith) ];
}

-- those of the private section from an address on
pub are_part : (s : Setup) (a m i n : ℕ) → AreShown s a m → i + n ≤ m → AreShown s (a + i) n
are_part s a m i n h le = (h.0 + i, omega (arith, h.1), part_shown (length s.ends) h.0 m i n h.2 le)

-- the connection field, the number and the mark of a slot
pub slot_shown : (ends k y n : ℕ) → y + n ≤ 8 → HoldsNoKey ends (end_at k + y) n
slot_shown ends k y n h = record { plain = inr (omega arith); slots = λ i lt. elim (cases_lt i k) [ inl p ↦ inr (omega arith) | inr p ↦ inl (omega arith) ] }

module _ (f : Fixed) (st : Stands f) where
  -- the words of the stack are private words
  pub stack_word : (a k : ℕ) → a + 2 * k ≡ base_of f + 512 → 0 < k → k ≤ 180 → PrivateWord f a
  stack_word a k e p q =
      let even = st.base_even in
      let room = st.room in
      let o = 512 - 2 * k in
      record { low = omega arith; high = omega arith; is_even = omega arith; shown = (o, omega arith, record { plain = inr (omega arith); slots = λ i lt. inl (omega arith) }) }

  -- a word at an even offset beside the first one
  pub data_place : (o : ℕ) → 2 ≤ o → o % 2 ≡ 0 → base_of f + (o + 2) ≤ f.setup.section.layout.priv_to → PrivatePlace f (base_of f + o)
  data_place o p ev q =
      let even = st.base_even in
      record { low = omega arith; high = omega arith; is_even = omega arith }

  -- one that holds no key
  pub data_word : (o : ℕ) → HoldsNoKey (length f.setup.ends) o 2 → 2 ≤ o → o % 2 ≡ 0 → base_of f + (o + 2) ≤ f.setup.section.layout.priv_to → PrivateWord f (base_of f + o)
  data_word o shown p ev q =
      let even = st.base_even in
      record { low = omega arith; high = omega arith; is_even = omega arith; shown = (o, refl, shown) }

  fits : (m : List ℕ) (a : ℕ) → OutsideKept f m → PrivatePlace f a → a + 1 < length m
  fits m a k p = let e : length m ≡ 65536 = k.size in omega (arith, p.high, st.beneath)

  -- a word read back
  pub same_word : (m : List ℕ) (a v : ℕ) → OutsideKept f m → PrivatePlace f a → cell (put_cell m a v) a ≡ v
  same_word m a v k p = cell-put_same m a v (fits m a k p)

  pub outside_stays : (m outside : List ℕ) (a v : ℕ) → PrivatePlace f a → ((b : ℕ) → in_private f.setup.section b ≡ false → slice_index m b ≡ slice_index outside b) → (b : ℕ)
      → in_private f.setup.section b ≡ false → slice_index (put_cell m a v) b ≡ slice_index outside b
  outside_stays m outside a v p h b o =
      let i1 = in_private_yes f.setup.section a (omega (arith, p.low)) (omega (arith, p.high)) in
      let i2 = in_private_yes f.setup.section (a + 1) (omega (arith, p.low)) (omega (arith, p.high)) in
      get-put_other m a v b (λ e. true≢false (sym i1 ∙ ap (in_private f.setup.section) (sym e) ∙ o)) (λ e. true≢false (sym i2 ∙ ap (in_private f.setup.section) (sym e) ∙ o)) ∙ h b o

  -- what memory holds at an address is a word
  pub word_below : {m : List ℕ} {v : ℕ} (a : ℕ) → cell m a ≡ v → OutsideKept f m → v < 65536
  word_below {m = m} a is k = subst (λ (n : ℕ). n < 65536) is (word_lt m a k.bytes)

module _ (f : Fixed) (st : Stands f) (at : ℕ → ℕ) (back : Option ℕ) where
  -- a write under the stack's words: SP itself, or a place that only templates use
  pub holds_under : (stack priv outside : List ℕ) (sp : ℕ) (m : List ℕ) (a v : ℕ) → MemoryHolds f at back stack priv outside sp m → PrivatePlace f a → base_of f + 106 ≤ a
      → (a + 2 ≤ base_of f + 148) ⊎ (base_of f + 150 ≤ a) → a + 2 ≤ sp → MemoryHolds f at back stack priv outside sp (put_cell m a v)
  holds_under stack priv outside sp m a v h p lo mid hi = record {
    top = h.top;
    room = h.room;
    whole = h.whole;
    words = words_same m (put_cell m a v) sp stack (λ b x y. get-put_other m a v b (omega arith) (omega arith)) h.words;
    size = h.size;
    bytes = λ o i l. get-put_other m a v (base_of f + o) (apart o i) (apart1 o i) ∙ h.bytes o i l;
    others = outside_stays f st m outside a v p h.others;
    returns = returns_stay f at back m (put_cell m a v) (cell-put_other m a v (base_of f + 104) (omega arith) (omega arith) (omega arith)) h.returns;
    entry_sp = elim mid [
      | inl q ↦ cell-put_other m a v (base_of f + 148) (omega arith) (omega arith) (omega arith)
      | inr q ↦ cell-put_other m a v (base_of f + 148) (omega arith) (omega arith)
          (omega arith)
    ] ∙ h.entry_sp;
  }
    where
      apart : (o : ℕ) → IsData o → base_of f + o ≢ a
      apart o i e = let t = h.top in elim (i.beside) [ inl q ↦ omega arith | inr q ↦ omega arith ]

      apart1 : (o : ℕ) → IsData o → base_of f + o ≢ a + 1
      apart1 o i e = let t = h.top in elim (i.beside) [ inl q ↦ omega arith | inr q ↦ omega arith ]

  -- a word is pushed
  pub holds_push : (stack priv outside : List ℕ) (sp : ℕ) (m : List ℕ) (a v : ℕ) → OutsideKept f m → MemoryHolds f at back stack priv outside sp m → a + 2 ≡ sp → length stack < 170
      → MemoryHolds f at back (v ∷ stack) priv outside a (put_cell m a v)
  holds_push stack priv outside sp m a v k h e room =
      let top = h.top in
      let p = place_of (stack_word f st a (length (v ∷ stack)) (omega arith) (omega arith) (omega arith)) in
      let u = holds_under stack priv outside sp m a v h p (omega arith) (inr (omega arith)) (omega arith) in
      record {
        top = omega arith;
        room = room;
        whole = h.whole;
        words = (same_word f st m a v k p, subst (λ b. WordsAt (put_cell m a v) b stack) (sym e) u.words);
        size = h.size;
        bytes = u.bytes;
        others = u.others;
        returns = u.returns;
        entry_sp = u.entry_sp;
      }

  -- a word is taken off
  pub holds_pop : (x : ℕ) (stack priv outside : List ℕ) (sp : ℕ) (m : List ℕ) → MemoryHolds f at back (x ∷ stack) priv outside sp m → MemoryHolds f at back stack priv outside (sp + 2) m
  holds_pop x stack priv outside sp m h = record {
    top = omega (arith, h.top);
    room = omega (arith, h.room);
    whole = h.whole;
    words = h.words.1;
    size = h.size;
    bytes = h.bytes;
    others =
        h.others;
    returns = h.returns;
    entry_sp = h.entry_sp;
  }

  -- the top word is replaced
  pub holds_replace : (x y : ℕ) (stack priv outside : List ℕ) (sp : ℕ) (m : List ℕ) → OutsideKept f m → MemoryHolds f at back (x ∷ stack) priv outside sp m
      → MemoryHolds f at back (y ∷ stack) priv outside sp (put_cell m sp y)
  holds_replace x y stack priv outside sp m k h = holds_push stack priv outside (sp + 2) m sp y k (holds_pop x stack priv outside sp m h) refl (omega (arith, h.room))

  -- a word is written to the data, at an even offset
  pub holds_store : (stack priv outside : List ℕ) (sp : ℕ) (m : List ℕ) (o v : ℕ) → OutsideKept f m → MemoryHolds f at back stack priv outside sp m → o % 2 ≡ 0 → IsData o → o + 2 ≤ length priv
      → MemoryHolds f at back stack (put_word priv o v) outside sp (put_cell m (base_of f + o) v)
  holds_store stack priv outside sp m o v k h ev i l =
      let t = h.top in
      let s = h.size in
      let lo = i.low in
      let p = data_place f st o lo ev (omega arith) in
      let e = put_word_is priv o v ev in
      let low = elim (i.beside) as (λ x. (base_of f + o + 2 ≤ sp) ⊎ (base_of f + 512 ≤ base_of f + o)) [ inl q ↦ inl (let r = h.room in omega arith) | inr q ↦ inr (omega arith) ] in
      rw e record {
        top = t;
        room = h.room;
        whole = h.whole;
        words = words_same m (put_cell m (base_of f + o) v) sp stack
            (λ b x y. elim low [ inl q ↦ get-put_other m (base_of f + o) v b (omega arith) (omega arith) | inr q ↦ get-put_other m (base_of f + o) v b (omega arith) (omega arith) ]) h.words;
        size = ap (λ n. base_of f + n) (length-put priv o v) ∙ s;
        bytes = λ q j lt. both q j (subst (λ n. q < n) (length-put priv o v) lt);
        others = outside_stays f st m outside (base_of f + o) v p h.others;
        returns = returns_stay f at back m (put_cell m (base_of f + o) v)
            (elim (i.beside) [
              | inl q ↦ cell-put_other m (base_of f + o) v (base_of f + 104) (omega arith) (omega arith) (omega arith)
              | inr q ↦ cell-put_other m (base_of f + o) v (base_of f + 104)
                  (omega arith) (omega arith) (omega arith)
            ]) h.returns;
        entry_sp = elim (i.beside) [
          | inl q ↦ cell-put_other m (base_of f + o) v (base_of f + 148) (omega arith) (omega arith) (omega arith)
          | inr q ↦ cell-put_other m (base_of f + o) v
              (base_of f + 148) (omega arith) (omega arith) (omega arith)
        ] ∙ h.entry_sp;
      }
    where
      both : (q : ℕ) → IsData q → q < length priv → slice_index (put_cell m (base_of f + o) v) (base_of f + q) ≡ slice_index (put_cell priv o v) q
      both q j lt =
          let p = data_place f st o i.low ev (omega (arith, h.size)) in
          let long = fits f st m (base_of f + o) k p in
          elim (cases_eq q o) [
            | inl e ↦ ap (λ q. slice_index (put_cell m (base_of f + o) v) (base_of f + q)) e ∙ get-put_low m (base_of f + o) v (omega arith) ∙ sym (get-put_low priv o v (omega arith))
                ∙ ap (slice_index (put_cell priv o v)) (sym e)
            | inr ne ↦ elim (cases_eq q (o + 1)) [
              | inl e ↦ let z : base_of f + q ≡ base_of f + o + 1 = omega arith in
                  ap (slice_index (put_cell m (base_of f + o) v)) z ∙ get-put_high m (base_of f + o) v long ∙ sym (get-put_high priv o v (omega arith)) ∙ ap (slice_index (put_cell priv o v)) (sym e)
              | inr ne2 ↦ get-put_other m (base_of f + o) v (base_of f + q) (omega arith) (omega arith) ∙ h.bytes q j lt ∙ sym (get-put_other priv o v q ne ne2)
            ]
          ]

  -- a word of the data is read
  pub holds_word : (stack priv outside : List ℕ) (sp : ℕ) (m : List ℕ) (o : ℕ) → MemoryHolds f at back stack priv outside sp m → o % 2 ≡ 0 → IsData o → o + 2 ≤ length priv
      → cell m (base_of f + o) ≡ word priv o
  unfolding cell
  holds_word stack priv outside sp m o h ev i l =
      let lo = h.bytes o i (omega arith) in
      let j : IsData (o + 1) = record { low = omega (arith, i.low); beside = elim (i.beside) [ inl q ↦ inl (omega arith) | inr q ↦ inr (omega arith) ] } in
      let hi = h.bytes (o + 1) j (omega arith) in
      let z : base_of f + (o + 1) ≡ base_of f + o + 1 = omega arith in
      let hi2 : slice_index m (base_of f + o + 1) ≡ slice_index priv (o + 1) = ap (slice_index m) (sym z) ∙ hi in
      let e : cell m (base_of f + o) ≡ cell priv o = omega arith in
      e ∙ sym (word_is priv o ev)

  -- a byte that only templates use is written
  pub holds_under_byte : (stack priv outside : List ℕ) (sp : ℕ) (m : List ℕ) (a v : ℕ) → MemoryHolds f at back stack priv outside sp m → base_of f + 106 ≤ a → a + 1 ≤ base_of f + 148
      → MemoryHolds f at back stack priv outside sp (slice_set m a v)
  unfolding cell
  holds_under_byte stack priv outside sp m a v h lo hi = record {
    top = h.top;
    room = h.room;
    whole = h.whole;
    words = words_same m (slice_set m a v) sp stack (λ b x y. get_or-set_other m a b v 0 (let t = h.top in let r = h.room in omega arith)) h.words;
    size = h.size;
    bytes = λ o i l. get_or-set_other m a (base_of f + o) v 0 (apart o i) ∙ h.bytes o i l;
    others = λ b o. get_or-set_other m a b v 0 (λ e. true≢false (sym private ∙ ap (in_private f.setup.section) (sym e) ∙ o)) ∙ h.others b o;
    returns = returns_stay f at back m (slice_set m a v) (same_cell (base_of f + 104) (omega arith) (omega arith)) h.returns;
    entry_sp = same_cell (base_of f + 148) (omega arith) (omega arith) ∙ h.entry_sp;
  }
    where
      apart : (o : ℕ) → IsData o → base_of f + o ≢ a
      apart o i e = let t = h.top in elim (i.beside) [ inl q ↦ omega arith | inr q ↦ omega arith ]

      private : in_private f.setup.section a ≡ true
      private = let t = h.top in let r = st.room in in_private_yes f.setup.section a (omega arith) (omega arith)

      same_cell : (c : ℕ) → c ≢ a → c + 1 ≢ a → cell (slice_set m a v) c ≡ cell m c
      same_cell c n1 n2 =
          let lo = get_or-set_other m a c v 0 n1 in
          let hi = get_or-set_other m a (c + 1) v 0 n2 in
          omega arith

  -- bytes that only templates use are written
  pub holds_under_bytes : (bs stack priv outside : List ℕ) (sp : ℕ) (m : List ℕ) (a : ℕ) → MemoryHolds f at back stack priv outside sp m → base_of f + 106 ≤ a → a + length bs ≤ base_of f + 148
      → MemoryHolds f at back stack priv outside sp (put_bytes m a bs)
  holds_under_bytes [] stack priv outside sp m a h lo hi = h
  holds_under_bytes (b ∷ bs) stack priv outside sp m a h lo hi =
      holds_under_bytes bs stack priv outside sp (slice_set m a (b % 256)) (a + 1) (holds_under_byte stack priv outside sp m a (b % 256) h lo (omega arith)) (omega arith) (omega arith)

  -- a byte outside the private section is written
  pub holds_outside : (stack priv outside : List ℕ) (sp : ℕ) (m : List ℕ) (a v : ℕ) → OutsideKept f m → MemoryHolds f at back stack priv outside sp m → in_private f.setup.section a ≡ false
      → a < 65536 → MemoryHolds f at back stack priv (slice_set outside a v) sp (slice_set m a v)
  unfolding cell
  holds_outside stack priv outside sp m a v k h out lt = record {
    top = h.top;
    room = h.room;
    whole = length-set outside a v ∙ h.whole;
    words = words_same m (slice_set m a v) sp stack (λ b x y. get_or-set_other m a b v 0 (λ e. stack_apart b x y e)) h.words;
    size = h.size;
    bytes = λ o i l. get_or-set_other m a (base_of f + o) v 0 (λ e. data_apart o i l e) ∙ h.bytes o i l;
    others = both;
    returns = returns_stay f at back m (slice_set m a v) (same_cell 104 (omega arith)) h.returns;
    entry_sp = same_cell 148 (omega arith) ∙ h.entry_sp;
  }
    where
      inside : (b : ℕ) → base_of f ≤ b → b < f.setup.section.layout.priv_to → b ≢ a
      inside b p q e = true≢false (sym (in_private_yes f.setup.section b p q) ∙ ap (in_private f.setup.section) e ∙ out)

      stack_apart : (b : ℕ) → sp ≤ b → b < sp + 2 * length stack → b ≢ a
      stack_apart b p q = let t = h.top in let r = h.room in let z = st.room in inside b (omega arith) (omega arith)

      data_apart : (o : ℕ) → IsData o → o < length priv → base_of f + o ≢ a
      data_apart o i l = let z = h.size in inside (base_of f + o) (omega arith) (omega arith)

      both : (b : ℕ) → in_private f.setup.section b ≡ false → slice_index (slice_set m a v) b ≡ slice_index (slice_set outside a v) b
      both b o = elim (cases_eq b a) [
        | inl e ↦ let lm : a < length m = (let z : length m ≡ 65536 = k.size in omega arith) in let lo : a < length outside = (let z : length outside ≡ 65536 = h.whole in omega arith) in
            ap (slice_index (slice_set m a v)) e ∙ get_or-set_same m a v 0 lm ∙ sym (get_or-set_same outside a v 0 lo) ∙ ap (slice_index (slice_set outside a v)) (sym e)
        | inr ne ↦ get_or-set_other m a b v 0 ne ∙ h.others b o ∙ sym (get_or-set_other outside a b v 0 ne)
      ]

      same_cell : (c : ℕ) → c < 510 → cell (slice_set m a v) (base_of f + c) ≡ cell m (base_of f + c)
      same_cell c lt =
          let z = st.room in
          let lo = get_or-set_other m a (base_of f + c) v 0 (inside (base_of f + c) (omega arith) (omega arith)) in
          let hi = get_or-set_other m a (base_of f + c + 1) v 0 (inside (base_of f + c + 1) (omega arith) (omega arith)) in
          omega arith

-- the place to return to is set
pub holds_return : (f : Fixed) (st : Stands f) (at : ℕ → ℕ) (back : Option ℕ) (p : ℕ) (stack priv outside : List ℕ) (sp : ℕ) (m : List ℕ) → OutsideKept f m
    → MemoryHolds f at back stack priv outside sp m → MemoryHolds f at (Some p) stack priv outside sp (put_cell m (base_of f + 104) (at p))
holds_return f st at back p stack priv outside sp m k h =
    let pr = data_place f st 104 (omega arith) refl (omega (arith, st.room)) in
    let a = base_of f + 104 in
    let v = at p in
    record {
      top = h.top;
      room = h.room;
      whole = h.whole;
      words = words_same m (put_cell m a v) sp stack (λ b x y. get-put_other m a v b (let t = h.top in let r = h.room in omega arith) (let t = h.top in let r = h.room in omega arith)) h.words;
      size = h.size;
      bytes = λ o i l. get-put_other m a v (base_of f + o) (apart o i) (apart1 o i) ∙ h.bytes o i l;
      others = outside_stays f st m outside a v pr h.others;
      returns = same_word f st m a v k pr;
      entry_sp = cell-put_other m a v (base_of f + 148) (omega arith) (omega arith) (omega arith) ∙ h.entry_sp;
    }
  where
    apart : (o : ℕ) → IsData o → base_of f + o ≢ base_of f + 104
    apart o i e = elim (i.beside) [ inl q ↦ omega arith | inr q ↦ omega arith ]

    apart1 : (o : ℕ) → IsData o → base_of f + o ≢ base_of f + 104 + 1
    apart1 o i e = elim (i.beside) [ inl q ↦ omega arith | inr q ↦ omega arith ]

-- and is no longer known
pub holds_forget : (f : Fixed) (at : ℕ → ℕ) (back : Option ℕ) (stack priv outside : List ℕ) (sp : ℕ) (m : List ℕ) → MemoryHolds f at back stack priv outside sp m
    → MemoryHolds f at None stack priv outside sp m
holds_forget f at back stack priv outside sp m h = record {
  top = h.top;
  room = h.room;
  whole = h.whole;
  words = h.words;
  size = h.size;
  bytes = h.bytes;
  others = h.others;
  returns = tt;
  entry_sp =
      h.entry_sp;
}

-- this many bytes of the data
pub record IsRange (o n size : ℕ) : Type 0 where
  pub low : 2 ≤ o
  pub beside : (o + n ≤ 104) ⊎ (512 ≤ o)
  pub fits : o + n ≤ size

module _ (f : Fixed) (st : Stands f) (at : ℕ → ℕ) (back : Option ℕ) where
  -- a byte is written to the data
  pub holds_byte : (stack priv outside : List ℕ) (sp : ℕ) (m : List ℕ) (o v : ℕ) → OutsideKept f m → MemoryHolds f at back stack priv outside sp m → IsData o → o < length priv
      → MemoryHolds f at back stack (slice_set priv o v) outside sp (slice_set m (base_of f + o) v)
  unfolding cell
  holds_byte stack priv outside sp m o v k h i lt = record {
    top = h.top;
    room = h.room;
    whole = h.whole;
    words = words_same m (slice_set m a v) sp stack (λ b x y. get_or-set_other m a b v 0 (stack_apart b x y)) h.words;
    size = ap (λ n. base_of f + n) (length-set priv o v) ∙ h.size;
    bytes = λ q j l. both q j (subst (λ n. q < n) (length-set priv o v) l);
    others = λ b out. get_or-set_other m a b v 0 (λ e. true≢false (sym private ∙ ap (in_private f.setup.section) (sym e) ∙ out)) ∙ h.others b out;
    returns = returns_stay f at back m (slice_set m a v) (same_cell 104 (elim (i.beside) [ inl q ↦ omega arith | inr q ↦ omega arith ])
        (elim (i.beside) [ inl q ↦ omega arith | inr q ↦ omega arith ])) h.returns;
    entry_sp = same_cell 148 (elim (i.beside) [ inl q ↦ omega arith | inr q ↦ omega arith ]) (elim (i.beside) [ inl q ↦ omega arith | inr q ↦ omega arith ]) ∙ h.entry_sp;
  }
    where
      a : ℕ
      a = base_of f + o

      private : in_private f.setup.section a ≡ true
      private = in_private_yes f.setup.section a (omega arith) (omega (arith, h.size))

      stack_apart : (b : ℕ) → sp ≤ b → b < sp + 2 * length stack → b ≢ base_of f + o
      stack_apart b x y e = let t = h.top in let r = h.room in elim (i.beside) [ inl q ↦ omega arith | inr q ↦ omega arith ]

      both : (q : ℕ) → IsData q → q < length priv → slice_index (slice_set m a v) (base_of f + q) ≡ slice_index (slice_set priv o v) q
      both q j l = elim (cases_eq q o) [
        | inl e ↦ let lm : a < length m = (let z : length m ≡ 65536 = k.size in omega (arith, h.size, st.beneath)) in
            ap (λ q. slice_index (slice_set m a v) (base_of f + q)) e ∙ get_or-set_same m a v 0 lm ∙ sym (get_or-set_same priv o v 0 lt) ∙ ap (slice_index (slice_set priv o v)) (sym e)
        | inr ne ↦ get_or-set_other m a (base_of f + q) v 0 (omega arith) ∙ h.bytes q j l ∙ sym (get_or-set_other priv o q v 0 ne)
      ]

      same_cell : (c : ℕ) → c ≢ o → c + 1 ≢ o → cell (slice_set m a v) (base_of f + c) ≡ cell m (base_of f + c)
      same_cell c n1 n2 =
          let lo = get_or-set_other m a (base_of f + c) v 0 (omega arith) in
          let hi = get_or-set_other m a (base_of f + c + 1) v 0 (omega arith) in
          omega arith

  -- and so are bytes
  pub holds_bytes : (bs stack priv outside : List ℕ) (sp : ℕ) (m : List ℕ) (o : ℕ) → OutsideKept f m → MemoryHolds f at back stack priv outside sp m → IsRange o (length bs) (length priv)
      → MemoryHolds f at back stack (put_bytes priv o bs) outside sp (put_bytes m (base_of f + o) bs)
  holds_bytes [] stack priv outside sp m o k h r = h
  holds_bytes (b ∷ bs) stack priv outside sp m o k h r =
      let lo = r.low in
      let fits = r.fits in
      let sz = h.size in
      let i : IsData o = record { low = lo; beside = elim (r.beside) [ inl q ↦ inl (omega arith) | inr q ↦ inr q ] } in
      let place : PrivateByte f (base_of f + o) = record { low = omega arith; high = omega arith } in
      let k1 = kept_byte f st m (base_of f + o) b k (Inside place) (may_write f st (base_of f + o) (omega arith) (omega arith)) in
      let h1 = holds_byte stack priv outside sp m o (b % 256) k h i (omega arith) in
      let r1 : IsRange (o + 1) (length bs) (length (slice_set priv o (b % 256))) =
      record { low = omega arith; beside = elim (r.beside) [ inl q ↦ inl (omega arith) | inr q ↦ inr (omega arith) ]; fits = (let z = length-set priv o (b % 256) in omega arith) } in
      subst (λ a. MemoryHolds f at back stack (put_bytes (slice_set priv o (b % 256)) (o + 1) bs) outside sp (put_bytes (slice_set m (base_of f + o) (b % 256)) a bs)) (omega arith)
      (holds_bytes bs stack (slice_set priv o (b % 256)) outside sp (slice_set m (base_of f + o) (b % 256)) (o + 1) k1 h1 r1)

  -- bytes of the data are read
  pub holds_from : (stack priv outside : List ℕ) (sp : ℕ) (m : List ℕ) (o n : ℕ) → MemoryHolds f at back stack priv outside sp m → IsRange o n (length priv)
      → bytes_from m (base_of f + o) n ≡ bytes_from priv o n
  holds_from stack priv outside sp m o n h r =
      let lo = r.low in
      let fits = r.fits in
      bytes_agree m priv (base_of f) o n (λ i lt. h.bytes (o + i) (record { low = omega arith; beside = elim (r.beside) [ inl q ↦ inl (omega arith) | inr q ↦ inr (omega arith) ] }) (omega arith))
