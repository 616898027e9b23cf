-- An invocation twice, where own keys, tag functions and the keys of open ends differ.
use Rattle.std.proofs.Common.{◌≡◌, ℕ, zero, suc, ◌+◌, ◌*◌, ◌<◌, ◌≤◌, Bool, true, false, cond, not, ◌&&◌, ◌||◌, ◌==◌, inl, inr, ◌⊎◌, bytes_eq, List, [], ◌∷◌, ◌++◌, length, take, drop}
use Rattle.std.proofs.Common.{slice_index, slice_set, Option, Some, None, Result, Ok, Err, refl, sym, ◌∙◌, ap, ap₂, subst, arith}
use Rattle.std.specs.Prelude.{if◌then◌else◌, nat_lt, nat_le}
use Rattle.std.proofs.lemmas.Bool.{and_parts, or_parts, true≢false, false_from_ne_true, leb-true, ltb-true, not-false}
use Rattle.sx_lang.specs.declared.sides.Side.TheVariants.{To}
use Rattle.sx_mean.specs.declared.events.End.{End}
use Rattle.sx_mean.specs.declared.events.Act.{Act}
use Rattle.sx_mean.specs.declared.events.Act.TheVariants.{Send, Emit}
use Rattle.sx_mean.specs.declared.events.SourceEvent.{SourceEvent}
use Rattle.sx_mean.specs.declared.events.SourceEvent.TheVariants as event
use Rattle.sx_mean.specs.React.{react}
use Rattle.sx_mean.specs.Ends.{is_sending}
use Rattle.sx_rules.specs.declared.access.Access.{Access}
use Rattle.sx_rules.specs.declared.access.Access.TheVariants.{Read, Write}
use Rattle.sx_rules.specs.declared.access.Violation.{Violation}
use Rattle.sx_rules.specs.declared.access.Violation.TheVariants as bad
use Rattle.sx_rules.specs.declared.section.Section.{Section}
use Rattle.sx_rules.specs.Access.{may, in_private}
use Rattle.sx_bus.specs.declared.devices.Window.{Window}
use Rattle.sx_bus.specs.Devices.{device_at}
use Rattle.sx_tag.specs.Mac.{Mac}
use Rattle.sx_tag.specs.Wrap.{crypt, wrap_tag, Wrapped as WrappedBytes, wrapped, padded, unwrapped}
use Rattle.spec_machine.specs.Memory.{word}
use Rattle.spec_machine.specs.Ranges.{meets, passes_end}
use Rattle.spec_machine.proofs.PublicKept.{clear_of_range}
use Rattle.spec_invocation.specs.Protocol.{set_key_entry, attest_entry, input_entry, no_entry, bad_window, other_kind, no_end, past_number, no_sample}
use Rattle.spec_invocation.specs.Protocol.{set_key_size, set_key_kind, ask_size, ask_kind, event_size, event_kind, header_size, key_size, key_tag_at, value_size, value_tag_at, last_number}
use Rattle.spec_invocation.specs.Setup.{Setup, Call}
use Rattle.spec_invocation.specs.ModuleState.{EndState, end_of, with_end, link_of, epoch_of}
use Rattle.spec_invocation.specs.Marks as mark
use Rattle.spec_invocation.specs.Marks.{Mark}
use Rattle.spec_invocation.specs.Windows.{in_window_size, out_window_size, is_bad_window, two, unless_device, read_byte, write_byte, then_, read_bytes, write_bytes}
use Rattle.spec_invocation.specs.Progress.{Progress, Invoked, Returns, Violates, Course, Going, Broken, and_on, finished}
use Rattle.spec_invocation.specs.Acts.{copied_to, with_piece, event_header, wrap_counted, event_packet, with_packet, with_packets, own_window, actuated, with_act, with_acts, handled}
use Rattle.spec_invocation.specs.Entries.{received, is_kind, set_key, set_key_at, key_opened, is_keyed, attest, input, input_at, event_numbered, event_opened, sample, sample_of, sample_read}
use Rattle.spec_invocation.specs.Entries.{number_taken, field_in, second_in, header_in, end_on, end_found, side_of}
use Rattle.spec_invocation.specs.Invocation.{invoke, entered, returns_inside, is_no_entry, has_bad_windows}
use Rattle.law_forgery.specs.Tags.{SameTags}
use Rattle.sx_tmpl.specs.Steady.{AgreeAt}
use Rattle.law_forgery.proofs.Packets.{read_long}
use Rattle.law_forgery.proofs.Instructions.{wrapped_same, unwrapped_same}
use Rattle.sx_tmpl.proofs.Agreeing.{set_agree}

-- the cipher of a set-key packet, and what it opens to
abbrev pub key_cipher : List ℕ → List ℕ
key_cipher packet = take key_size (drop header_size packet)

abbrev pub key_in : Mac → List ℕ → List ℕ → List ℕ
key_in mac key packet = take key_size (padded (crypt mac key (header_in packet) (key_cipher packet)))

-- the ends differ in keys alone, which are related where they are open
abbrev pub SameEnd : (ℕ → List ℕ → List ℕ → Type 0) → EndState → EndState → Type 0
SameEnd Related e f = (f ≡ record e { key = f.key }) × (e.is_open ≡ true → Related e.field e.key f.key)

abbrev pub SameEnds : (ℕ → List ℕ → List ℕ → Type 0) → List EndState → List EndState → Type 0
SameEnds Related [] [] = Unit {0}
SameEnds Related [] (f ∷ fs) = ⊥
SameEnds Related (e ∷ es) [] = ⊥
SameEnds Related (e ∷ es) (f ∷ fs) = SameEnd Related e f × SameEnds Related es fs

pub end_same : (Related : ℕ → List ℕ → List ℕ → Type 0) (es fs : List EndState) (k : ℕ) → SameEnds Related es fs → SameEnd Related (end_of es k) (end_of fs k)
end_same Related [] [] k h = (refl, λ e. absurd (true≢false (sym e)))
end_same Related [] (f ∷ fs) k h = absurd h
end_same Related (e ∷ es) [] k h = absurd h
end_same Related (e ∷ es) (f ∷ fs) zero h = h.0
end_same Related (e ∷ es) (f ∷ fs) (suc k) h = end_same Related es fs k h.1

with_end_same : (Related : ℕ → List ℕ → List ℕ → Type 0) (es fs : List EndState) (k : ℕ) (e f : EndState) → SameEnds Related es fs → SameEnd Related e f
    → SameEnds Related (with_end es k e) (with_end fs k f)
with_end_same Related [] [] k a b h g = tt
with_end_same Related [] (f ∷ fs) k a b h g = absurd h
with_end_same Related (e ∷ es) [] k a b h g = absurd h
with_end_same Related (e ∷ es) (f ∷ fs) zero a b h g = (g, h.1)
with_end_same Related (e ∷ es) (f ∷ fs) (suc k) a b h g = (h.0, with_end_same Related es fs k a b h.1 g)

-- ends whose keys are related otherwise
pub ends_map : (R S : ℕ → List ℕ → List ℕ → Type 0) → ((field : ℕ) (k l : List ℕ) → R field k l → S field k l) → (es fs : List EndState) → SameEnds R es fs → SameEnds S es fs
ends_map R S f [] [] h = tt
ends_map R S f [] (y ∷ fs) h = absurd h
ends_map R S f (x ∷ es) [] h = absurd h
ends_map R S f (x ∷ es) (y ∷ fs) h = ((h.0.0, λ o. f x.field x.key y.key (h.0.1 o)), ends_map R S f es fs h.1)

-- the mark is one of these
abbrev pub IsMark : Mark → List Mark → Type 0
IsMark m [] = ⊥
IsMark m (x ∷ xs) = (x ≡ m) ⊎ IsMark m xs

-- it is the unwrap of a set-key packet
abbrev pub IsKey : Mark → Type 0
IsKey (mark.Wrapped header body own) = ⊥
IsKey (mark.Unwrapped header body true) = Unit {0}
IsKey (mark.Unwrapped header body false) = ⊥
IsKey (mark.Sampled device v) = ⊥
IsKey (mark.Actuated device v) = ⊥

last_mark : (ms : List Mark) (m : Mark) → IsMark m (ms ++ m ∷ [])
last_mark [] m = inl refl
last_mark (x ∷ ms) m = inr (last_mark ms m)

-- Linked: two keys that ends with this connection field have before. Opens: what a set-key packet
-- with this header opens to in each.
module _ (Linked : ℕ → List ℕ → List ℕ → Type 0) (Opens : List ℕ → List ℕ → List ℕ → Type 0) (places : ℕ → Type 0) where
  -- two unwraps of a set-key packet
  pub record SameOpened (m n : Mark) : Type 0 where
    pub packet : List ℕ
    pub a : List ℕ
    pub b : List ℕ
    pub first : m ≡ mark.Unwrapped (header_in packet) a true
    pub second : n ≡ mark.Unwrapped (header_in packet) b true
    pub opens : Opens (header_in packet) a b

  -- the marks are the same but for the bodies of set-key packets
  abbrev pub SameMarks : List Mark → List Mark → Type 0
  SameMarks [] [] = Unit {0}
  SameMarks [] (n ∷ ns) = ⊥
  SameMarks (m ∷ ms) [] = ⊥
  SameMarks (m ∷ ms) (n ∷ ns) = (((m ≡ n) × (IsKey m → ⊥)) ⊎ SameOpened m n) × SameMarks ms ns

  -- the same progress with other ends, memory and marks
  abbrev pub mate : Progress → List EndState → List ℕ → List Mark → Progress
  mate p es n ms = record p { state = record p.state { ends = es }; mem = n; marks = ms }

  pub record SameProgress (p q : Progress) : Type 0 where
    pub rest : q ≡ mate p q.state.ends q.mem q.marks
    pub ends : SameEnds Linked p.state.ends q.state.ends
    pub mem : AgreeAt places p.mem q.mem
    pub marks : SameMarks p.marks q.marks

  abbrev pub SameCourse : Course → Course → Type 0
  SameCourse (Going p) (Going q) = SameProgress p q
  SameCourse (Broken v p) (Broken w q) = (v ≡ w) × SameProgress p q
  SameCourse (Going p) (Broken w q) = ⊥
  SameCourse (Broken v p) (Going q) = ⊥

  -- a key that an end was given by one of these marks
  abbrev pub Given : List Mark → ℕ → List ℕ → List ℕ → Type 0
  Given ms field k l =
      (packet : List ℕ) × (field ≡ field_in packet) × IsMark (mark.Unwrapped (header_in packet) k true) ms × Opens (header_in packet) k l

  abbrev pub After : List Mark → ℕ → List ℕ → List ℕ → Type 0
  After ms field k l = Linked field k l ⊎ Given ms field k l

  -- where an invocation ends: an open end has the keys that it had, or was given them
  pub record SameLeft (p q : Progress) : Type 0 where
    pub rest : q ≡ mate p q.state.ends q.mem q.marks
    pub ends : SameEnds (After p.marks) p.state.ends q.state.ends
    pub mem : AgreeAt places p.mem q.mem
    pub marks : SameMarks p.marks q.marks

  left_of : (p q : Progress) → SameProgress p q → SameLeft p q
  left_of p q h = record {
    rest = h.rest;
    ends = ends_map Linked (After p.marks) (λ f k l x. inl x) p.state.ends q.state.ends h.ends;
    mem = h.mem;
    marks = h.marks;
  }

  abbrev pub SameInvoked : Invoked → Invoked → Type 0
  SameInvoked (Returns a p) (Returns b q) = (a ≡ b) × SameLeft p q
  SameInvoked (Violates v p) (Violates w q) = (v ≡ w) × SameLeft p q
  SameInvoked (Returns a p) (Violates w q) = ⊥
  SameInvoked (Violates v p) (Returns b q) = ⊥

  marks_more : (ms ns : List Mark) (m n : Mark) → SameMarks ms ns → ((m ≡ n) × (IsKey m → ⊥)) ⊎ SameOpened m n → SameMarks (ms ++ m ∷ []) (ns ++ n ∷ [])
  marks_more [] [] m n h g = (g, tt)
  marks_more [] (y ∷ ns) m n h g = absurd h
  marks_more (x ∷ ms) [] m n h g = absurd h
  marks_more (x ∷ ms) (y ∷ ns) m n h g = (h.0, marks_more ms ns m n h.1 g)

  and_same : (x y : Course) (f g : Progress → Course) → SameCourse x y → ((p q : Progress) → SameProgress p q → SameCourse (f p) (g q)) → SameCourse (and_on x f) (and_on y g)
  and_same (Going p) (Going q) f g h j = j p q h
  and_same (Broken v p) (Broken w q) f g h j = h
  and_same (Going p) (Broken w q) f g h j = absurd h
  and_same (Broken v p) (Going q) f g h j = absurd h

  finished_same : (x y : Course) → SameCourse x y → SameInvoked (finished x) (finished y)
  finished_same (Going p) (Going q) h = (refl, left_of p q h)
  finished_same (Broken v p) (Broken w q) h = (h.0, left_of p q h.1)
  finished_same (Going p) (Broken w q) h = absurd h
  finished_same (Broken v p) (Going q) h = absurd h

  abbrev SameMem : Result (List ℕ) Violation → Result (List ℕ) Violation → Type 0
  SameMem (Ok m) (Ok n) = AgreeAt places m n
  SameMem (Err v) (Err w) = v ≡ w
  SameMem (Ok m) (Err w) = ⊥
  SameMem (Err v) (Ok n) = ⊥

  -- The second setup.
  module _ (s : Setup) (nac : Mac) (key : List ℕ) (us : List Section)
      (mays : (access : Access) (at : ℕ) → may us s.section.id access at ≡ may s.live s.section.id access at)
      (readable : (at : ℕ) → may s.live s.section.id Read at ≡ true → in_private s.section at ≡ false → places at)
      (tags : (rest : List ℕ) → s.mac s.section.key (0x54 ∷ rest) ≡ nac key (0x54 ∷ rest))
      (linked : (field : ℕ) (k l : List ℕ) → Linked field k l → SameTags s.mac k nac l)
      (opens : (packet : List ℕ) → length packet ≡ set_key_size → bytes_eq (drop key_tag_at packet) (wrap_tag s.mac s.section.key (header_in packet) (key_cipher packet)) ≡ true
      → Opens (header_in packet) (key_in s.mac s.section.key packet) (key_in nac key packet)) where
    abbrev pub other : Setup
    other = record s { mac = nac; section = record s.section { key = key }; live = us }

    -- Windows.

    read_byte_same : (d : List Window) (m n : List ℕ) (at : ℕ) → AgreeAt places m n → in_private s.section at ≡ false → read_byte other d n at ≡ read_byte s d m at
    unfolding read_byte
    read_byte_same d m n at h out =
        ap (λ (b : Bool). cond b (unless_device (device_at d at) (slice_index n at)) (Err bad.Read)) (mays Read at)
        ∙ by (may s.live s.section.id Read at) refl
      where
        by : (b : Bool) → may s.live s.section.id Read at ≡ b
            → cond b (unless_device (device_at d at) (slice_index n at)) (Err bad.Read) ≡ cond b (unless_device (device_at d at) (slice_index m at)) (Err bad.Read)
        by true e = ap (λ (v : ℕ). unless_device {T = ℕ} (device_at d at) v) (sym (h.same at (readable at e out)))
        by false e = refl

    read_bytes_same : (d : List Window) (m n : List ℕ) (at len : ℕ) → AgreeAt places m n → ((k : ℕ) → at ≤ k → k < at + len → in_private s.section k ≡ false)
        → read_bytes other d n at len ≡ read_bytes s d m at len
    unfolding read_bytes
    read_bytes_same d m n at zero h f = refl
    read_bytes_same d m n at (suc len) h f =
        ap₂ (λ (b : Result ℕ Violation) (bs : Result (List ℕ) Violation). then_ b (λ x. then_ bs (λ xs. Ok (x ∷ xs))))
        (read_byte_same d m n at h (f at (omega arith) (omega arith)))
        (read_bytes_same d m n (at + 1) len h (λ k a b. f k (omega (arith, a)) (omega (arith, b))))

    written_then : (r q : Result (List ℕ) Violation) (f g : List ℕ → Result (List ℕ) Violation) → SameMem r q → ((m n : List ℕ) → AgreeAt places m n → SameMem (f m) (g n))
        → SameMem (then_ r f) (then_ q g)
    written_then (Ok m) (Ok n) f g h j = j m n h
    written_then (Err v) (Err w) f g h j = h
    written_then (Ok m) (Err w) f g h j = absurd h
    written_then (Err v) (Ok n) f g h j = absurd h

    write_byte_same : (d : List Window) (m n : List ℕ) (at b : ℕ) → AgreeAt places m n → SameMem (write_byte s d m at b) (write_byte other d n at b)
    unfolding write_byte
    write_byte_same d m n at b h =
        subst (λ (c : Bool). SameMem (cond (may s.live s.section.id Write at) (unless_device (device_at d at) (slice_set m at b)) (Err bad.Write))
        (cond c (unless_device (device_at d at) (slice_set n at b)) (Err bad.Write)))
        (sym (mays Write at)) (by (may s.live s.section.id Write at) (device_at d at))
      where
        by : (c : Bool) (o : Option ℕ) → SameMem (cond c (unless_device o (slice_set m at b)) (Err bad.Write)) (cond c (unless_device o (slice_set n at b)) (Err bad.Write))
        by true None = set_agree places m n at b h
        by true (Some i) = refl
        by false o = refl

    write_bytes_same : (d : List Window) (bs m n : List ℕ) (at : ℕ) → AgreeAt places m n → SameMem (write_bytes s d m at bs) (write_bytes other d n at bs)
    unfolding write_bytes
    write_bytes_same d [] m n at h = h
    write_bytes_same d (b ∷ bs) m n at h =
        written_then (write_byte s d m at b) (write_byte other d n at b) (λ x. write_bytes s d x (at + 1) bs) (λ x. write_bytes other d x (at + 1) bs) (write_byte_same d m n at b h)
        (λ x y g. write_bytes_same d bs x y (at + 1) g)

    -- no byte of a good window is private
    window_out : (at n len k : ℕ) → len ≤ n → is_bad_window s at n ≡ false → at ≤ k → k < at + len → in_private s.section k ≡ false
    window_out at n len k short good a b = false_from_ne_true (in_private s.section k) (λ e.
        let p = and_parts (nat_le s.section.layout.priv_from k) (nat_lt k s.section.layout.priv_to) e in
        let m = (or_parts (passes_end at n) (meets at n s.section.layout.priv_from s.section.layout.priv_to) good).1 in
        elim (clear_of_range at n s.section.layout.priv_from s.section.layout.priv_to k m (leb-true s.section.layout.priv_from k p.0) (ltb-true k s.section.layout.priv_to p.1)) [
          | inl lt ↦ omega (arith, lt, a)
          | inr ge ↦ omega (arith, ge, b, short)
        ])

    -- Pieces and acts.

    module _ (c : Call) where
      -- two parts of a course do the same
      abbrev Alike : (Progress → Course) → (Progress → Course) → Type 0
      Alike f g = (p q : Progress) → SameProgress p q → SameCourse (f p) (g q)

      abbrev AlikeAt : (Progress → Course) → (Progress → Course) → Type 0
      AlikeAt f g = (p : Progress) (es : List EndState) (n : List ℕ) (ms : List Mark) → SameEnds Linked p.state.ends es → AgreeAt places p.mem n → SameMarks p.marks ms
          → SameCourse (f p) (g (mate p es n ms))

      lifted : (f g : Progress → Course) → AlikeAt f g → Alike f g
      lifted f g j p q h = subst (λ (z : Progress). SameCourse (f p) (g z)) (sym h.rest) (j p q.state.ends q.mem q.marks h.ends h.mem h.marks)

      piece_same : (piece : List ℕ) → AlikeAt (with_piece s c piece) (with_piece other c piece)
      piece_same piece p es n ms e a m =
          let at = c.output + event_size * length p.pieces in
          by (write_bytes s p.devices p.mem at piece) (write_bytes other p.devices n at piece) (write_bytes_same p.devices piece p.mem n at a)
        where
          by : (r q : Result (List ℕ) Violation) → SameMem r q
              → SameCourse (copied_to r (record p { pieces = p.pieces ++ piece ∷ [] })) (copied_to q (record (mate p es n ms) { pieces = p.pieces ++ piece ∷ [] }))
          by (Ok x) (Ok y) h = record { rest = refl; ends = e; mem = h; marks = m }
          by (Err v) (Err w) h = (h, record { rest = refl; ends = e; mem = a; marks = m })
          by (Ok x) (Err w) h = absurd h
          by (Err v) (Ok y) h = absurd h

      packet_at : (v k : ℕ) (e : EndState) (l : List ℕ) (b : Bool) → (b ≡ true → Linked e.field e.key l) → AlikeAt
          (λ p. if b then with_piece s c (event_packet s e v) (wrap_counted k e v p) else Going p)
          (λ p. if b then with_piece other c (event_packet other (record e { key = l }) v) (wrap_counted k (record e { key = l }) v p) else Going p)
      packet_at v k e l false f p es n ms ends a m = record { rest = refl; ends = ends; mem = a; marks = m }
      packet_at v k e l true f p es n ms ends a m =
          let mk : Mark = mark.Wrapped (event_header e) (two v) false in
          let one = record e { number = e.number + 1 } in
          let two_ = record e { number = e.number + 1; key = l } in
          subst (λ (piece : List ℕ). SameCourse (with_piece s c (event_packet s e v) (wrap_counted k e v p)) (with_piece other c piece (wrap_counted k (record e { key = l }) v (mate p es n ms))))
          (ap (λ (w : WrappedBytes). event_header e ++ w.cipher ++ w.tag) (wrapped_same s.mac nac e.key l (event_header e) (two v) (linked e.field e.key l (f refl))))
          (piece_same (event_packet s e v) (wrap_counted k e v p) (with_end es k two_) n (ms ++ mk ∷ [])
          (with_end_same Linked p.state.ends es k one two_ ends (refl, λ o. f refl)) a (marks_more p.marks ms mk mk m (inl (refl, λ z. z))))

      packet_same : (v k : ℕ) → AlikeAt (with_packet s c v k) (with_packet other c v k)
      unfolding with_packet
      packet_same v k p es n ms ends a m =
          let e = end_of p.state.ends k in
          let h = end_same Linked p.state.ends es k ends in
          subst (λ (f : EndState). SameCourse (with_packet s c v k p)
          (cond (f.is_open && nat_lt f.number last_number) (with_piece other c (event_packet other f v) (wrap_counted k f v (mate p es n ms))) (Going (mate p es n ms)))) (sym h.0)
          (packet_at v k e (end_of es k).key (e.is_open && nat_lt e.number last_number) (λ b. h.1 (and_parts e.is_open (nat_lt e.number last_number) b).0) p es n ms ends a m)

      packets_same : (output v k : ℕ) (es : List End) → Alike (with_packets s c output v k es) (with_packets other c output v k es)
      packets_same output v k [] p q h = h
      packets_same output v k (e ∷ es) p q h = by (is_sending output e.side e.port) (packets_same output v (k + 1) es)
        where
          by : (b : Bool) → Alike (with_packets s c output v (k + 1) es) (with_packets other c output v (k + 1) es)
              → SameCourse (cond b (and_on (with_packet s c v k p) (with_packets s c output v (k + 1) es)) (with_packets s c output v (k + 1) es p))
              (cond b (and_on (with_packet other c v k q) (with_packets other c output v (k + 1) es)) (with_packets other c output v (k + 1) es q))
          by true rest = and_same (with_packet s c v k p) (with_packet other c v k q) (with_packets s c output v (k + 1) es) (with_packets other c output v (k + 1) es)
              (lifted (with_packet s c v k) (with_packet other c v k) (packet_same v k) p q h) rest
          by false rest = rest p q h

      emitted : (v : ℕ) (o : Option (ℕ × Window)) → AlikeAt (λ p. Going (actuated v o p)) (λ p. Going (actuated v o p))
      emitted v None p es n ms e a m = record { rest = refl; ends = e; mem = a; marks = m }
      emitted v (Some d) p es n ms e a m =
          record { rest = refl; ends = e; mem = a; marks = marks_more p.marks ms (mark.Actuated d.0 v) (mark.Actuated d.0 v) m (inl (refl, λ z. z)) }

      act_same : (act : Act) → Alike (with_act s c act) (with_act other c act)
      act_same (Send output v) p q h = packets_same output v 0 s.ends p q h
      act_same (Emit v) p q h =
          lifted (with_act s c (Emit v)) (with_act other c (Emit v)) (λ x es n ms e a m. emitted v (own_window s x.devices) x es n ms e a m) p q h

      acts_same : (acts : List Act) → Alike (with_acts s c acts) (with_acts other c acts)
      acts_same [] p q h = h
      acts_same (a ∷ acts) p q h =
          and_same (with_act s c a p) (with_act other c a q) (with_acts s c acts) (with_acts other c acts) (act_same a p q h) (acts_same acts)

      handled_same : (e : SourceEvent) → AlikeAt (handled s c e) (handled other c e)
      unfolding handled
      handled_same e p es n ms ends a m =
          let done = react s.tree e p.state.cells in
          acts_same done.acts (record p { state = record p.state { cells = done.cells } }) (record (mate p es n ms) { state = record p.state { cells = done.cells; ends = es } })
          (record { rest = refl; ends = ends; mem = a; marks = m })

      -- The entries.

      module _ (p : Progress) (es : List EndState) (n : List ℕ) (ms : List Mark) (ends : SameEnds Linked p.state.ends es) (agree : AgreeAt places p.mem n) (marks : SameMarks p.marks ms) where
        abbrev q : Progress
        q = mate p es n ms

        plain : SameLeft p q
        plain = left_of p q (record { rest = refl; ends = ends; mem = agree; marks = marks })

        ways : (b : Bool) (x y u v : Invoked) → (b ≡ true → SameInvoked x u) → (b ≡ false → SameInvoked y v) → SameInvoked (cond b x y) (cond b u v)
        ways true x y u v f g = f refl
        ways false x y u v f g = g refl

        way : (b : Bool) (x y u v : Invoked) → SameInvoked x u → SameInvoked y v → SameInvoked (cond b x y) (cond b u v)
        way b x y u v f g = ways b x y u v (λ _. f) (λ _. g)

        received_same : (len kind : ℕ) (f g : List ℕ → Invoked) → len ≤ in_window_size → is_bad_window s c.input in_window_size ≡ false
            → ((packet : List ℕ) → length packet ≡ len → SameInvoked (f packet) (g packet))
            → SameInvoked (received (read_bytes s p.devices p.mem c.input len) kind f p) (received (read_bytes other p.devices n c.input len) kind g q)
        received_same len kind f g short good h =
            subst (λ (r : Result (List ℕ) Violation). SameInvoked (received (read_bytes s p.devices p.mem c.input len) kind f p) (received r kind g q))
            (sym (read_bytes_same p.devices p.mem n c.input len agree (λ k a b. window_out c.input in_window_size len k short good a b)))
            (by (read_bytes s p.devices p.mem c.input len) refl)
          where
            by : (r : Result (List ℕ) Violation) → read_bytes s p.devices p.mem c.input len ≡ r → SameInvoked (received r kind f p) (received r kind g q)
            by (Err v) e = (refl, plain)
            by (Ok packet) e = way (is_kind kind packet) (f packet) (Returns other_kind p) (g packet) (Returns other_kind q) (h packet (read_long s p.devices p.mem len c.input packet e))
                (refl, plain)

        key_opened_same : (k : ℕ) (packet : List ℕ) → length packet ≡ set_key_size
            → SameInvoked (key_opened k packet (unwrapped s.mac s.section.key (header_in packet) (key_cipher packet) (drop key_tag_at packet)) p)
            (key_opened k packet (unwrapped nac key (header_in packet) (key_cipher packet) (drop key_tag_at packet)) q)
        unfolding unwrapped wrap_tag
        key_opened_same k packet size =
            let ad = header_in packet in
            let t = take 16 (nac key (0x54 ∷ length ad ∷ (ad ++ key_cipher packet))) in
            subst (λ (z : List ℕ). SameInvoked
            (key_opened k packet (cond (bytes_eq (drop key_tag_at packet) (wrap_tag s.mac s.section.key ad (key_cipher packet)))
            (Some (padded (crypt s.mac s.section.key ad (key_cipher packet)))) None) p)
            (key_opened k packet (cond (bytes_eq (drop key_tag_at packet) z) (Some (padded (crypt nac key ad (key_cipher packet)))) None) q))
            (ap (take 16) (tags (length ad ∷ (ad ++ key_cipher packet))))
            (by (bytes_eq (drop key_tag_at packet) (wrap_tag s.mac s.section.key ad (key_cipher packet))) (opens packet size))
          where
            by : (b : Bool) → (b ≡ true → Opens (header_in packet) (key_in s.mac s.section.key packet) (key_in nac key packet))
                → SameInvoked (key_opened k packet (cond b (Some (padded (crypt s.mac s.section.key (header_in packet) (key_cipher packet)))) None) p)
                (key_opened k packet (cond b (Some (padded (crypt nac key (header_in packet) (key_cipher packet)))) None) q)
            by true f =
                let a = key_in s.mac s.section.key packet in
                let b = key_in nac key packet in
                let x : Mark = mark.Unwrapped (header_in packet) a true in
                let y : Mark = mark.Unwrapped (header_in packet) b true in (
                  refl,
                  record {
                    rest = refl;
                    ends = with_end_same (After (p.marks ++ x ∷ [])) p.state.ends es k (record { is_open = true; field = field_in packet; number = 0; key = a })
                        (record { is_open = true; field = field_in packet; number = 0; key = b })
                        (ends_map Linked (After (p.marks ++ x ∷ [])) (λ field k l g. inl g) p.state.ends es ends)
                        (refl, λ o. inr (packet, refl, last_mark p.marks x, f refl));
                    mem = agree;
                    marks = marks_more p.marks ms x y marks (inr (record { packet = packet; a = a; b = b; first = refl; second = refl; opens = f refl }));
                  },
                )
            by false f = (refl, plain)

        set_key_same : (packet : List ℕ) → length packet ≡ set_key_size → SameInvoked (set_key s packet p) (set_key other packet q)
        set_key_same packet size = by_end (end_on (link_of (field_in packet)) s.ends (side_of (second_in packet)))
          where
            by_end : (e : Option (ℕ × End)) → SameInvoked (set_key_at s packet e p) (set_key_at other packet e q)
            by_end None = (refl, plain)
            by_end (Some e) =
                let now = end_of p.state.ends e.0 in
                let x = key_opened e.0 packet (unwrapped s.mac s.section.key (header_in packet) (key_cipher packet) (drop key_tag_at packet)) p in
                let y = key_opened e.0 packet (unwrapped nac key (header_in packet) (key_cipher packet) (drop key_tag_at packet)) q in
                subst (λ (f : EndState). SameInvoked (cond (is_keyed now (field_in packet)) (Returns no_end p) x) (cond (is_keyed f (field_in packet)) (Returns no_end q) y))
                (sym (end_same Linked p.state.ends es e.0 ends).0)
                (way (is_keyed now (field_in packet)) (Returns no_end p) x (Returns no_end q) y (refl, plain) (key_opened_same e.0 packet size))

        attest_same : (ask : List ℕ) → SameInvoked (attest s c ask p) (attest other c ask q)
        unfolding wrap_tag crypt
        attest_same ask =
            let mk : Mark = mark.Wrapped ask [] true in
            let one = record p { marks = p.marks ++ mk ∷ [] } in
            let two_ = mate p es n (ms ++ mk ∷ []) in
            subst (λ (t : List ℕ). SameInvoked (attest s c ask p) (finished (with_piece other c t two_))) (ap (take 16) (tags (length ask ∷ (ask ++ []))))
            (finished_same (with_piece s c (wrapped s.mac s.section.key ask []).tag one) (with_piece other c (wrapped s.mac s.section.key ask []).tag two_)
            (piece_same (wrapped s.mac s.section.key ask []).tag one es n (ms ++ mk ∷ []) ends agree (marks_more p.marks ms mk mk marks (inl (refl, λ z. z)))))

        opened_same : (e : ℕ × End) (packet : List ℕ) (now : EndState) (l : List ℕ) (o : Option (List ℕ)) → end_of p.state.ends e.0 ≡ now → end_of es e.0 ≡ record now { key = l }
            → (now.is_open ≡ true → Linked now.field now.key l) → SameInvoked (event_opened s c e packet o p) (event_opened other c e packet o q)
        opened_same e packet now l None a b f = (refl, plain)
        opened_same e packet now l (Some body) a b f =
            let mk : Mark = mark.Unwrapped (header_in packet) (take value_size body) false in
            let ev = event.Input e.1.port (word body 0) in
            let one = number_taken e.0 packet (take value_size body) (end_of p.state.ends e.0) p in
            finished_same (handled s c ev one) (handled other c ev (number_taken e.0 packet (take value_size body) (end_of es e.0) q))
            (handled_same ev one (with_end es e.0 (record (end_of es e.0) { number = second_in packet + 1 })) n (ms ++ mk ∷ [])
            (with_end_same Linked p.state.ends es e.0 (record (end_of p.state.ends e.0) { number = second_in packet + 1 }) (record (end_of es e.0) { number = second_in packet + 1 }) ends
            (let h = end_same Linked p.state.ends es e.0 ends in (ap (λ (x : EndState). record x { number = second_in packet + 1 }) h.0, h.1)))
            agree (marks_more p.marks ms mk mk marks (inl (refl, λ z. z))))

        input_same : (packet : List ℕ) → SameInvoked (input s c packet p) (input other c packet q)
        input_same packet = by_end (end_found (link_of (field_in packet)) To 0 s.ends)
          where
            tagged : (e : ℕ × End) (now : EndState) (l : List ℕ) → end_of p.state.ends e.0 ≡ now → end_of es e.0 ≡ record now { key = l } → (now.is_open ≡ true → Linked now.field now.key l)
                → now.is_open ≡ true → SameInvoked (event_numbered s c e packet now p) (event_numbered other c e packet (record now { key = l }) q)
            tagged e now l a b f o =
                let ad = header_in packet in
                let cipher = take value_size (drop header_size packet) in
                let tag = drop value_tag_at packet in
                let past = nat_lt (second_in packet) now.number || (second_in packet == last_number) in
                let x = event_opened s c e packet (unwrapped s.mac now.key ad cipher tag) p in
                subst (λ (u : Option (List ℕ)). SameInvoked (cond past (Returns past_number p) x) (cond past (Returns past_number q) (event_opened other c e packet u q)))
                (unwrapped_same s.mac nac now.key l ad cipher tag (linked now.field now.key l (f o)))
                (way past (Returns past_number p) x (Returns past_number q) (event_opened other c e packet (unwrapped s.mac now.key ad cipher tag) q) (refl, plain)
                (opened_same e packet now l (unwrapped s.mac now.key ad cipher tag) a b f))

            by_open : (e : ℕ × End) (now : EndState) (l : List ℕ) → end_of p.state.ends e.0 ≡ now → end_of es e.0 ≡ record now { key = l } → (now.is_open ≡ true → Linked now.field now.key l)
                → SameInvoked (cond (not now.is_open || not (epoch_of now.field == epoch_of (field_in packet))) (Returns no_end p) (event_numbered s c e packet now p))
                (cond (not now.is_open || not (epoch_of now.field == epoch_of (field_in packet))) (Returns no_end q) (event_numbered other c e packet (record now { key = l }) q))
            by_open e now l a b f =
                ways (not now.is_open || not (epoch_of now.field == epoch_of (field_in packet))) (Returns no_end p) (event_numbered s c e packet now p) (Returns no_end q)
                (event_numbered other c e packet (record now { key = l }) q) (λ t. (refl, plain)) (λ t. tagged e now l a b f (not-false now.is_open (or_parts (not now.is_open) _ t).0))

            by_end : (e : Option (ℕ × End)) → SameInvoked (input_at s c packet e p) (input_at other c packet e q)
            by_end None = (refl, plain)
            by_end (Some e) =
                let now = end_of p.state.ends e.0 in
                let h = end_same Linked p.state.ends es e.0 ends in
                subst (λ (f : EndState). SameInvoked (input_at s c packet (Some e) p)
                (cond (not f.is_open || not (epoch_of f.field == epoch_of (field_in packet))) (Returns no_end q) (event_numbered other c e packet f q))) (sym h.0)
                (by_open e now (end_of es e.0).key refl h.0 h.1)

        sample_same : SameInvoked (sample s c p) (sample other c q)
        sample_same = by (own_window s p.devices)
          where
            by : (d : Option (ℕ × Window)) → SameInvoked (sample_of s c d p) (sample_of other c d q)
            by None = (refl, plain)
            by (Some d) =
                let mk : Mark = mark.Sampled d.0 d.1.value in
                let x = finished (handled s c (event.Sample d.1.value) (sample_read d p)) in
                let y = finished (handled other c (event.Sample d.1.value) (sample_read d q)) in
                way d.1.fresh x (Returns no_sample p) y (Returns no_sample q)
                (finished_same (handled s c (event.Sample d.1.value) (sample_read d p)) (handled other c (event.Sample d.1.value) (sample_read d q))
                (handled_same (event.Sample d.1.value) (sample_read d p) es n (ms ++ mk ∷ []) ends agree (marks_more p.marks ms mk mk marks (inl (refl, λ z. z))))) (refl, plain)

        entered_same : is_bad_window s c.input in_window_size ≡ false → SameInvoked (entered s c p) (entered other c q)
        unfolding entered
        entered_same good =
            way (c.entry == set_key_entry) _ _ _ _ (received_same set_key_size set_key_kind (λ packet. set_key s packet p) (λ packet. set_key other packet q) (omega arith) good set_key_same)
            (way (c.entry == attest_entry) _ _ _ _
            (received_same ask_size ask_kind (λ packet. attest s c packet p) (λ packet. attest other c packet q) (omega arith) good (λ packet e. attest_same packet))
            (way (c.entry == input_entry) _ _ _ _
            (received_same event_size event_kind (λ packet. input s c packet p) (λ packet. input other c packet q) (omega arith) good (λ packet e. input_same packet))
            sample_same))

        invoke_mate : SameInvoked (invoke s c p) (invoke other c q)
        unfolding invoke
        invoke_mate =
            way (returns_inside s c) (Violates bad.Illegal p) _ (Violates bad.Illegal q) _ (refl, plain)
            (way (is_no_entry s c) (Returns no_entry p) _ (Returns no_entry q) _ (refl, plain)
            (ways (has_bad_windows s c) (Returns bad_window p) (entered s c p) (Returns bad_window q) (entered other c q) (λ e. (refl, plain))
            (λ e. entered_same (or_parts (is_bad_window s c.input in_window_size) (is_bad_window s c.output out_window_size) e).0)))

      -- the invocation ends the same
      pub invoke_same : (p q : Progress) → SameProgress p q → SameInvoked (invoke s c p) (invoke other c q)
      invoke_same p q h = subst (λ (z : Progress). SameInvoked (invoke s c p) (invoke other c z)) (sym h.rest) (invoke_mate p q.state.ends q.mem q.marks h.ends h.mem h.marks)
