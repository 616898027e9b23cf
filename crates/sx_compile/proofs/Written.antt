-- What an invocation that returns has written outside.
use Rattle.std.proofs.Common.{◌≡◌, ℕ, zero, suc, ◌+◌, ◌*◌, ◌<◌, ◌≤◌, ⊎_elim, Bool, true, false, ◌&&◌, not, List, [], ◌∷◌, ◌++◌, length, get_or, set}
use Rattle.std.proofs.Common.{take, Option, Some, None, Result, Ok, Err, refl, sym, ap, ◌∙◌, subst, arith}
use Rattle.std.specs.Prelude.{slice_index, if◌then◌else◌, nat_le, nat_lt}
use Rattle.std.proofs.lemmas.List.{get_or-set_other, get_or-set_same, length-set, length-append, ext_get_or}
use Rattle.std.proofs.lemmas.Bool.{true≢false, lt-ltb, le-leb, le-ltb, cases_lt, or_parts, and_right}
use Rattle.sx_mean.specs.declared.events.End.{End}
use Rattle.sx_mean.specs.declared.events.Act.{Act}
use Rattle.sx_mean.specs.declared.events.Act.TheVariants.{Send, Emit}
use Rattle.sx_mean.specs.declared.events.SourceEvent.{SourceEvent}
use Rattle.sx_mean.specs.declared.events.SourceEvent.TheVariants as event
use Rattle.sx_mean.specs.React.{react}
use Rattle.sx_rules.specs.declared.access.Access.TheVariants.{Write}
use Rattle.sx_rules.specs.declared.access.Violation.{Violation}
use Rattle.sx_rules.specs.declared.access.Violation.TheVariants as bad
use Rattle.sx_rules.specs.Access.{may}
use Rattle.sx_bus.specs.declared.devices.Window.{Window}
use Rattle.sx_bus.specs.Devices.{device_at}
use Rattle.sx_tag.specs.Wrap.{wrapped, crypt}
use Rattle.spec_machine.specs.Memory.{word}
use Rattle.spec_machine.specs.Memory.{bytes_from}
use Rattle.spec_invocation.specs.Setup.{Setup, Call}
use Rattle.sx_tag.specs.Mac.{IsTag}
use Rattle.spec_invocation.specs.Marks as mark
use Rattle.spec_invocation.specs.ModuleState.{end_of}
use Rattle.spec_invocation.specs.Windows.{write_byte, write_bytes, then_, unless_device, is_bad_window, in_window_size, out_window_size}
use Rattle.spec_invocation.specs.Progress.{Progress, Invoked, Returns, Course, Going, Broken, and_on, finished}
use Rattle.spec_invocation.specs.Acts.{with_piece, copied_to, with_packet, event_packet, wrap_counted, with_packets, with_act, with_acts, actuated, own_window, handled}
use Rattle.sx_mean.specs.Ends.{is_sending}
use Rattle.spec_invocation.specs.Invocation.{invoke, has_bad_windows}
use Rattle.spec_invocation.specs.Entries.{attest, sample_read, number_taken, end_keyed}
use Rattle.spec_invocation.specs.Protocol.{all_done, event_size, key_size, value_size, last_number}
use Rattle.spec_invocation.proofs.ByEntry.{by_entry}
use Rattle.sx_image.specs.Realizes.{KeepsOutside, Stand, is_piece_address}
use Rattle.spec_invocation.specs.Progress.{bytes_in}
use Rattle.sx_stub.proofs.Mem.{bytes_from_same}
use Rattle.sx_stub.proofs.Packets.{bytes_from_get}
use Rattle.spec_invocation.proofs.PiecesMarked.{bytes_more, packet_length, tag_length}
use Rattle.spec_machine.proofs.Lengths.{length-bytes_from}
use Rattle.sx_tmpl.proofs.Running.Outcomes.{ok_same}
use Rattle.sx_tmpl.proofs.Texts.Entering.{window_short}
use Rattle.sx_compile.proofs.Returning.{returns_same, violates_returns}

-- only places where pieces go changed, there the pieces are, and the out-window holds them
pub record Written (s : Setup) (call : Call) (before : List ℕ) (p : Progress) : Type 0 where
  pub outside : KeepsOutside s call.output p.pieces before p.mem
  pub pieces : Stand p.mem call.output p.pieces
  pub fits : bytes_in p.pieces ≤ 384

-- bytes that are written lie in their range, and may be written
outside_byte : (s : Setup) (devices : List Window) (mem new : List ℕ) (a b at : ℕ) → write_byte s devices mem a b ≡ Ok new → (at ≡ a → may s.live s.section.id Write at ≡ false)
    → slice_index new at ≡ slice_index mem at
unfolding write_byte
outside_byte s devices mem new a b at e out = go (may s.live s.section.id Write a) refl (device_at devices a) e
  where
    err_ok : (v : Violation) → ◌≡◌ {A = Result (List ℕ) Violation} (Err v) (Ok new) → ⊥
    err_ok v e = cc

    ok_same : (x : List ℕ) → ◌≡◌ {A = Result (List ℕ) Violation} (Ok x) (Ok new) → x ≡ new
    ok_same x e = cc

    go : (w : Bool) → may s.live s.section.id Write a ≡ w → (d : Option ℕ) → (if w then unless_device d (set mem a b) else Err bad.Write) ≡ Ok new → slice_index new at ≡ slice_index mem at
    go false f d e = absurd (err_ok bad.Write e)
    go true f (Some d) e = absurd (err_ok bad.Device e)
    go true f None e =
        sym (ap (λ (x : List ℕ). get_or x at 0) (ok_same (set mem a b) e))
        ∙ get_or-set_other mem a at b 0 (λ same. true≢false (sym f ∙ ap (λ (x : ℕ). may s.live s.section.id Write x) (sym same) ∙ out same))

pub outside_bytes : (s : Setup) (devices : List Window) (mem new : List ℕ) (a : ℕ) (bs : List ℕ) (at : ℕ) → write_bytes s devices mem a bs ≡ Ok new
    → (a ≤ at → at < a + length bs → may s.live s.section.id Write at ≡ false) → slice_index new at ≡ slice_index mem at
unfolding write_bytes
outside_bytes s devices mem new a [] at e out = sym (ap (λ (x : List ℕ). get_or x at 0) (ok_same e))
  where
    ok_same : ◌≡◌ {A = Result (List ℕ) Violation} (Ok mem) (Ok new) → mem ≡ new
    ok_same e = cc
outside_bytes s devices mem new a (b ∷ bs) at e out = go (write_byte s devices mem a b) refl e
    (λ x f. outside_bytes s devices x new (a + 1) bs at f (λ lo hi. out (omega (arith, lo)) (omega (arith, hi))))
  where
    err_ok : (v : Violation) → ◌≡◌ {A = Result (List ℕ) Violation} (Err v) (Ok new) → ⊥
    err_ok v e = cc

    go : (r : Result (List ℕ) Violation) → write_byte s devices mem a b ≡ r → then_ r (λ x. write_bytes s devices x (a + 1) bs) ≡ Ok new
        → ((x : List ℕ) → write_bytes s devices x (a + 1) bs ≡ Ok new → slice_index new at ≡ slice_index x at) → slice_index new at ≡ slice_index mem at
    go (Err v) f e rest = absurd (err_ok v e)
    go (Ok x) f e rest = rest x e ∙ outside_byte s devices mem x a b at f (λ same. out (omega (arith, same)) (omega (arith, same)))

-- bytes that were written are there

err_ok : (v : Violation) (y : List ℕ) → ◌≡◌ {A = Result (List ℕ) Violation} (Err v) (Ok y) → ⊥
err_ok v y e = cc

byte_written : (s : Setup) (devices : List Window) (mem new : List ℕ) (a b : ℕ) → write_byte s devices mem a b ≡ Ok new → new ≡ set mem a b
unfolding write_byte
byte_written s devices mem new a b e = go (may s.live s.section.id Write a) (device_at devices a) e
  where
    go : (w : Bool) (d : Option ℕ) → (if w then unless_device d (set mem a b) else Err bad.Write) ≡ Ok new → new ≡ set mem a b
    go false d e = absurd (err_ok bad.Write new e)
    go true (Some d) e = absurd (err_ok bad.Device new e)
    go true None e = sym (ok_same (set mem a b) new e)

pub length-write_bytes : (s : Setup) (devices : List Window) (mem new : List ℕ) (a : ℕ) (bs : List ℕ) → write_bytes s devices mem a bs ≡ Ok new → length new ≡ length mem
unfolding write_bytes
length-write_bytes s devices mem new a [] e = ap length (sym (ok_same mem new e))
length-write_bytes s devices mem new a (b ∷ bs) e = go (write_byte s devices mem a b) refl e (λ x f. length-write_bytes s devices x new (a + 1) bs f)
  where
    go : (r : Result (List ℕ) Violation) → write_byte s devices mem a b ≡ r → then_ r (λ x. write_bytes s devices x (a + 1) bs) ≡ Ok new
        → ((x : List ℕ) → write_bytes s devices x (a + 1) bs ≡ Ok new → length new ≡ length x) → length new ≡ length mem
    go (Err v) f e rest = absurd (err_ok v new e)
    go (Ok x) f e rest = rest x e ∙ ap length (byte_written s devices mem x a b f) ∙ length-set mem a b

get-write_bytes : (s : Setup) (devices : List Window) (mem new : List ℕ) (a : ℕ) (bs : List ℕ) (i : ℕ) → write_bytes s devices mem a bs ≡ Ok new → a + length bs ≤ length mem → i < length bs
    → get_or new (a + i) 0 ≡ get_or bs i 0
unfolding write_bytes
get-write_bytes s devices mem new a [] i e le lt = absurd (omega (arith, lt))
get-write_bytes s devices mem new a (b ∷ bs) i e le lt = go (write_byte s devices mem a b) refl e (λ x j f l k. get-write_bytes s devices x new (a + 1) bs j f l k) i lt
  where
    go : (r : Result (List ℕ) Violation) → write_byte s devices mem a b ≡ r → then_ r (λ x. write_bytes s devices x (a + 1) bs) ≡ Ok new
        → ((x : List ℕ) (j : ℕ) → write_bytes s devices x (a + 1) bs ≡ Ok new → a + 1 + length bs ≤ length x → j < length bs → get_or new (a + 1 + j) 0 ≡ get_or bs j 0) → (i : ℕ)
        → i < length (b ∷ bs) → get_or new (a + i) 0 ≡ get_or (b ∷ bs) i 0
    go (Err v) f e rest i lt = absurd (err_ok v new e)
    go (Ok x) f e rest zero lt =
        let same = byte_written s devices mem x a b f in
        ap (λ (k : ℕ). get_or new k 0) (omega arith)
        ∙ outside_bytes s devices x new (a + 1) bs a e (λ lo hi. absurd (omega (arith, lo)))
        ∙ ap (λ (l : List ℕ). get_or l a 0) same ∙ get_or-set_same mem a b 0 (omega (arith, le))
    go (Ok x) f e rest (suc j) lt =
        let same = byte_written s devices mem x a b f in
        let len = ap length same ∙ length-set mem a b in
        ap (λ (k : ℕ). get_or new k 0) (omega arith) ∙ rest x j e (omega (arith, le, len)) (omega (arith, lt))

pub bytes_written : (s : Setup) (devices : List Window) (mem new : List ℕ) (a : ℕ) (bs : List ℕ) → write_bytes s devices mem a bs ≡ Ok new → a + length bs ≤ length mem
    → bytes_from new a (length bs) ≡ bs
bytes_written s devices mem new a bs e le =
    let len = length-bytes_from new a (length bs) in
    ext_get_or 0 (bytes_from new a (length bs)) bs len (λ i lt. bytes_from_get new a (length bs) i (omega (arith, lt, len)) ∙ get-write_bytes s devices mem new a bs i e le (omega (arith, lt, len)))

-- Pieces.

pub stand_same : (m n : List ℕ) (a : ℕ) (ps : List (List ℕ)) → ((k : ℕ) → a ≤ k → k < a + bytes_in ps → get_or n k 0 ≡ get_or m k 0) → Stand m a ps → Stand n a ps
stand_same m n a [] f h = tt
stand_same m n a (p ∷ ps) f h = (
  bytes_from_same m n a a (length p) (λ i lt. f (a + i) (omega arith) (omega (arith, lt))) ∙ h.0,
  stand_same m n (a + length p) ps (λ k lo hi. f k (omega (arith, lo)) (omega (arith, hi))) h.1,
)

stand_more : (m : List ℕ) (a : ℕ) (ps : List (List ℕ)) (p : List ℕ) → Stand m a ps → bytes_from m (a + bytes_in ps) (length p) ≡ p → Stand m a (ps ++ p ∷ [])
stand_more m a [] p h e = (ap (λ (k : ℕ). bytes_from m k (length p)) (omega arith) ∙ e, tt)
stand_more m a (x ∷ ps) p h e = (h.0, stand_more m (a + length x) ps p h.1 (ap (λ (k : ℕ). bytes_from m k (length p)) (omega arith) ∙ e))

module _ (s : Setup) (call : Call) (tag : IsTag s.mac) (before : List ℕ) (room : call.output + 384 ≤ length before) where
  -- only places of pieces changed, the pieces are there, and each has 24 bytes
  record Whole (p : Progress) : Type 0 where
    full : bytes_in p.pieces ≡ 24 * length p.pieces
    size : length p.mem ≡ length before
    outside : (at : ℕ) → is_piece_address s call.output p.pieces at ≡ false → slice_index p.mem at ≡ slice_index before at
    pieces : Stand p.mem call.output p.pieces

  address_false : (ps : List (List ℕ)) (at : ℕ) → is_piece_address s call.output ps at ≡ false → call.output ≤ at → at < call.output + bytes_in ps → may s.live s.section.id Write at ≡ false
  address_false ps at e lo hi =
      sym (ap (λ (b : Bool). b && (nat_lt at (call.output + bytes_in ps) && may s.live s.section.id Write at)) (le-leb call.output at lo)
      ∙ ap (λ (b : Bool). b && may s.live s.section.id Write at) (lt-ltb at (call.output + bytes_in ps) hi)) ∙ e

  fewer_false : (ps : List (List ℕ)) (piece : List ℕ) (at : ℕ) → is_piece_address s call.output (ps ++ piece ∷ []) at ≡ false → is_piece_address s call.output ps at ≡ false
  fewer_false ps piece at e =
      ⊎_elim (λ (lo : at < call.output). ap (λ (b : Bool). b && (nat_lt at (call.output + bytes_in ps) && may s.live s.section.id Write at)) (Rattle.std.proofs.lemmas.Bool.lt-leb call.output at lo))
      (λ (lo : call.output ≤ at). ⊎_elim
      (λ (hi : at < call.output + bytes_in ps). let more = bytes_more ps piece in
      ap (λ (b : Bool). nat_le call.output at && (nat_lt at (call.output + bytes_in ps) && b)) (address_false (ps ++ piece ∷ []) at e lo (omega (arith, hi, more)))
      ∙ and_right (nat_le call.output at) (nat_lt at (call.output + bytes_in ps) && false) (and_right (nat_lt at (call.output + bytes_in ps)) false refl))
      (λ (hi : call.output + bytes_in ps ≤ at). ap (λ (b : Bool). nat_le call.output at && (b && may s.live s.section.id Write at)) (le-ltb at (call.output + bytes_in ps) hi)
      ∙ and_right (nat_le call.output at) false refl)
      (cases_lt at (call.output + bytes_in ps)))
      (cases_lt at call.output)

  -- a piece more
  piece_more : (piece : List ℕ) (p q : Progress) → with_piece s call piece p ≡ Going q → Whole p → length piece ≡ 24 → length q.pieces ≤ 16 → Whole q
  piece_more piece p q e w len few = go (write_bytes s p.devices p.mem (call.output + event_size * length p.pieces) piece) refl e
    where
      course_same : (x y : Progress) → Going x ≡ Going y → x ≡ y
      course_same x y h = cc

      broken_going : (v : Violation) (x y : Progress) → Broken v x ≡ Going y → ⊥
      broken_going v x y h = cc

      go : (r : Result (List ℕ) Violation) → write_bytes s p.devices p.mem (call.output + event_size * length p.pieces) piece ≡ r
          → copied_to r (record p { pieces = p.pieces ++ piece ∷ [] }) ≡ Going q → Whole q
      go (Err v) f h = absurd (broken_going v (record p { pieces = p.pieces ++ piece ∷ [] }) q h)
      go (Ok mem) f h =
          let new = record p { pieces = p.pieces ++ piece ∷ []; mem = mem } in
          let same = course_same new q h in
          let count = ap (λ (x : Progress). length x.pieces) same in
          let more = length-append p.pieces (piece ∷ []) in
          let bytes = bytes_more p.pieces piece in
          let size = length-write_bytes s p.devices p.mem mem (call.output + event_size * length p.pieces) piece f in
          let full = w.full in
          let old = w.size in
          let at_end : call.output + bytes_in p.pieces ≡ call.output + event_size * length p.pieces = omega (arith, full) in
          subst Whole same (record {
            full = omega (arith, bytes, full, more, len);
            size = size ∙ old;
            outside = λ at out. outside_bytes s p.devices p.mem mem (call.output + event_size * length p.pieces) piece at f
                (λ lo hi. address_false (p.pieces ++ piece ∷ []) at out (omega (arith, lo)) (omega (arith, hi, bytes, full))) ∙ w.outside at (fewer_false p.pieces piece at out);
            pieces = stand_more mem call.output p.pieces piece
                (stand_same p.mem mem call.output p.pieces (λ k lo hi. outside_bytes s p.devices p.mem mem (call.output + event_size * length p.pieces) piece k f
                (λ lo2 hi2. absurd (omega (arith, hi, lo2, full)))) w.pieces)
                (ap (λ (k : ℕ). bytes_from mem k (length piece)) at_end
                ∙ bytes_written s p.devices p.mem mem (call.output + event_size * length p.pieces) piece f (omega (arith, old, room, count, more, few, len)));
          })

  -- a part of the course adds pieces, and keeps what is said of them
  Adds : (Progress → Course) → Progress → Type 0
  Adds f p = (q : Progress) → f p ≡ Going q → (length p.pieces ≤ length q.pieces) × (Whole p → length q.pieces ≤ 16 → Whole q)

  course_same : (x y : Progress) → Going x ≡ Going y → x ≡ y
  course_same x y h = cc

  broken_going : (v : Violation) (x y : Progress) → Broken v x ≡ Going y → ⊥
  broken_going v x y h = cc

  -- where nothing is written
  adds_none : (p r : Progress) → r.pieces ≡ p.pieces → r.mem ≡ p.mem → Adds (λ x. Going r) p
  unfolding Adds
  adds_none p r e f q h =
      let same = course_same r q h in (
        subst (λ (x : Progress). length p.pieces ≤ length x.pieces) same (subst (λ (l : List (List ℕ)). length p.pieces ≤ length l) (sym e) (omega arith)),
        λ w few. subst Whole same (record {
          full = ap (λ (l : List (List ℕ)). bytes_in l) e ∙ w.full ∙ ap (λ (l : List (List ℕ)). 24 * length l) (sym e);
          size = ap length f ∙ w.size;
          outside = λ at out. ap (λ (l : List ℕ). slice_index l at) f ∙ w.outside at (ap (λ (l : List (List ℕ)). is_piece_address s call.output l at) (sym e) ∙ out);
          pieces = subst (λ (l : List (List ℕ)). Stand r.mem call.output l) (sym e) (subst (λ (m : List ℕ). Stand m call.output p.pieces) (sym f) w.pieces);
        }),
      )

  adds_then : (f g : Progress → Course) (p : Progress) → Adds f p → ((r : Progress) → Adds g r) → Adds (λ x. and_on (f x) g) p
  unfolding Adds
  adds_then f g p a b q h = go (f p) refl h
    where
      go : (x : Course) → f p ≡ x → and_on x g ≡ Going q → (length p.pieces ≤ length q.pieces) × (Whole p → length q.pieces ≤ 16 → Whole q)
      go (Broken v r) e h = absurd (broken_going v r q h)
      go (Going r) e h =
          let x = a r e in
          let y = b r q h in
          let l1 = x.0 in
          let l2 = y.0 in
          (omega (arith, l1, l2), λ w few. y.1 (x.1 w (omega (arith, l2, few))) few)

  piece_adds : (piece : List ℕ) (p : Progress) → length piece ≡ 24 → Adds (with_piece s call piece) p
  unfolding Adds
  piece_adds piece p len q h = (more (write_bytes s p.devices p.mem (call.output + event_size * length p.pieces) piece) h, λ w few. piece_more piece p q h w len few)
    where
      more : (r : Result (List ℕ) Violation) → copied_to r (record p { pieces = p.pieces ++ piece ∷ [] }) ≡ Going q → length p.pieces ≤ length q.pieces
      more (Err v) h = absurd (broken_going v (record p { pieces = p.pieces ++ piece ∷ [] }) q h)
      more (Ok mem) h =
          let count = ap (λ (x : Progress). length x.pieces) (course_same (record p { pieces = p.pieces ++ piece ∷ []; mem = mem }) q h) in
          let l = length-append p.pieces (piece ∷ []) in
          omega (arith, count, l)

  -- a change of neither memory nor pieces before
  adds_from : (f : Progress → Course) (p r : Progress) → r.pieces ≡ p.pieces → r.mem ≡ p.mem → Adds f r → Adds (λ x. f r) p
  unfolding Adds
  adds_from f p r e m a q h =
      let x = a q h in
      let none = adds_none p r e m r refl in
      let l0 = none.0 in
      let l1 = x.0 in
      (omega (arith, l0, l1), λ w few. x.1 (none.1 w (omega (arith, l1, few))) few)

  packet_adds : (v k : ℕ) (p : Progress) → Adds (with_packet s call v k) p
  unfolding Adds with_packet
  packet_adds v k p q h = go (end_of p.state.ends k).is_open (nat_lt (end_of p.state.ends k).number last_number) q h
    where
      go : (a b : Bool) (q : Progress) → (if a && b then with_piece s call (event_packet s (end_of p.state.ends k) v) (wrap_counted k (end_of p.state.ends k) v p) else Going p) ≡ Going q
          → (length p.pieces ≤ length q.pieces) × (Whole p → length q.pieces ≤ 16 → Whole q)
      go true true q h =
          let x = piece_adds (event_packet s (end_of p.state.ends k) v) (wrap_counted k (end_of p.state.ends k) v p) (packet_length s (end_of p.state.ends k) v tag) q h in
          (x.0, λ w few. x.1 (record { full = w.full; size = w.size; outside = w.outside; pieces = w.pieces }) few)
      go true false q h = adds_none p p refl refl q h
      go false b q h = adds_none p p refl refl q h

  packets_add : (output v k : ℕ) (es : List End) (p : Progress) → Adds (with_packets s call output v k es) p
  unfolding Adds
  packets_add output v k [] p q h = adds_none p p refl refl q h
  packets_add output v k (e ∷ es) p q h = go (is_sending output e.side e.port) h (packets_add output v (k + 1) es)
    where
      go : (b : Bool) → (if b then and_on (with_packet s call v k p) (with_packets s call output v (k + 1) es) else with_packets s call output v (k + 1) es p) ≡ Going q
          → ((r : Progress) → Adds (with_packets s call output v (k + 1) es) r) → (length p.pieces ≤ length q.pieces) × (Whole p → length q.pieces ≤ 16 → Whole q)
      go true h rest = adds_then (with_packet s call v k) (with_packets s call output v (k + 1) es) p (packet_adds v k p) rest q h
      go false h rest = rest p q h

  act_adds : (a : Act) (p : Progress) → Adds (with_act s call a) p
  unfolding Adds
  act_adds (Send output v) p q h = packets_add output v 0 s.ends p q h
  act_adds (Emit v) p q h = go (own_window s p.devices) q h
    where
      go : (o : Option (ℕ × Window)) (q : Progress) → Going (actuated v o p) ≡ Going q → (length p.pieces ≤ length q.pieces) × (Whole p → length q.pieces ≤ 16 → Whole q)
      go None q h = adds_none p p refl refl q h
      go (Some d) q h = adds_none p (record p { marks = p.marks ++ mark.Actuated d.0 v ∷ [] }) refl refl q h

  acts_add : (acts : List Act) (p : Progress) → Adds (with_acts s call acts) p
  unfolding Adds
  acts_add [] p q h = adds_none p p refl refl q h
  acts_add (a ∷ acts) p q h = adds_then (with_act s call a) (with_acts s call acts) p (act_adds a p) (acts_add acts) q h

  handler_adds : (e : SourceEvent) (p : Progress) → Adds (handled s call e) p
  unfolding Adds handled
  handler_adds e p q h =
      let done = react s.tree e p.state.cells in
      let r = record p { state = record p.state { cells = done.cells } } in
      adds_from (with_acts s call done.acts) p r refl refl (acts_add done.acts r) q h

  -- Ends of an invocation.

  Ended : Progress → Invoked → Type 0
  Ended p r = (status : ℕ) (q : Progress) → r ≡ Returns status q → length q.pieces ≤ 16 → Written s call before q

  first_whole : (p : Progress) → p.pieces ≡ [] → p.mem ≡ before → Whole p
  first_whole p none same = record {
    full = ap (λ (l : List (List ℕ)). bytes_in l) none ∙ sym (ap (λ (l : List (List ℕ)). 24 * length l) none);
    size = ap length same;
    outside = λ at out. ap (λ (l : List ℕ). slice_index l at) same;
    pieces = subst (λ (l : List (List ℕ)). Stand p.mem call.output l) (sym none) tt;
  }

  finishes : (f : Progress → Course) (p : Progress) → p.pieces ≡ [] → p.mem ≡ before → Adds f p → Ended p (finished (f p))
  unfolding Ended Adds
  finishes f p none same a status q h few = go (f p) refl h
    where
      go : (x : Course) → f p ≡ x → finished x ≡ Returns status q → Written s call before q
      go (Broken v r) e h = absurd (violates_returns v r status q h)
      go (Going r) e h =
          let eq = returns_same 1 status r q h in
          let short = subst (λ (x : Progress). length x.pieces ≤ 16) (sym eq) few in
          let w = (a r e).1 (first_whole p none same) short in
          let full = w.full in
          subst (Written s call before) eq (record { outside = λ at out not. w.outside at not; pieces = w.pieces; fits = omega (arith, full, short) })

  handles_ended : (e : SourceEvent) (p r : Progress) → p.pieces ≡ [] → p.mem ≡ before → r.pieces ≡ p.pieces → r.mem ≡ p.mem → Ended p (finished (handled s call e r))
  handles_ended e p r none same ep em = finishes (λ x. handled s call e r) p none same (adds_from (handled s call e) p r ep em (handler_adds e r))

  attest_ended : (p : Progress) (ask : List ℕ) → p.pieces ≡ [] → p.mem ≡ before → Ended p (attest s call ask p)
  unfolding Ended
  attest_ended p ask none same status q h few = go (write_bytes s p.devices p.mem (call.output + event_size * length p.pieces) piece) refl h
    where
      piece : List ℕ
      piece = (wrapped s.mac s.section.key ask []).tag

      go : (r : Result (List ℕ) Violation) → write_bytes s p.devices p.mem (call.output + event_size * length p.pieces) (wrapped s.mac s.section.key ask []).tag ≡ r
          → finished (copied_to r (record p { marks = p.marks ++ mark.Wrapped ask [] true ∷ []; pieces = p.pieces ++ (wrapped s.mac s.section.key ask []).tag ∷ [] })) ≡ Returns status q
          → Written s call before q
      go (Err v) f h = absurd (violates_returns v (record p { marks = p.marks ++ mark.Wrapped ask [] true ∷ []; pieces = p.pieces ++ (wrapped s.mac s.section.key ask []).tag ∷ [] }) status q h)
      go (Ok mem) f h =
          let tg = (wrapped s.mac s.section.key ask []).tag in
          let new = record p { marks = p.marks ++ mark.Wrapped ask [] true ∷ []; pieces = p.pieces ++ tg ∷ []; mem = mem } in
          let len = tag_length s.mac s.section.key ask (crypt s.mac s.section.key ask []) tag in
          let pieces : p.pieces ++ tg ∷ [] ≡ tg ∷ [] = ap (λ (l : List (List ℕ)). l ++ tg ∷ []) none in
          let place : call.output + event_size * length p.pieces ≡ call.output = ap (λ (l : List (List ℕ)). call.output + event_size * length l) none ∙ omega arith in
          let f2 : write_bytes s p.devices p.mem call.output tg ≡ Ok mem = ap (λ (k : ℕ). write_bytes s p.devices p.mem k tg) (sym place) ∙ f in
          let size = ap length same in
          subst (Written s call before) (returns_same 1 status new q h)
          (record {
            outside = λ at out not. outside_bytes s p.devices p.mem mem call.output tg at f2
                (λ lo hi. address_false (tg ∷ []) at (ap (λ (l : List (List ℕ)). is_piece_address s call.output l at) (sym pieces) ∙ not) lo (omega (arith, hi, len)))
                ∙ ap (λ (l : List ℕ). slice_index l at) same;
            pieces = subst (λ (l : List (List ℕ)). Stand mem call.output l) (sym pieces) (bytes_written s p.devices p.mem mem call.output tg f2 (omega (arith, len, size, room)), tt);
            fits = subst (λ (l : List (List ℕ)). bytes_in l ≤ 384) (sym pieces) (omega (arith, len));
          })

-- where neither memory nor pieces changed, nothing is written
nothing_written : (s : Setup) (call : Call) (p r : Progress) → p.pieces ≡ [] → r.pieces ≡ p.pieces → r.mem ≡ p.mem → Written s call p.mem r
nothing_written s call p r none e f = record {
  outside = λ at out not. ap (λ (l : List ℕ). slice_index l at) f;
  pieces = subst (λ (l : List (List ℕ)). Stand r.mem call.output l) (sym (e ∙ none)) tt;
  fits = subst (λ (l : List (List ℕ)). bytes_in l ≤ 384) (sym (e ∙ none)) (omega arith);
}

pub returns_written : (s : Setup) (call : Call) (p q : Progress) (status : ℕ) → IsTag s.mac → p.pieces ≡ [] → length p.mem ≡ 65536
    → invoke s call p ≡ Returns status q → length q.pieces ≤ 16 → Written s call p.mem q
unfolding Ended
returns_written s call p q status tag none size h few =
    by_entry s call p (λ r. r ≡ Returns status q → Written s call p.mem q)
    (record {
      refused = λ a. nothing a p refl refl;
      violated = λ v e. absurd (violates_returns v p status q e);
      keyed = λ good k packet body. nothing all_done (end_keyed k packet (take key_size body) p) refl refl;
      attested = λ good ask e. attest_ended s call tag p.mem (room good) p ask none refl status q e few;
      taken = λ good o packet body. handles good (event.Input o.1.port (word body 0)) (number_taken o.0 packet (take value_size body) (end_of p.state.ends o.0) p) refl refl;
      sampled = λ good d. handles good (event.Sample d.1.value) (sample_read d p) refl refl;
    })
    h
  where
    nothing : (a : ℕ) (r : Progress) → r.pieces ≡ p.pieces → r.mem ≡ p.mem → Returns a r ≡ Returns status q → Written s call p.mem q
    nothing a r e f g = subst (Written s call p.mem) (returns_same a status r q g) (nothing_written s call p r none e f)

    room : has_bad_windows s call ≡ false → call.output + 384 ≤ length p.mem
    room good = let r = window_short s call.output (or_parts (is_bad_window s call.input in_window_size) (is_bad_window s call.output out_window_size) good).1 in omega (arith, r, size)

    handles : has_bad_windows s call ≡ false → (e : SourceEvent) (r : Progress) → r.pieces ≡ p.pieces → r.mem ≡ p.mem → finished (handled s call e r) ≡ Returns status q → Written s call p.mem q
    handles good e r ep em g = handles_ended s call tag p.mem (room good) e p r none refl ep em status q g few

-- a handler's course that goes on has written its pieces
pub handled_written : (s : Setup) (call : Call) (e : SourceEvent) (p q : Progress) → IsTag s.mac → p.pieces ≡ [] → length p.mem ≡ 65536 → is_bad_window s call.output out_window_size ≡ false
    → handled s call e p ≡ Going q → length q.pieces ≤ 16 → Written s call p.mem q
unfolding Ended
handled_written s call e p q tag none size window goes few =
    let r = window_short s call.output window in
    finishes s call tag p.mem (omega (arith, r, size)) (handled s call e) p none refl (handler_adds s call tag p.mem (omega (arith, r, size)) e p) 1 q (ap finished goes) few
