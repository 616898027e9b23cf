-- The pieces of an invocation have the bytes that its marks make.
use Rattle.std.proofs.Common.{◌≡◌, ℕ, ◌+◌, ◌*◌, Bool, true, false, ◌&&◌, List, [], ◌∷◌, ◌++◌, length, take, Option, Some, None, Result, Ok, Err, refl, sym, ap, ◌∙◌, arith}
use Rattle.std.specs.Prelude.{if◌then◌else◌, nat_lt}
use Rattle.std.proofs.lemmas.List.{length-append, length-take}
use Rattle.sx_mean.specs.declared.events.End.{End}
use Rattle.sx_mean.specs.declared.events.Act.{Act}
use Rattle.sx_mean.specs.declared.events.Act.TheVariants.{Send, Emit}
use Rattle.sx_mean.specs.declared.events.SourceEvent.{SourceEvent}
use Rattle.sx_mean.specs.declared.events.SourceEvent.TheVariants as event
use Rattle.sx_mean.specs.React.{react}
use Rattle.sx_rules.specs.declared.access.Violation.{Violation}
use Rattle.sx_bus.specs.declared.devices.Window.{Window}
use Rattle.sx_tag.specs.Wrap.{wrapped, crypt, wrap_tag, stream}
use Rattle.spec_machine.specs.Memory.{word}
use Rattle.spec_invocation.specs.Setup.{Setup, Call}
use Rattle.sx_tag.specs.Mac.{Mac, IsTag}
use Rattle.sx_tag.proofs.UnwrapsWrapped.{length-xor_bytes}
use Rattle.spec_invocation.specs.Marks as mark
use Rattle.spec_invocation.specs.Marks.{Mark}
use Rattle.spec_invocation.specs.Pieces.{piece_size, made_bytes, tag_size}
use Rattle.spec_invocation.specs.Laws.{PiecesMarked}
use Rattle.spec_invocation.specs.ModuleState.{EndState, end_of}
use Rattle.spec_invocation.specs.Windows.{write_bytes, two}
use Rattle.spec_invocation.specs.Progress.{bytes_in, Progress, Invoked, Returns, Violates, Course, Going, Broken, and_on, finished, marks_in, pieces_in}
use Rattle.spec_invocation.specs.Acts.{with_piece, copied_to, with_packet, event_packet, event_header, wrap_counted, with_packets, with_act, with_acts, actuated, own_window, handled}
use Rattle.sx_mean.specs.Ends.{is_sending}
use Rattle.spec_invocation.specs.Invocation.{invoke}
use Rattle.spec_invocation.specs.Entries.{attest, sample_read, number_taken, header_in}
use Rattle.spec_invocation.specs.Protocol.{event_size, key_size, value_size, last_number}
use Rattle.spec_invocation.proofs.ByEntry.{by_entry}

-- a tag has 16 bytes
pub tag_length : (mac : Mac) (key ad cipher : List ℕ) → IsTag mac → length (wrap_tag mac key ad cipher) ≡ tag_size
unfolding wrap_tag
tag_length mac key ad cipher t = let w = t.width key (0x54 ∷ length ad ∷ (ad ++ cipher)) in length-take 16 (mac key (0x54 ∷ length ad ∷ (ad ++ cipher))) ∙ omega (arith, w)

-- an event packet has 24 bytes
pub packet_length : (s : Setup) (e : EndState) (v : ℕ) → IsTag s.mac → length (event_packet s e v) ≡ event_size
unfolding crypt
packet_length s e v t =
    let ad = event_header e in
    let cipher = crypt s.mac e.key ad (two v) in
    let w = t.width e.key (0x53 ∷ length ad ∷ (ad ++ 0 ∷ [])) in
    let x = length-xor_bytes (two v) (stream s.mac e.key ad) (omega (arith, w)) in
    let y = tag_length s.mac e.key ad cipher t in
    let z = length-append cipher (wrap_tag s.mac e.key ad cipher) in
    omega (arith, x, y, z)

pub made_more : (ms : List Mark) (m : Mark) → made_bytes (ms ++ m ∷ []) ≡ made_bytes ms + piece_size m
made_more [] m = omega arith
made_more (x ∷ ms) m = let e = made_more ms m in omega (arith, e)

pub bytes_more : (ps : List (List ℕ)) (p : List ℕ) → bytes_in (ps ++ p ∷ []) ≡ bytes_in ps + length p
bytes_more [] p = omega arith
bytes_more (x ∷ ps) p = let e = bytes_more ps p in omega (arith, e)

abbrev pub Tallied : Progress → Type 0
Tallied p = bytes_in p.pieces ≡ made_bytes p.marks

abbrev pub OnCourse : Course → Type 0
OnCourse (Going p) = Tallied p
OnCourse (Broken v p) = Tallied p

abbrev pub OnResult : Invoked → Type 0
OnResult (Returns status p) = Tallied p
OnResult (Violates v p) = Tallied p

module _ (s : Setup) (call : Call) (tag : IsTag s.mac) where
  copied : (r : Result (List ℕ) Violation) (p : Progress) → Tallied p → OnCourse (copied_to r p)
  copied (Ok mem) p h = h
  copied (Err v) p h = h

  piece_made : (piece : List ℕ) (p : Progress) (m : Mark) (before : Progress) → p.marks ≡ before.marks ++ m ∷ [] → p.pieces ≡ before.pieces → length piece ≡ piece_size m → Tallied before
      → OnCourse (with_piece s call piece p)
  piece_made piece p m before em ep size h =
      let x = bytes_more p.pieces piece in
      let y = ap made_bytes em in
      let z = made_more before.marks m in
      let w = ap bytes_in ep in
      copied (write_bytes s p.devices p.mem (call.output + event_size * length p.pieces) piece) (record p { pieces = p.pieces ++ piece ∷ [] }) (omega (arith, x, y, z, w, size, h))

  packet_made : (v k : ℕ) (p : Progress) → Tallied p → OnCourse (with_packet s call v k p)
  unfolding with_packet
  packet_made v k p h = go ((end_of p.state.ends k).is_open && nat_lt (end_of p.state.ends k).number last_number)
    where
      go : (b : Bool) → OnCourse (if b then with_piece s call (event_packet s (end_of p.state.ends k) v) (wrap_counted k (end_of p.state.ends k) v p) else Going p)
      go true = piece_made (event_packet s (end_of p.state.ends k) v) (wrap_counted k (end_of p.state.ends k) v p) (mark.Wrapped (event_header (end_of p.state.ends k)) (two v) false) p refl refl
          (packet_length s (end_of p.state.ends k) v tag) h
      go false = h

  then_on : (x : Course) (rest : Progress → Course) → OnCourse x → ((p : Progress) → Tallied p → OnCourse (rest p)) → OnCourse (and_on x rest)
  then_on (Going p) rest h f = f p h
  then_on (Broken v p) rest h f = h

  packets_made : (output v k : ℕ) (es : List End) (p : Progress) → Tallied p → OnCourse (with_packets s call output v k es p)
  packets_made output v k [] p h = h
  packets_made output v k (e ∷ es) p h = go (is_sending output e.side e.port) (λ q t. packets_made output v (k + 1) es q t)
    where
      go : (b : Bool) → ((q : Progress) → Tallied q → OnCourse (with_packets s call output v (k + 1) es q))
          → OnCourse (if b then and_on (with_packet s call v k p) (with_packets s call output v (k + 1) es) else with_packets s call output v (k + 1) es p)
      go true f = then_on (with_packet s call v k p) (with_packets s call output v (k + 1) es) (packet_made v k p h) f
      go false f = f p h

  no_piece : (p : Progress) (m : Mark) → piece_size m ≡ 0 → Tallied p → bytes_in p.pieces ≡ made_bytes (p.marks ++ m ∷ [])
  no_piece p m e h = let x = made_more p.marks m in omega (arith, x, e, h)

  act_made : (a : Act) (p : Progress) → Tallied p → OnCourse (with_act s call a p)
  act_made (Send output v) p h = packets_made output v 0 s.ends p h
  act_made (Emit v) p h = go (own_window s p.devices)
    where
      go : (d : Option (ℕ × Window)) → Tallied (actuated v d p)
      go None = h
      go (Some d) = no_piece p (mark.Actuated d.0 v) refl h

  acts_made : (acts : List Act) (p : Progress) → Tallied p → OnCourse (with_acts s call acts p)
  acts_made [] p h = h
  acts_made (a ∷ acts) p h = then_on (with_act s call a p) (with_acts s call acts) (act_made a p h) (λ q t. acts_made acts q t)

  pub handled_made : (e : SourceEvent) (p : Progress) → Tallied p → OnCourse (handled s call e p)
  unfolding handled
  handled_made e p h = let done = react s.tree e p.state.cells in acts_made done.acts (record p { state = record p.state { cells = done.cells } }) h

  finishes : (x : Course) → OnCourse x → OnResult (finished x)
  finishes (Going p) h = h
  finishes (Broken v p) h = h

  handles : (e : SourceEvent) (p : Progress) → Tallied p → OnResult (finished (handled s call e p))
  handles e p h = finishes (handled s call e p) (handled_made e p h)

  attests : (ask : List ℕ) (p : Progress) → Tallied p → OnResult (attest s call ask p)
  attests ask p h =
      let q = record p { marks = p.marks ++ mark.Wrapped ask [] true ∷ [] } in
      let piece = (wrapped s.mac s.section.key ask []).tag in
      finishes (with_piece s call piece q) (piece_made piece q (mark.Wrapped ask [] true) p refl refl (tag_length s.mac s.section.key ask (crypt s.mac s.section.key ask []) tag) h)

  pub invoke_made : (p : Progress) → Tallied p → OnResult (invoke s call p)
  invoke_made p h =
      by_entry s call p OnResult
      (record {
        refused = λ status. h;
        violated = λ v. h;
        keyed = λ good k packet body. no_piece p (mark.Unwrapped (header_in packet) (take key_size body) true) refl h;
        attested = λ good ask. attests ask p h;
        taken = λ good e packet body. handles (event.Input e.1.port (word body 0)) (number_taken e.0 packet (take value_size body) (end_of p.state.ends e.0) p)
            (no_piece p (mark.Unwrapped (header_in packet) (take value_size body) false) refl h);
        sampled = λ good d. handles (event.Sample d.1.value) (sample_read d p) (no_piece p (mark.Sampled d.0 d.1.value) refl h);
      })

pub pieces_marked : PiecesMarked
pieces_marked s call p tag none quiet = go (invoke s call p) (invoke_made s call tag p (ap bytes_in none ∙ sym (ap made_bytes quiet)))
  where
    go : (r : Invoked) → OnResult r → bytes_in (pieces_in r) ≡ made_bytes (marks_in r)
    go (Returns status q) h = h
    go (Violates v q) h = h
