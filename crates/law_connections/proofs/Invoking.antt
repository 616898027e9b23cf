-- An invocation asks nothing of the tag function but tags.
use Rattle.std.proofs.Common.{◌≡◌, ℕ, zero, suc, ◌+◌, ◌*◌, ◌==◌, Bool, true, false, cond, not, ◌&&◌, ◌||◌, List, [], ◌∷◌, ◌++◌, length, take, drop, Option, Some, None, Result, Ok, Err, refl, ◌∙◌, ap}
use Rattle.std.specs.Prelude.{nat_lt}
use Rattle.sx_mean.specs.declared.events.End.{End}
use Rattle.sx_mean.specs.declared.events.Act.{Act}
use Rattle.sx_mean.specs.declared.events.Act.TheVariants.{Send, Emit}
use Rattle.sx_mean.specs.declared.events.SourceEvent.{SourceEvent}
use Rattle.sx_mean.specs.declared.events.SourceEvent.TheVariants as event
use Rattle.sx_mean.specs.React.{react}
use Rattle.sx_mean.specs.Ends.{is_sending}
use Rattle.sx_rules.specs.declared.access.Violation.{Violation}
use Rattle.sx_rules.specs.declared.access.Violation.TheVariants as bad
use Rattle.sx_bus.specs.declared.devices.Window.{Window}
use Rattle.sx_tag.specs.Wrap.{crypt, wrap_tag, wrapped, unwrapped}
use Rattle.spec_invocation.specs.Protocol.{set_key_entry, attest_entry, input_entry, no_entry, bad_window, no_end, past_number}
use Rattle.spec_invocation.specs.Protocol.{set_key_size, set_key_kind, ask_size, ask_kind, event_size, event_kind, last_number}
use Rattle.spec_invocation.specs.Protocol.{header_size, value_size, value_tag_at}
use Rattle.spec_invocation.specs.Setup.{Setup, Call}
use Rattle.spec_invocation.specs.ModuleState.{end_of, link_of, epoch_of}
use Rattle.spec_invocation.specs.Marks.{Wrapped}
use Rattle.spec_invocation.specs.Windows.{read_byte, write_byte, then_, read_bytes, write_bytes}
use Rattle.spec_invocation.specs.Progress.{Progress, Invoked, Returns, Violates, Course, Going, Broken, and_on, finished}
use Rattle.spec_invocation.specs.Acts.{copied_to, with_piece, event_packet, wrap_counted, with_packet, with_packets, with_act, with_acts, handled, own_window}
use Rattle.spec_invocation.specs.Entries.{received, is_kind, with_received, set_key_at, set_key, attest, event_opened, input_at, input, sample_of, sample_read, sample, number_taken, field_in, second_in, header_in}
use Rattle.spec_invocation.specs.Invocation.{invoke, entered, returns_inside, is_no_entry, has_bad_windows}
use Rattle.spec_run.proofs.Tags.{lawful}

if_same : {X : Type 0} (b : Bool) (x y z w : X) → x ≡ y → z ≡ w → cond b x z ≡ cond b y w
if_same true x y z w e f = e
if_same false x y z w e f = f

module _ (s : Setup) where
  -- the same with other tags for what is no tag
  abbrev pub other : Setup
  other = record s { mac = lawful s.mac }

  read_same : (devices : List Window) (mem : List ℕ) (at n : ℕ) → read_bytes other devices mem at n ≡ read_bytes s devices mem at n
  unfolding read_bytes read_byte
  read_same devices mem at zero = refl
  read_same devices mem at (suc n) =
      ap (λ (r : Result (List ℕ) Violation). then_ (read_byte s devices mem at) (λ b. then_ r (λ bs. Ok (b ∷ bs)))) (read_same devices mem (at + 1) n)

  write_same : (devices : List Window) (mem : List ℕ) (at : ℕ) (bs : List ℕ) → write_bytes other devices mem at bs ≡ write_bytes s devices mem at bs
  unfolding write_bytes write_byte
  write_same devices mem at [] = refl
  write_same devices mem at (b ∷ bs) = by (write_byte s devices mem at b) (λ m. write_same devices m (at + 1) bs)
    where
      by : (r : Result (List ℕ) Violation) → ((m : List ℕ) → write_bytes other devices m (at + 1) bs ≡ write_bytes s devices m (at + 1) bs) → then_ r (λ m. write_bytes other devices m (at + 1) bs) ≡ then_ r (λ m. write_bytes s devices m (at + 1) bs)
      by (Ok m) h = h m
      by (Err v) h = refl

  piece_same : (c : Call) (piece : List ℕ) (p : Progress) → with_piece other c piece p ≡ with_piece s c piece p
  piece_same c piece p =
      ap (λ (r : Result (List ℕ) Violation). copied_to r (record p { pieces = p.pieces ++ piece ∷ [] }))
      (write_same p.devices p.mem (c.output + event_size * length p.pieces) piece)

  packet_same : (c : Call) (v k : ℕ) (p : Progress) → with_packet other c v k p ≡ with_packet s c v k p
  unfolding with_packet crypt wrap_tag
  packet_same c v k p =
      let e = end_of p.state.ends k in
      if_same (e.is_open && nat_lt e.number last_number) (with_piece other c (event_packet s e v) (wrap_counted k e v p)) (with_piece s c (event_packet s e v) (wrap_counted k e v p))
      (Going p) (Going p) (piece_same c (event_packet s e v) (wrap_counted k e v p)) refl

  and_same : (x y : Course) (f g : Progress → Course) → x ≡ y → ((p : Progress) → f p ≡ g p) → and_on x f ≡ and_on y g
  and_same x y f g e h = by x ∙ ap (λ (z : Course). and_on z g) e
    where
      by : (z : Course) → and_on z f ≡ and_on z g
      by (Going p) = h p
      by (Broken v p) = refl

  packets_same : (c : Call) (output v k : ℕ) (es : List End) (p : Progress) → with_packets other c output v k es p ≡ with_packets s c output v k es p
  packets_same c output v k [] p = refl
  packets_same c output v k (e ∷ es) p =
      if_same (is_sending output e.side e.port)
      (and_on (with_packet other c v k p) (with_packets other c output v (k + 1) es)) (and_on (with_packet s c v k p) (with_packets s c output v (k + 1) es))
      (with_packets other c output v (k + 1) es p) (with_packets s c output v (k + 1) es p)
      (and_same (with_packet other c v k p) (with_packet s c v k p) (with_packets other c output v (k + 1) es) (with_packets s c output v (k + 1) es)
      (packet_same c v k p) (λ q. packets_same c output v (k + 1) es q))
      (packets_same c output v (k + 1) es p)

  act_same : (c : Call) (a : Act) (p : Progress) → with_act other c a p ≡ with_act s c a p
  act_same c (Send output v) p = packets_same c output v 0 s.ends p
  act_same c (Emit v) p = refl

  acts_same : (c : Call) (xs : List Act) (p : Progress) → with_acts other c xs p ≡ with_acts s c xs p
  acts_same c [] p = refl
  acts_same c (a ∷ xs) p = and_same (with_act other c a p) (with_act s c a p) (with_acts other c xs) (with_acts s c xs) (act_same c a p) (λ q. acts_same c xs q)

  handled_same : (c : Call) (e : SourceEvent) (p : Progress) → handled other c e p ≡ handled s c e p
  unfolding handled
  handled_same c e p =
      let done = react s.tree e p.state.cells in
      acts_same c done.acts (record p { state = record p.state { cells = done.cells } })

  -- Entries.

  received_same : (r : Result (List ℕ) Violation) (kind : ℕ) (f g : List ℕ → Invoked) (p : Progress) → ((packet : List ℕ) → f packet ≡ g packet) → received r kind f p ≡ received r kind g p
  received_same (Err v) kind f g p h = refl
  received_same (Ok packet) kind f g p h = ap (λ (z : Invoked). cond (is_kind kind packet) z (Returns Rattle.spec_invocation.specs.Protocol.other_kind p)) (h packet)

  got_same : (c : Call) (n kind : ℕ) (p : Progress) (f g : List ℕ → Invoked) → ((packet : List ℕ) → f packet ≡ g packet)
      → with_received other c n kind p f ≡ with_received s c n kind p g
  got_same c n kind p f g h =
      ap (λ (r : Result (List ℕ) Violation). received r kind f p) (read_same p.devices p.mem c.input n)
      ∙ received_same (read_bytes s p.devices p.mem c.input n) kind f g p h

  key_same : (packet : List ℕ) (e : Option (ℕ × End)) (p : Progress) → set_key_at other packet e p ≡ set_key_at s packet e p
  unfolding unwrapped crypt wrap_tag
  key_same packet None p = refl
  key_same packet (Some e) p = refl

  opened_same : (c : Call) (e : ℕ × End) (packet : List ℕ) (o : Option (List ℕ)) (p : Progress) → event_opened other c e packet o p ≡ event_opened s c e packet o p
  opened_same c e packet None p = refl
  opened_same c e packet (Some body) p =
      ap finished (handled_same c (event.Input e.1.port (Rattle.spec_machine.specs.Memory.word body 0)) (number_taken e.0 packet (take value_size body) (end_of p.state.ends e.0) p))

  input_same : (c : Call) (packet : List ℕ) (e : Option (ℕ × End)) (p : Progress) → input_at other c packet e p ≡ input_at s c packet e p
  unfolding unwrapped crypt wrap_tag
  input_same c packet None p = refl
  input_same c packet (Some e) p =
      let state = end_of p.state.ends e.0 in
      let o = unwrapped s.mac state.key (header_in packet) (take value_size (drop header_size packet)) (drop value_tag_at packet) in
      ap (λ (z : Invoked). cond (not state.is_open || not (epoch_of state.field == epoch_of (field_in packet))) (Returns no_end p)
      (cond (nat_lt (second_in packet) state.number || (second_in packet == Rattle.spec_invocation.specs.Protocol.last_number)) (Returns past_number p) z))
      (opened_same c e packet o p)

  sample_same : (c : Call) (d : Option (ℕ × Window)) (p : Progress) → sample_of other c d p ≡ sample_of s c d p
  sample_same c None p = refl
  sample_same c (Some d) p =
      ap (λ (z : Course). cond d.1.fresh (finished z) (Returns Rattle.spec_invocation.specs.Protocol.no_sample p)) (handled_same c (event.Sample d.1.value) (sample_read d p))

  attest_same : (c : Call) (ask : List ℕ) (p : Progress) → attest other c ask p ≡ attest s c ask p
  unfolding crypt wrap_tag
  attest_same c ask p = ap finished (piece_same c (wrapped s.mac s.section.key ask []).tag (record p { marks = p.marks ++ Wrapped ask [] true ∷ [] }))

  entered_same : (c : Call) (p : Progress) → entered other c p ≡ entered s c p
  unfolding entered
  entered_same c p =
      if_same (c.entry == set_key_entry)
      (with_received other c set_key_size set_key_kind p (λ packet. set_key other packet p)) (with_received s c set_key_size set_key_kind p (λ packet. set_key s packet p)) _ _
      (got_same c set_key_size set_key_kind p (λ packet. set_key other packet p) (λ packet. set_key s packet p)
      (λ packet. key_same packet (Rattle.spec_invocation.specs.Entries.end_on (link_of (field_in packet)) s.ends (Rattle.spec_invocation.specs.Entries.side_of (second_in packet))) p))
      (if_same (c.entry == attest_entry)
      (with_received other c ask_size ask_kind p (λ packet. attest other c packet p)) (with_received s c ask_size ask_kind p (λ packet. attest s c packet p)) _ _
      (got_same c ask_size ask_kind p (λ packet. attest other c packet p) (λ packet. attest s c packet p) (λ packet. attest_same c packet p))
      (if_same (c.entry == input_entry)
      (with_received other c event_size event_kind p (λ packet. input other c packet p)) (with_received s c event_size event_kind p (λ packet. input s c packet p)) (sample other c p) (sample s c p)
      (got_same c event_size event_kind p (λ packet. input other c packet p) (λ packet. input s c packet p)
      (λ packet. input_same c packet (Rattle.spec_invocation.specs.Entries.end_found (link_of (field_in packet)) Rattle.sx_lang.specs.declared.sides.Side.TheVariants.To 0 s.ends) p))
      (sample_same c (own_window s p.devices) p)))

  pub invoke_same : (c : Call) (p : Progress) → invoke other c p ≡ invoke s c p
  unfolding invoke
  invoke_same c p =
      ap (λ (z : Invoked). cond (returns_inside s c) (Violates bad.Illegal p) (cond (is_no_entry s c) (Returns no_entry p) (cond (has_bad_windows s c) (Returns bad_window p) z))) (entered_same c p)
