-- What the unwraps of an invocation are of.
use Rattle.std.proofs.Common.{◌≡◌, ℕ, ◌==◌, Bool, true, false, ◌||◌, not, if◌then◌else◌, List, [], ◌∷◌, ◌++◌, take, drop, Option, Some, None, Result, Ok, Err, refl, sym, subst}
use Rattle.std.specs.Prelude.{nat_lt}
use Rattle.std.proofs.lemmas.Bool.{eqb-true, true≢false, or_parts, cond_both}
use Rattle.sx_lang.specs.declared.sides.Side.TheVariants.{To}
use Rattle.sx_mean.specs.declared.events.End.{End}
use Rattle.sx_mean.specs.declared.events.SourceEvent.TheVariants as event
use Rattle.sx_rules.specs.declared.access.Violation.{Violation}
use Rattle.sx_rules.specs.declared.access.Violation.TheVariants as bad
use Rattle.sx_bus.specs.declared.devices.Window.{Window}
use Rattle.sx_tag.specs.Wrap.{wrapped, unwrapped}
use Rattle.spec_machine.specs.Memory.{word}
use Rattle.spec_invocation.specs.Setup.{Setup, Call}
use Rattle.spec_invocation.specs.Marks as mark
use Rattle.spec_invocation.specs.Marks.{Mark}
use Rattle.spec_invocation.specs.ModuleState.{end_of, epoch_of, link_of}
use Rattle.spec_invocation.specs.Windows.{two, read_bytes, is_bad_window, in_window_size, out_window_size}
use Rattle.spec_invocation.specs.Progress.{Progress, Invoked, Returns, Violates, Course, Going, Broken, finished, marks_in}
use Rattle.spec_invocation.specs.Acts.{with_piece, event_header, own_window, handled}
use Rattle.spec_invocation.specs.Protocol.{set_key_entry, attest_entry, input_entry, set_key_size, set_key_kind, ask_size, ask_kind, event_size, event_kind, no_entry}
use Rattle.spec_invocation.specs.Protocol.{bad_window, other_kind, no_end, past_number, no_sample, last_number, key_size, value_size, header_size, key_tag_at}
use Rattle.spec_invocation.specs.Protocol.{value_tag_at}
use Rattle.spec_invocation.specs.Invocation.{entered, invoke, returns_inside, is_no_entry, has_bad_windows}
use Rattle.spec_invocation.specs.Entries.{received, with_received, is_kind, set_key, set_key_at, key_opened, is_keyed, attest, input, input_at, event_numbered}
use Rattle.spec_invocation.specs.Entries.{event_opened, sample, sample_of, sample_read, number_taken, field_in, second_in, header_in, end_on, end_found, side_of}
use Rattle.spec_invocation.proofs.Courses.{Kept, come_to, handler_keeps, piece_keeps}

-- An event that the invocation takes: the packet that it read, for an end that is open in its epoch, and its tag is that under the end's key.
pub record TakenFrom (s : Setup) (call : Call) (p : Progress) (header body : List ℕ) : Type 0 where
  pub packet : List ℕ
  pub read : read_bytes s p.devices p.mem call.input event_size ≡ Ok packet
  pub window : is_bad_window s call.input in_window_size ≡ false
  pub kind : is_kind event_kind packet ≡ true
  pub index : ℕ
  pub «end» : End
  pub found : end_found (link_of (field_in packet)) To 0 s.ends ≡ Some (index, «end»)
  pub is_open : (end_of p.state.ends index).is_open ≡ true
  pub epoch : epoch_of (end_of p.state.ends index).field ≡ epoch_of (field_in packet)
  pub plain : List ℕ
  pub opens : unwrapped s.mac (end_of p.state.ends index).key (header_in packet) (take value_size (drop header_size packet)) (drop value_tag_at packet) ≡ Some plain
  pub header_is : header ≡ header_in packet
  pub body_is : body ≡ take value_size plain

-- A key that it takes: the packet that it read, for an end of its own, and its tag is that under the module's key.
pub record KeyedFrom (s : Setup) (call : Call) (p : Progress) (header body : List ℕ) : Type 0 where
  pub packet : List ℕ
  pub read : read_bytes s p.devices p.mem call.input set_key_size ≡ Ok packet
  pub window : is_bad_window s call.input in_window_size ≡ false
  pub index : ℕ
  pub «end» : End
  pub found : end_on (link_of (field_in packet)) s.ends (side_of (second_in packet)) ≡ Some (index, «end»)
  pub kind : is_kind set_key_kind packet ≡ true
  pub plain : List ℕ
  pub opens : unwrapped s.mac s.section.key (header_in packet) (take key_size (drop header_size packet)) (drop key_tag_at packet) ≡ Some plain
  pub header_is : header ≡ header_in packet
  pub body_is : body ≡ take key_size plain

abbrev pub Told : Setup → Call → Progress → Mark → Type 0
Told s call p (mark.Wrapped header body own) = Unit {0}
Told s call p (mark.Unwrapped header body true) = KeyedFrom s call p header body
Told s call p (mark.Unwrapped header body false) = TakenFrom s call p header body
Told s call p (mark.Sampled device v) = Unit {0}
Told s call p (mark.Actuated device v) = Unit {0}

abbrev pub AllMarks : (Mark → Type 0) → List Mark → Type 0
AllMarks P [] = Unit {0}
AllMarks P (m ∷ ms) = P m × AllMarks P ms

pub all_more : (P : Mark → Type 0) (ms : List Mark) (m : Mark) → P m → AllMarks P ms → AllMarks P (ms ++ m ∷ [])
all_more P [] m e h = (e, tt)
all_more P (x ∷ ms) m e h = (h.0, all_more P ms m e h.1)

module _ (s : Setup) (call : Call) (p0 : Progress) where
  abbrev P : Mark → Type 0
  P = Told s call p0

  abbrev Fine : Progress → Type 0
  Fine p = AllMarks P p.marks

  kept : Kept s Fine
  kept = record {
    more_pieces = λ p new h. h;
    other_memory = λ p new h. h;
    other_cells = λ p new h. h;
    wraps = λ p v k e at side o h. all_more P p.marks (mark.Wrapped (event_header (end_of p.state.ends k)) (two v) false) tt h;
    writes = λ p device v h. all_more P p.marks (mark.Actuated device v) tt h;
  }

  finished_keeps : (x : Course) → Fine (come_to x) → AllMarks P (marks_in (finished x))
  finished_keeps (Going p) h = h
  finished_keeps (Broken v p) h = h

  abbrev Good : Invoked → Type 0
  Good r = AllMarks P (marks_in r)

  module _ (none : p0.marks ≡ []) where
    nothing : AllMarks P p0.marks
    nothing = subst (AllMarks P) (sym none) tt

    one : (m : Mark) → P m → AllMarks P (p0.marks ++ m ∷ [])
    one m h = subst (λ (l : List Mark). AllMarks P (l ++ m ∷ [])) (sym none) (h, tt)

    by_packet : (size : ℕ) (kind : ℕ) (rest : List ℕ → Invoked) → ((packet : List ℕ) → read_bytes s p0.devices p0.mem call.input size ≡ Ok packet → is_kind kind packet ≡ true → Good (rest packet))
        → (r : Result (List ℕ) Violation) → read_bytes s p0.devices p0.mem call.input size ≡ r → Good (received r kind rest p0)
    by_packet size kind rest f (Err v) e = nothing
    by_packet size kind rest f (Ok packet) e = cond_both (is_kind kind packet) (rest packet) (Returns other_kind p0) Good (λ g. f packet e g) (λ g. nothing)

    by_key : is_bad_window s call.input in_window_size ≡ false → (packet : List ℕ) → read_bytes s p0.devices p0.mem call.input set_key_size ≡ Ok packet
        → is_kind set_key_kind packet ≡ true → Good (set_key s packet p0)
    by_key window packet read kind = by_end (end_on (link_of (field_in packet)) s.ends (side_of (second_in packet))) refl
      where
        by_tag : (e : ℕ × End) → end_on (link_of (field_in packet)) s.ends (side_of (second_in packet)) ≡ Some e
            → (u : Option (List ℕ)) → unwrapped s.mac s.section.key (header_in packet) (take key_size (drop header_size packet)) (drop key_tag_at packet) ≡ u → Good (key_opened e.0 packet u p0)
        by_tag e found None f = nothing
        by_tag e found (Some body) f = one (mark.Unwrapped (header_in packet) (take key_size body) true)
            (record { packet = packet; read = read; window = window; index = e.0; «end» = e.1; found = found; kind = kind; plain = body; opens = f; header_is = refl; body_is = refl })

        by_end : (e : Option (ℕ × End)) → end_on (link_of (field_in packet)) s.ends (side_of (second_in packet)) ≡ e → Good (set_key_at s packet e p0)
        by_end None found = nothing
        by_end (Some e) found =
            let u = unwrapped s.mac s.section.key (header_in packet) (take key_size (drop header_size packet)) (drop key_tag_at packet) in
            cond_both (is_keyed (end_of p0.state.ends e.0) (field_in packet)) (Returns no_end p0) (key_opened e.0 packet u p0) Good (λ g. nothing) (λ g. by_tag e found u refl)

    by_event : is_bad_window s call.input in_window_size ≡ false → (packet : List ℕ) → read_bytes s p0.devices p0.mem call.input event_size ≡ Ok packet
        → is_kind event_kind packet ≡ true → Good (input s call packet p0)
    by_event window packet read kind = by_end (end_found (link_of (field_in packet)) To 0 s.ends) refl
      where
        by_tag : (e : ℕ × End) → end_found (link_of (field_in packet)) To 0 s.ends ≡ Some e → (end_of p0.state.ends e.0).is_open ≡ true
            → epoch_of (end_of p0.state.ends e.0).field ≡ epoch_of (field_in packet)
            → (u : Option (List ℕ)) → unwrapped s.mac (end_of p0.state.ends e.0).key (header_in packet) (take value_size (drop header_size packet))
            (drop value_tag_at packet) ≡ u → Good (event_opened s call e packet u p0)
        by_tag e found op ep None f = nothing
        by_tag e found op ep (Some body) f =
            let q = number_taken e.0 packet (take value_size body) (end_of p0.state.ends e.0) p0 in
            finished_keeps (handled s call (event.Input e.1.port (word body 0)) q) (handler_keeps s call Fine kept (event.Input e.1.port (word body 0)) q
            (one (mark.Unwrapped (header_in packet) (take value_size body) false)
            (record {
              packet = packet;
              read = read;
              window = window;
              kind = kind;
              index = e.0;
              «end» = e.1;
              found = found;
              is_open = op;
              epoch = ep;
              plain = body;
              opens = f;
              header_is = refl;
              body_is = refl;
            })))

        by_number : (e : ℕ × End) → end_found (link_of (field_in packet)) To 0 s.ends ≡ Some e → (end_of p0.state.ends e.0).is_open ≡ true
            → epoch_of (end_of p0.state.ends e.0).field ≡ epoch_of (field_in packet)
            → Good (event_numbered s call e packet (end_of p0.state.ends e.0) p0)
        by_number e found op ep =
            let state = end_of p0.state.ends e.0 in
            let u = unwrapped s.mac state.key (header_in packet) (take value_size (drop header_size packet)) (drop value_tag_at packet) in
            cond_both (nat_lt (second_in packet) state.number || (second_in packet == last_number)) (Returns past_number p0) (event_opened s call e packet u p0) Good
            (λ g. nothing) (λ g. by_tag e found op ep u refl)

        open_parts : (a b : Bool) → (not a || not b) ≡ false → (a ≡ true) × (b ≡ true)
        open_parts true true e = (refl, refl)
        open_parts true false e = absurd (true≢false e)
        open_parts false b e = absurd (true≢false e)

        by_end : (e : Option (ℕ × End)) → end_found (link_of (field_in packet)) To 0 s.ends ≡ e → Good (input_at s call packet e p0)
        by_end None found = nothing
        by_end (Some e) found =
            let state = end_of p0.state.ends e.0 in
            cond_both (not state.is_open || not (epoch_of state.field == epoch_of (field_in packet))) (Returns no_end p0) (event_numbered s call e packet state p0) Good (λ g. nothing)
            (λ g. let both = open_parts state.is_open (epoch_of state.field == epoch_of (field_in packet)) g in
            by_number e found both.0 (eqb-true (epoch_of state.field) (epoch_of (field_in packet)) both.1))

    by_attest : (ask : List ℕ) → Good (attest s call ask p0)
    by_attest ask =
        let tag = (wrapped s.mac s.section.key ask []).tag in
        let q = record p0 { marks = p0.marks ++ mark.Wrapped ask [] true ∷ [] } in
        finished_keeps (with_piece s call tag q) (piece_keeps s call Fine kept tag q (one (mark.Wrapped ask [] true) tt))

    by_sample : Good (sample s call p0)
    by_sample = by_device (own_window s p0.devices)
      where
        by_device : (d : Option (ℕ × Window)) → Good (sample_of s call d p0)
        by_device None = nothing
        by_device (Some d) =
            let q = sample_read d p0 in
            cond_both d.1.fresh (finished (handled s call (event.Sample d.1.value) q)) (Returns no_sample p0) Good
            (λ g. finished_keeps (handled s call (event.Sample d.1.value) q) (handler_keeps s call Fine kept (event.Sample d.1.value) q (one (mark.Sampled d.0 d.1.value) tt))) (λ g. nothing)

    by_entries : is_bad_window s call.input in_window_size ≡ false → Good (entered s call p0)
    unfolding entered
    by_entries window =
        let x3 = sample s call p0 in
        let x2 = with_received s call event_size event_kind p0 (λ packet. input s call packet p0) in
        let x1 = with_received s call ask_size ask_kind p0 (λ packet. attest s call packet p0) in
        let x0 = with_received s call set_key_size set_key_kind p0 (λ packet. set_key s packet p0) in
        cond_both (call.entry == set_key_entry) x0 (if call.entry == attest_entry then x1 else if call.entry == input_entry then x2 else x3) Good
        (λ g. by_packet set_key_size set_key_kind (λ packet. set_key s packet p0) (by_key window) (read_bytes s p0.devices p0.mem call.input set_key_size) refl)
        (λ g. cond_both (call.entry == attest_entry) x1 (if call.entry == input_entry then x2 else x3) Good
        (λ g. by_packet ask_size ask_kind (λ packet. attest s call packet p0) (λ packet r k. by_attest packet) (read_bytes s p0.devices p0.mem call.input ask_size) refl)
        (λ g. cond_both (call.entry == input_entry) x2 x3 Good
        (λ g. by_packet event_size event_kind (λ packet. input s call packet p0) (by_event window) (read_bytes s p0.devices p0.mem call.input event_size) refl)
        (λ g. by_sample)))

    -- each unwrap of an invocation is of a key or of an event
    pub unwraps_told : Good (invoke s call p0)
    unfolding invoke
    unwraps_told =
        cond_both (returns_inside s call) (Violates bad.Illegal p0) (if is_no_entry s call then Returns no_entry p0 else if has_bad_windows s call then Returns bad_window p0 else entered s call p0) Good
        (λ g. nothing)
        (λ g. cond_both (is_no_entry s call) (Returns no_entry p0) (if has_bad_windows s call then Returns bad_window p0 else entered s call p0) Good (λ g. nothing)
        (λ g. cond_both (has_bad_windows s call) (Returns bad_window p0) (entered s call p0) Good (λ g. nothing)
        (λ g. by_entries (or_parts (is_bad_window s call.input in_window_size) (is_bad_window s call.output out_window_size) g).0)))
