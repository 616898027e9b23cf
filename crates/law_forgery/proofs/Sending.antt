-- What an invocation wraps: answers under its own key, and events of connections that it sends on.
use Rattle.std.proofs.Common.{inl, inr, ◌⊎◌, ◌≡◌, ℕ, zero, suc, ◌==◌, true, false, ◌&&◌, ◌||◌, not, if◌then◌else◌, List, [], ◌∷◌, ◌++◌, length}
use Rattle.std.proofs.Common.{take, drop, Option, Some, None, Result, Ok, Err, refl, sym, ◌∙◌, ap, subst, arith}
use Rattle.std.specs.Prelude.{nat_lt, slice_get}
use Rattle.std.proofs.lemmas.Bool.{true≢false, cond_both}
use Rattle.sx_lang.specs.declared.sides.Side.{Side}
use Rattle.sx_lang.specs.declared.sides.Side.TheVariants.{From, To}
use Rattle.sx_mean.specs.declared.events.End.{End}
use Rattle.sx_mean.specs.declared.events.SourceEvent.TheVariants as event
use Rattle.sx_rules.specs.declared.access.Violation.{Violation}
use Rattle.sx_rules.specs.declared.access.Violation.TheVariants as bad
use Rattle.sx_bus.specs.declared.devices.Window.{Window}
use Rattle.sx_tag.specs.Wrap.{wrapped, unwrapped}
use Rattle.spec_machine.specs.Memory.{word}
use Rattle.spec_run.specs.Setting.{Setting}
use Rattle.sx_wire.specs.Headers.{is_ask, is_event_header, link_in}
use Rattle.spec_invocation.specs.Setup.{Setup, Call}
use Rattle.spec_invocation.specs.Marks as mark
use Rattle.spec_invocation.specs.Marks.{Mark}
use Rattle.spec_invocation.specs.ModuleState.{EndState, end_of, epoch_of, link_of}
use Rattle.spec_invocation.specs.Windows.{two, read_bytes}
use Rattle.spec_invocation.specs.Progress.{marks_in, Progress, Invoked, Returns, Violates, Course, Going, Broken, finished}
use Rattle.spec_invocation.specs.Acts.{event_header, with_piece, own_window, handled}
use Rattle.spec_invocation.specs.Protocol.{set_key_entry, attest_entry, input_entry, set_key_size, set_key_kind, ask_size, ask_kind, event_size, event_kind, no_entry}
use Rattle.spec_invocation.specs.Protocol.{bad_window, other_kind, no_end, past_number, no_sample, last_number, key_size, value_size, header_size, key_tag_at}
use Rattle.spec_invocation.specs.Protocol.{value_tag_at}
use Rattle.spec_invocation.specs.Invocation.{entered, invoke, returns_inside, is_no_entry, has_bad_windows}
use Rattle.spec_invocation.specs.Entries.{received, with_received, is_kind, set_key, set_key_at, key_opened, is_keyed, attest, input, input_at, event_numbered}
use Rattle.spec_invocation.specs.Entries.{event_opened, sample, sample_of, sample_read, number_taken, field_in, second_in, header_in, end_on, end_found, side_of}
use Rattle.spec_invocation.proofs.Courses.{Kept, come_to, handler_keeps, piece_keeps}
use Rattle.law_forgery.proofs.Opening.{AllMarks, all_more}
use Rattle.law_forgery.proofs.Fields.{KeyedEnd, KeyedEnds, same_keyed}
use Rattle.law_forgery.proofs.Packets.{read_long}

-- an answer to an ask, under the own key; or an event for a sending end, with its connection in the header
abbrev pub Sent : Setup → Mark → Type 0
Sent s (mark.Wrapped header body own) = ((own ≡ true) × (is_ask header ≡ true) × (body ≡ []))
    ⊎ ((own ≡ false) × (is_event_header header ≡ true) × ((v : ℕ) × (body ≡ two v)) × (k : ℕ) × (e : End) × (slice_get s.ends k ≡ Some e) × (e.side ≡ From) × (link_in header ≡ e.link))
Sent s (mark.Unwrapped header body own) = Unit {0}
Sent s (mark.Sampled device v) = Unit {0}
Sent s (mark.Actuated device v) = Unit {0}

keyed_get : (set : Setting) (es : List End) (xs : List EndState) (k : ℕ) (e : End) → slice_get es k ≡ Some e → KeyedEnds set es xs → KeyedEnd set e (end_of xs k)
keyed_get set [] xs k e g h = absurd cc
keyed_get set (y ∷ es) [] k e g h = none k
  where
    none : (k : ℕ) → KeyedEnd set e (end_of [] k)
    none zero = λ o. absurd (true≢false (sym o))
    none (suc k) = λ o. absurd (true≢false (sym o))
keyed_get set (y ∷ es) (x ∷ xs) zero e g h = subst (λ (z : End). KeyedEnd set z x) (same y e g) h.0
  where
    same : (a b : End) → ◌≡◌ {A = Option End} (Some a) (Some b) → a ≡ b
    same a b e = cc
keyed_get set (y ∷ es) (x ∷ xs) (suc k) e g h = keyed_get set es xs k e g h.1

module _ (set : Setting) (s : Setup) (call : Call) where
  abbrev Fine : Progress → Type 0
  Fine p = KeyedEnds set s.ends p.state.ends × AllMarks (Sent s) p.marks

  -- wraps are of events for sending ends alone
  kept : Kept s Fine
  kept = record {
    more_pieces = λ p new h. h;
    other_memory = λ p new h. h;
    other_cells = λ p new h. h;
    wraps = λ p v k e at side o h. (
      same_keyed set s.ends p.state.ends k _ h.0,
      all_more (Sent s) p.marks (mark.Wrapped (event_header (end_of p.state.ends k)) (two v) false)
          (inr (refl, refl, (v, refl), k, e, at, side, (keyed_get set s.ends p.state.ends k e at h.0 o).1)) h.1,
    );
    writes = λ p device v h. (h.0, all_more (Sent s) p.marks (mark.Actuated device v) tt h.1);
  }

  -- what holds of an invocation's marks
  abbrev pub AllSent : Invoked → Type 0
  AllSent r = AllMarks (Sent s) (marks_in r)

  finished_sends : (x : Course) → Fine (come_to x) → AllSent (finished x)
  finished_sends (Going p) h = h.1
  finished_sends (Broken v p) h = h.1

  module _ (p0 : Progress) (none : p0.marks ≡ []) (start : KeyedEnds set s.ends p0.state.ends) where
    nothing : AllMarks (Sent s) p0.marks
    nothing = subst (AllMarks (Sent s)) (sym none) tt

    by_packet : (size kind : ℕ) (rest : List ℕ → Invoked) → ((packet : List ℕ) → length packet ≡ size → is_kind kind packet ≡ true → AllSent (rest packet))
        → (r : Result (List ℕ) Violation) → read_bytes s p0.devices p0.mem call.input size ≡ r → AllSent (received r kind rest p0)
    by_packet size kind rest f (Err v) e = nothing
    by_packet size kind rest f (Ok packet) e =
        cond_both (is_kind kind packet) (rest packet) (Returns other_kind p0) AllSent (f packet (read_long s p0.devices p0.mem size call.input packet e)) (λ g. nothing)

    by_key : (packet : List ℕ) (e : Option (ℕ × End)) → AllSent (set_key_at s packet e p0)
    by_key packet None = nothing
    by_key packet (Some e) =
        let u = unwrapped s.mac s.section.key (header_in packet) (take key_size (drop header_size packet)) (drop key_tag_at packet) in
        cond_both (is_keyed (end_of p0.state.ends e.0) (field_in packet)) (Returns no_end p0) (key_opened e.0 packet u p0) AllSent (λ g. nothing) (λ g. by_tag u)
      where
        by_tag : (u : Option (List ℕ)) → AllSent (key_opened e.0 packet u p0)
        by_tag None = nothing
        by_tag (Some body) = all_more (Sent s) p0.marks (mark.Unwrapped (header_in packet) (take key_size body) true) tt nothing

    by_event : (packet : List ℕ) → AllSent (input s call packet p0)
    by_event packet = by_end (end_found (link_of (field_in packet)) To 0 s.ends)
      where
        by_tag : (e : ℕ × End) (u : Option (List ℕ)) → AllSent (event_opened s call e packet u p0)
        by_tag e None = nothing
        by_tag e (Some body) =
            let q = number_taken e.0 packet (take value_size body) (end_of p0.state.ends e.0) p0 in
            finished_sends (handled s call (event.Input e.1.port (word body 0)) q) (handler_keeps s call Fine kept (event.Input e.1.port (word body 0)) q
            (same_keyed set s.ends p0.state.ends e.0 _ start, all_more (Sent s) p0.marks (mark.Unwrapped (header_in packet) (take value_size body) false) tt nothing))

        by_number : (e : ℕ × End) → AllSent (event_numbered s call e packet (end_of p0.state.ends e.0) p0)
        by_number e =
            let state = end_of p0.state.ends e.0 in
            let u = unwrapped s.mac state.key (header_in packet) (take value_size (drop header_size packet)) (drop value_tag_at packet) in
            cond_both (nat_lt (second_in packet) state.number || (second_in packet == last_number)) (Returns past_number p0) (event_opened s call e packet u p0) AllSent (λ g. nothing) (λ g. by_tag e u)

        by_end : (e : Option (ℕ × End)) → AllSent (input_at s call packet e p0)
        by_end None = nothing
        by_end (Some e) =
            let state = end_of p0.state.ends e.0 in
            cond_both (not state.is_open || not (epoch_of state.field == epoch_of (field_in packet))) (Returns no_end p0) (event_numbered s call e packet state p0) AllSent (λ g. nothing) (λ g. by_number e)

    by_attest : (ask : List ℕ) → length ask ≡ ask_size → is_kind ask_kind ask ≡ true → AllSent (attest s call ask p0)
    by_attest ask long kind =
        let tag = (wrapped s.mac s.section.key ask []).tag in
        let q = record p0 { marks = p0.marks ++ mark.Wrapped ask [] true ∷ [] } in
        let is : is_ask ask ≡ true = subst (λ (n : ℕ). ((n == 18) && is_kind ask_kind ask) ≡ true) (sym long) kind in
        finished_sends (with_piece s call tag q) (piece_keeps s call Fine kept tag q (start, all_more (Sent s) p0.marks (mark.Wrapped ask [] true) (inl (refl, is, refl)) nothing))

    by_sample : AllSent (sample s call p0)
    by_sample = by_device (own_window s p0.devices)
      where
        by_device : (d : Option (ℕ × Window)) → AllSent (sample_of s call d p0)
        by_device None = nothing
        by_device (Some d) =
            let q = sample_read d p0 in
            cond_both d.1.fresh (finished (handled s call (event.Sample d.1.value) q)) (Returns no_sample p0) AllSent
            (λ g. finished_sends (handled s call (event.Sample d.1.value) q)
            (handler_keeps s call Fine kept (event.Sample d.1.value) q (start, all_more (Sent s) p0.marks (mark.Sampled d.0 d.1.value) tt nothing))) (λ g. nothing)

    by_entries : AllSent (entered s call p0)
    unfolding entered
    by_entries =
        let x3 = sample s call p0 in
        let x2 = with_received s call event_size event_kind p0 (λ packet. input s call packet p0) in
        let x1 = with_received s call ask_size ask_kind p0 (λ packet. attest s call packet p0) in
        let x0 = with_received s call set_key_size set_key_kind p0 (λ packet. set_key s packet p0) in
        cond_both (call.entry == set_key_entry) x0 (if call.entry == attest_entry then x1 else if call.entry == input_entry then x2 else x3) AllSent
        (λ g. by_packet set_key_size set_key_kind (λ packet. set_key s packet p0) (λ packet l k. by_key packet (end_on (link_of (field_in packet)) s.ends (side_of (second_in packet))))
        (read_bytes s p0.devices p0.mem call.input set_key_size) refl)
        (λ g. cond_both (call.entry == attest_entry) x1 (if call.entry == input_entry then x2 else x3) AllSent
        (λ g. by_packet ask_size ask_kind (λ packet. attest s call packet p0) by_attest (read_bytes s p0.devices p0.mem call.input ask_size) refl)
        (λ g. cond_both (call.entry == input_entry) x2 x3 AllSent
        (λ g. by_packet event_size event_kind (λ packet. input s call packet p0) (λ packet l k. by_event packet) (read_bytes s p0.devices p0.mem call.input event_size) refl)
        (λ g. by_sample)))

    -- an invocation wraps events for sending ends alone
    pub wraps_sent : AllSent (invoke s call p0)
    unfolding invoke
    wraps_sent =
        cond_both (returns_inside s call) (Violates bad.Illegal p0) (if is_no_entry s call then Returns no_entry p0 else if has_bad_windows s call then Returns bad_window p0 else entered s call p0) AllSent
        (λ g. nothing)
        (λ g. cond_both (is_no_entry s call) (Returns no_entry p0) (if has_bad_windows s call then Returns bad_window p0 else entered s call p0) AllSent (λ g. nothing)
        (λ g. cond_both (has_bad_windows s call) (Returns bad_window p0) (entered s call p0) AllSent (λ g. nothing) (λ g. by_entries)))

-- So the module that such a header's connection comes from is the one that wrapped.

has_end_get : (es : List End) (k : ℕ) (e : End) → slice_get es k ≡ Some e → Rattle.spec_run.proofs.tie.Tied.HasEnd es e
has_end_get [] k e g = absurd cc
has_end_get (x ∷ es) zero e g = inl (Rattle.spec_run.proofs.tie.Lists.some_inj x e g)
has_end_get (x ∷ es) (suc k) e g = inr (has_end_get es k e g)

pub sent_sender : (app : Rattle.sx_mean.specs.Application.AppTree) (m k : ℕ) (e : End) → slice_get (Rattle.sx_mean.specs.Ends.ends_of app m) k ≡ Some e → e.side ≡ From
    → Rattle.spec_run.specs.Observation.sender_of app e.link ≡ m
sent_sender app m k e g side =
    let r = Rattle.spec_run.proofs.tie.Ends.has_link 0 m app.links e (has_end_get (Rattle.sx_mean.specs.Ends.ends_of app m) k e g) in
    let ra = r.at in
    let at : e.link ≡ r.place = omega (arith, ra) in
    let ends = subst (λ (s : Side). Rattle.spec_run.proofs.tie.Ends.EndOf m s e.port r.link) side r.ends in
    ap Rattle.spec_run.specs.Observation.from_of (ap (slice_get app.links) at ∙ r.there) ∙ ends.0
