-- Open ends have the keys of their fields, and an invocation keeps that, where the key that it takes is that of its header.
use Rattle.std.proofs.Common.{◌≡◌, ℕ, zero, suc, ◌+◌, ◌*◌, ◌<◌, ◌==◌, Bool, true, false, cond, ◌||◌, not, if◌then◌else◌, List, [], ◌∷◌, ◌++◌}
use Rattle.std.proofs.Common.{take, drop, Option, Some, None, Result, Ok, Err, refl, sym, ◌∙◌, ap, subst, arith}
use Rattle.std.specs.Prelude.{nat_lt, slice_index}
use Rattle.std.proofs.lemmas.Bool.{and_parts, eqb-true, true≢false, cond_both}
use Rattle.std.proofs.lemmas.Option.{none-some}
use Rattle.sx_lang.specs.declared.sides.Side.{Side}
use Rattle.sx_lang.specs.declared.sides.Side.TheVariants.{To}
use Rattle.sx_mean.specs.declared.events.End.{End}
use Rattle.sx_mean.specs.declared.events.SourceEvent.TheVariants as event
use Rattle.sx_rules.specs.declared.access.Violation.{Violation}
use Rattle.sx_rules.specs.declared.access.Violation.TheVariants as bad
use Rattle.sx_bus.specs.declared.devices.Window.{Window}
use Rattle.sx_tag.specs.Keys.{kdf}
use Rattle.sx_tag.specs.Wrap.{wrapped, unwrapped}
use Rattle.spec_machine.specs.Memory.{word}
use Rattle.spec_run.specs.Setting.{Setting}
use Rattle.byteorder.specs.Endian.{little_bytes}
use Rattle.sx_wire.specs.Headers.{link_in, epoch_in}
use Rattle.spec_invocation.specs.Setup.{Setup, Call}
use Rattle.spec_invocation.specs.Marks as mark
use Rattle.spec_invocation.specs.Marks.{Mark}
use Rattle.spec_invocation.specs.ModuleState.{EndState, end_of, with_end, epoch_of, link_of, initial_ends}
use Rattle.spec_invocation.specs.Windows.{read_bytes}
use Rattle.spec_invocation.specs.Progress.{Progress, Invoked, Returns, Violates, Course, Going, Broken, finished}
use Rattle.spec_invocation.specs.Acts.{with_piece, own_window, handled}
use Rattle.spec_invocation.specs.Protocol.{set_key_entry, attest_entry, input_entry, set_key_size, set_key_kind, ask_size, ask_kind, event_size, event_kind, no_entry}
use Rattle.spec_invocation.specs.Protocol.{bad_window, other_kind, no_end, past_number, no_sample, last_number, key_size, value_size, header_size, key_tag_at}
use Rattle.spec_invocation.specs.Protocol.{value_tag_at}
use Rattle.spec_invocation.specs.Invocation.{entered, invoke, returns_inside, is_no_entry, has_bad_windows}
use Rattle.spec_invocation.specs.Entries.{received, with_received, is_kind, set_key, set_key_at, key_opened, is_keyed, attest, input, input_at, event_numbered}
use Rattle.spec_invocation.specs.Entries.{event_opened, sample, sample_of, sample_read, number_taken, field_in, second_in, header_in, end_on, end_found, end_is}
use Rattle.spec_invocation.specs.Entries.{side_of}
use Rattle.spec_invocation.proofs.Courses.{Kept, come_to, handler_keeps, piece_keeps}
use Rattle.law_forgery.proofs.Opening.{AllMarks}

-- the key of a connection field
abbrev pub field_key : Setting → ℕ → List ℕ
field_key set field = kdf set.mac set.secret (little_bytes 2 field)

abbrev pub KeyedEnd : Setting → End → EndState → Type 0
KeyedEnd set e x = x.is_open ≡ true → (x.key ≡ field_key set x.field) × (link_of x.field ≡ e.link)

abbrev pub KeyedEnds : Setting → List End → List EndState → Type 0
KeyedEnds set [] xs = Unit {0}
KeyedEnds set (e ∷ es) [] = Unit {0}
KeyedEnds set (e ∷ es) (x ∷ xs) = KeyedEnd set e x × KeyedEnds set es xs

-- the key that is taken is that of the header's field
abbrev pub KeyMark : Setting → Mark → Type 0
KeyMark set (mark.Wrapped header body own) = Unit {0}
KeyMark set (mark.Unwrapped header body true) = body ≡ field_key set (link_in header + 256 * epoch_in header)
KeyMark set (mark.Unwrapped header body false) = Unit {0}
KeyMark set (mark.Sampled device v) = Unit {0}
KeyMark set (mark.Actuated device v) = Unit {0}

pub first_keyed : (set : Setting) (es : List End) → KeyedEnds set es (initial_ends es)
first_keyed set [] = tt
first_keyed set (e ∷ es) = (λ o. absurd (true≢false (sym o)), first_keyed set es)

-- an end that only counts on
pub same_keyed : (set : Setting) (es : List End) (xs : List EndState) (k n : ℕ) → KeyedEnds set es xs
    → KeyedEnds set es (with_end xs k (record { is_open = (end_of xs k).is_open; field = (end_of xs k).field; number = n; key = (end_of xs k).key }))
same_keyed set [] xs k n h = tt
same_keyed set (e ∷ es) [] k n h = tt
same_keyed set (e ∷ es) (x ∷ xs) zero n h = h
same_keyed set (e ∷ es) (x ∷ xs) (suc k) n h = (h.0, same_keyed set es xs k n h.1)

pair_inj : (a b : ℕ) (c d : End) → ◌≡◌ {A = Option (ℕ × End)} (Some (a, c)) (Some (b, d)) → (a ≡ b) × (c ≡ d)
pair_inj a b c d e = (ap first e, ap second e)
  where
    first : Option (ℕ × End) → ℕ
    first None = 0
    first (Some p) = p.0

    second : Option (ℕ × End) → End
    second None = d
    second (Some p) = p.1

none_keyed : (set : Setting) (es : List End) → KeyedEnds set es []
none_keyed set [] = tt
none_keyed set (e ∷ es) = tt

abbrev Found : Setting → ℕ → ℕ → ℕ → End → List EndState → Type 0
Found set link j i f xs = (d : ℕ) × (i ≡ j + d) × (KeyedEnd set f (end_of xs d)) × (f.link ≡ link)

found_if : (set : Setting) (link : ℕ) (side : Side) (j i : ℕ) (f x : End) (o : Option (ℕ × End)) (xs ys : List EndState) (b : Bool) → end_is link side x ≡ b → KeyedEnd set x (end_of xs 0)
    → ((d : ℕ) → end_of ys d ≡ end_of xs (suc d)) → cond {A = Option (ℕ × End)} b (Some (j, x)) o ≡ Some (i, f) → (o ≡ Some (i, f) → Found set link (j + 1) i f ys) → Found set link j i f xs
found_if set link side j i f x o xs ys true t here next e g =
    let p = pair_inj j i x f e in
    let pi = p.0 in
    (0, omega (arith, pi), subst (λ (z : End). KeyedEnd set z (end_of xs 0)) p.1 here, ap (λ (z : End). z.link) (sym p.1) ∙ eqb-true x.link link (and_parts (x.link == link) _ t).0)
found_if set link side j i f x o xs ys false t here next e g =
    let r = g e in
    let ri = r.1 in
    (suc r.0, omega (arith, ri), subst (λ (z : EndState). KeyedEnd set f z) (next r.0) r.2, r.3)

-- the end that is found
pub found_keyed : (set : Setting) (link : ℕ) (side : Side) (j i : ℕ) (f : End) (es : List End) (xs : List EndState) → end_found link side j es ≡ Some (i, f)
    → KeyedEnds set es xs → Found set link j i f xs
found_keyed set link side j i f [] xs e h = absurd cc
found_keyed set link side j i f (x ∷ es) [] e h =
    found_if set link side j i f x (end_found link side (j + 1) es) [] [] (end_is link side x) refl (λ o. absurd (true≢false (sym o))) (λ d. refl) e
    (λ g. found_keyed set link side (j + 1) i f es [] g (none_keyed set es))
found_keyed set link side j i f (x ∷ es) (y ∷ ys) e h =
    found_if set link side j i f x (end_found link side (j + 1) es) (y ∷ ys) ys (end_is link side x) refl h.0 (λ d. refl) e
    (λ g. found_keyed set link side (j + 1) i f es ys g h.1)

-- an end that is keyed anew
pub newly_keyed : (set : Setting) (link : ℕ) (side : Side) (j i : ℕ) (f : End) (es : List End) (xs : List EndState) (new : EndState) → end_found link side j es ≡ Some (i, f)
    → link_of new.field ≡ link → new.key ≡ field_key set new.field → KeyedEnds set es xs → (d : ℕ) × (i ≡ j + d) × KeyedEnds set es (with_end xs d new)
newly_keyed set link side j i f [] xs new e l k h = absurd cc
newly_keyed set link side j i f (x ∷ es) [] new e l k h = by (end_is link side x) e (λ e. newly_keyed set link side (j + 1) i f es [] new e l k (none_keyed set es))
  where
    by : (b : Bool) → cond {A = Option (ℕ × End)} b (Some (j, x)) (end_found link side (j + 1) es) ≡ Some (i, f)
        → (end_found link side (j + 1) es ≡ Some (i, f) → (d : ℕ) × (i ≡ j + 1 + d) × KeyedEnds set es (with_end [] d new)) → (d : ℕ) × (i ≡ j + d) × KeyedEnds set (x ∷ es) (with_end [] d new)
    by true e g = let pi = (pair_inj j i x f e).0 in (0, omega (arith, pi), tt)
    by false e g = let r = g e in let ri = r.1 in (suc r.0, omega (arith, ri), tt)
newly_keyed set link side j i f (x ∷ es) (y ∷ xs) new e l k h = by (end_is link side x) refl e (λ e. newly_keyed set link side (j + 1) i f es xs new e l k h.1)
  where
    by : (b : Bool) → end_is link side x ≡ b → cond {A = Option (ℕ × End)} b (Some (j, x)) (end_found link side (j + 1) es) ≡ Some (i, f)
        → (end_found link side (j + 1) es ≡ Some (i, f) → (d : ℕ) × (i ≡ j + 1 + d) × KeyedEnds set es (with_end xs d new)) → (d : ℕ) × (i ≡ j + d) × KeyedEnds set (x ∷ es) (with_end (y ∷ xs) d new)
    by true t e g =
        let pi = (pair_inj j i x f e).0 in
        (0, omega (arith, pi), ((λ o. (k, l ∙ sym (eqb-true x.link link (and_parts (x.link == link) _ t).0))), h.1))
    by false t e g = let r = g e in let ri = r.1 in (suc r.0, omega (arith, ri), (h.0, r.2))

index_take : (n i : ℕ) (xs : List ℕ) → i < n → slice_index (take n xs) i ≡ slice_index xs i
index_take zero i xs h = absurd (omega (arith, h))
index_take (suc n) i [] h = refl
index_take (suc n) zero (x ∷ xs) h = refl
index_take (suc n) (suc i) (x ∷ xs) h = index_take n i xs (omega (arith, h))

-- the header's field is the packet's
pub field_is : (packet : List ℕ) → link_in (header_in packet) + 256 * epoch_in (header_in packet) ≡ field_in packet
field_is packet = ap (λ (z : ℕ). z + 256 * slice_index (take 6 packet) 3) (index_take 6 2 packet (omega arith)) ∙ ap (λ (z : ℕ). slice_index packet 2 + 256 * z) (index_take 6 3 packet (omega arith))

module _ (set : Setting) (s : Setup) (call : Call) (p0 : Progress) where
  abbrev Ends : Progress → Type 0
  Ends p = KeyedEnds set s.ends p.state.ends

  kept : Kept s Ends
  kept = record {
    more_pieces = λ p new h. h;
    other_memory = λ p new h. h;
    other_cells = λ p new h. h;
    wraps = λ p v k e at side o h. same_keyed set s.ends p.state.ends k _ h;
    writes = λ p device v h. h;
  }

  -- where the marks' keys are right, the ends at the end are keyed
  abbrev pub Good : Invoked → Type 0
  Good (Returns status p) = AllMarks (KeyMark set) p.marks → KeyedEnds set s.ends p.state.ends
  Good (Violates v p) = Unit {0}

  finished_keeps : (x : Course) → Ends (come_to x) → Good (finished x)
  finished_keeps (Going p) h = λ m. h
  finished_keeps (Broken v p) h = tt

  back : (a b : List Mark) → AllMarks (KeyMark set) (a ++ b) → AllMarks (KeyMark set) b
  back [] b h = h
  back (x ∷ a) b h = back a b h.1

  module _ (start : KeyedEnds set s.ends p0.state.ends) where
    by_packet : (r : Result (List ℕ) Violation) (kind : ℕ) (rest : List ℕ → Invoked) → ((packet : List ℕ) → Good (rest packet)) → Good (received r kind rest p0)
    by_packet (Err v) kind rest f = tt
    by_packet (Ok packet) kind rest f = cond_both (is_kind kind packet) (rest packet) (Returns other_kind p0) Good (λ g. f packet) (λ g m. start)

    by_side : (packet : List ℕ) (o : Option Side) → (e : Option (ℕ × End)) → end_on (link_of (field_in packet)) s.ends o ≡ e → Good (set_key_at s packet e p0)
    by_side packet o None f = λ m. start
    by_side packet None (Some e) f = absurd (none-some e f)
    by_side packet (Some side) (Some e) f =
        let u = unwrapped s.mac s.section.key (header_in packet) (take key_size (drop header_size packet)) (drop key_tag_at packet) in
        cond_both (is_keyed (end_of p0.state.ends e.0) (field_in packet)) (Returns no_end p0) (key_opened e.0 packet u p0) Good (λ g m. start) (λ g. by_tag u)
      where
        by_tag : (u : Option (List ℕ)) → Good (key_opened e.0 packet u p0)
        by_tag None = λ m. start
        by_tag (Some body) = λ m.
            let key = (back p0.marks (mark.Unwrapped (header_in packet) (take key_size body) true ∷ []) m).0 in
            let new : EndState = record { is_open = true; field = field_in packet; number = 0; key = take key_size body } in
            let r = newly_keyed set (link_of (field_in packet)) side 0 e.0 e.1 s.ends p0.state.ends new f refl (key ∙ ap (field_key set) (field_is packet)) start in
            let ri = r.1 in
            subst (λ (d : ℕ). KeyedEnds set s.ends (with_end p0.state.ends d new)) (omega (arith, ri)) r.2

    by_event : (packet : List ℕ) → Good (input s call packet p0)
    by_event packet = by_end (end_found (link_of (field_in packet)) To 0 s.ends)
      where
        by_tag : (e : ℕ × End) (u : Option (List ℕ)) → Good (event_opened s call e packet u p0)
        by_tag e None = λ m. start
        by_tag e (Some body) =
            let q = number_taken e.0 packet (take value_size body) (end_of p0.state.ends e.0) p0 in
            finished_keeps (handled s call (event.Input e.1.port (word body 0)) q) (handler_keeps s call Ends kept (event.Input e.1.port (word body 0)) q (same_keyed set s.ends p0.state.ends e.0 _ start))

        by_number : (e : ℕ × End) → Good (event_numbered s call e packet (end_of p0.state.ends e.0) p0)
        by_number e =
            let state = end_of p0.state.ends e.0 in
            let u = unwrapped s.mac state.key (header_in packet) (take value_size (drop header_size packet)) (drop value_tag_at packet) in
            cond_both (nat_lt (second_in packet) state.number || (second_in packet == last_number)) (Returns past_number p0) (event_opened s call e packet u p0) Good (λ g m. start) (λ g. by_tag e u)

        by_end : (e : Option (ℕ × End)) → Good (input_at s call packet e p0)
        by_end None = λ m. start
        by_end (Some e) =
            let state = end_of p0.state.ends e.0 in
            cond_both (not state.is_open || not (epoch_of state.field == epoch_of (field_in packet))) (Returns no_end p0) (event_numbered s call e packet state p0) Good (λ g m. start) (λ g. by_number e)

    by_attest : (ask : List ℕ) → Good (attest s call ask p0)
    by_attest ask =
        let tag = (wrapped s.mac s.section.key ask []).tag in
        let q = record p0 { marks = p0.marks ++ mark.Wrapped ask [] true ∷ [] } in
        finished_keeps (with_piece s call tag q) (piece_keeps s call Ends kept tag q start)

    by_sample : Good (sample s call p0)
    by_sample = by_device (own_window s p0.devices)
      where
        by_device : (d : Option (ℕ × Window)) → Good (sample_of s call d p0)
        by_device None = λ m. start
        by_device (Some d) =
            let q = sample_read d p0 in
            cond_both d.1.fresh (finished (handled s call (event.Sample d.1.value) q)) (Returns no_sample p0) Good
            (λ g. finished_keeps (handled s call (event.Sample d.1.value) q) (handler_keeps s call Ends kept (event.Sample d.1.value) q start)) (λ g m. start)

    by_entries : Good (entered s call p0)
    unfolding entered
    by_entries =
        let x3 = sample s call p0 in
        let x2 = with_received s call event_size event_kind p0 (λ packet. input s call packet p0) in
        let x1 = with_received s call ask_size ask_kind p0 (λ packet. attest s call packet p0) in
        let x0 = with_received s call set_key_size set_key_kind p0 (λ packet. set_key s packet p0) in
        cond_both (call.entry == set_key_entry) x0 (if call.entry == attest_entry then x1 else if call.entry == input_entry then x2 else x3) Good
        (λ g. by_packet (read_bytes s p0.devices p0.mem call.input set_key_size) set_key_kind (λ packet. set_key s packet p0) (λ packet. by_side packet (side_of (second_in packet)) _ refl))
        (λ g. cond_both (call.entry == attest_entry) x1 (if call.entry == input_entry then x2 else x3) Good
        (λ g. by_packet (read_bytes s p0.devices p0.mem call.input ask_size) ask_kind (λ packet. attest s call packet p0) by_attest)
        (λ g. cond_both (call.entry == input_entry) x2 x3 Good
        (λ g. by_packet (read_bytes s p0.devices p0.mem call.input event_size) event_kind (λ packet. input s call packet p0) by_event)
        (λ g. by_sample)))

    -- an invocation keeps it
    pub invoke_keyed : Good (invoke s call p0)
    unfolding invoke
    invoke_keyed =
        cond_both (returns_inside s call) (Violates bad.Illegal p0) (if is_no_entry s call then Returns no_entry p0 else if has_bad_windows s call then Returns bad_window p0 else entered s call p0) Good
        (λ g. tt)
        (λ g. cond_both (is_no_entry s call) (Returns no_entry p0) (if has_bad_windows s call then Returns bad_window p0 else entered s call p0) Good (λ g m. start)
        (λ g. cond_both (has_bad_windows s call) (Returns bad_window p0) (entered s call p0) Good (λ g m. start) (λ g. by_entries)))
