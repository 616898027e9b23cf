-- Each way that an invocation can go, so that what holds at the end of each holds of the invocation.
use Rattle.std.proofs.Common.{◌≡◌, ℕ, Bool, true, false, ◌||◌, not, ◌==◌, List, take, drop, Option, Some, None, Result, Ok, Err, refl}
use Rattle.std.specs.Prelude.{if◌then◌else◌, nat_lt}
use Rattle.sx_lang.specs.declared.sides.Side.TheVariants.{To}
use Rattle.sx_mean.specs.declared.events.End.{End}
use Rattle.sx_mean.specs.declared.events.SourceEvent.TheVariants as event
use Rattle.sx_rules.specs.declared.access.Violation.{Violation}
use Rattle.sx_rules.specs.declared.access.Violation.TheVariants as bad
use Rattle.sx_bus.specs.declared.devices.Window.{Window}
use Rattle.sx_tag.specs.Wrap.{unwrapped}
use Rattle.spec_machine.specs.Memory.{word}
use Rattle.spec_invocation.specs.Protocol.{set_key_entry, attest_entry, input_entry, all_done, no_entry, bad_window, other_kind, no_end, past_number, other_tag, no_sample}
use Rattle.spec_invocation.specs.Protocol.{set_key_size, set_key_kind, ask_size, ask_kind, event_size, event_kind, header_size, key_size, key_tag_at, value_size, value_tag_at, last_number}
use Rattle.spec_invocation.specs.Setup.{Setup, Call}
use Rattle.spec_invocation.specs.ModuleState.{EndState, end_of, link_of, epoch_of}
use Rattle.spec_invocation.specs.Windows.{read_bytes}
use Rattle.spec_invocation.specs.Progress.{Progress, Invoked, Returns, Violates, finished}
use Rattle.spec_invocation.specs.Acts.{own_window, handled}
use Rattle.spec_invocation.specs.Invocation.{invoke, entered, returns_inside, is_no_entry, has_bad_windows}
use Rattle.spec_invocation.specs.Entries.{received, with_received, is_kind, set_key, set_key_at, key_opened, is_keyed, end_keyed, attest, input, input_at}
use Rattle.spec_invocation.specs.Entries.{event_numbered, event_opened, sample, sample_of, sample_read, number_taken, field_in, second_in, header_in, end_on}
use Rattle.spec_invocation.specs.Entries.{end_found, side_of}

-- what is to hold of each end of an invocation: one that has done nothing, and one of each entry, where the windows are good
pub record Ways (s : Setup) (call : Call) (p : Progress) (P : Invoked → Type 0) : Type 0 where
  pub refused : (status : ℕ) → P (Returns status p)
  pub violated : (v : Violation) → P (Violates v p)
  pub keyed : has_bad_windows s call ≡ false → (k : ℕ) (packet body : List ℕ) → P (Returns all_done (end_keyed k packet (take key_size body) p))
  pub attested : has_bad_windows s call ≡ false → (ask : List ℕ) → P (attest s call ask p)
  pub taken : has_bad_windows s call ≡ false → (e : ℕ × End) (packet body : List ℕ)
      → P (finished (handled s call (event.Input e.1.port (word body 0)) (number_taken e.0 packet (take value_size body) (end_of p.state.ends e.0) p)))
  pub sampled : has_bad_windows s call ≡ false → (d : ℕ × Window) → P (finished (handled s call (event.Sample d.1.value) (sample_read d p)))

module _ (s : Setup) (call : Call) (p : Progress) (P : Invoked → Type 0) (w : Ways s call p P) where
  either : (b : Bool) (x y : Invoked) → P x → P y → P (if b then x else y)
  either true x y a b = a
  either false x y a b = b

  by_packet : (r : Result (List ℕ) Violation) (kind : ℕ) (rest : List ℕ → Invoked) → ((packet : List ℕ) → P (rest packet)) → P (received r kind rest p)
  by_packet (Err v) kind rest f = w.violated v
  by_packet (Ok packet) kind rest f = either (is_kind kind packet) (rest packet) (Returns other_kind p) (f packet) (w.refused other_kind)

  module _ (good : has_bad_windows s call ≡ false) where
    by_key : (packet : List ℕ) → P (set_key s packet p)
    by_key packet = by_end (end_on (link_of (field_in packet)) s.ends (side_of (second_in packet)))
      where
        by_tag : (k : ℕ) (u : Option (List ℕ)) → P (key_opened k packet u p)
        by_tag k None = w.refused other_tag
        by_tag k (Some body) = w.keyed good k packet body

        by_end : (e : Option (ℕ × End)) → P (set_key_at s packet e p)
        by_end None = w.refused no_end
        by_end (Some e) =
            let u = unwrapped s.mac s.section.key (header_in packet) (take key_size (drop header_size packet)) (drop key_tag_at packet) in
            either (is_keyed (end_of p.state.ends e.0) (field_in packet)) (Returns no_end p) (key_opened e.0 packet u p) (w.refused no_end) (by_tag e.0 u)

    by_event : (packet : List ℕ) → P (input s call packet p)
    by_event packet = by_end (end_found (link_of (field_in packet)) To 0 s.ends)
      where
        by_tag : (e : ℕ × End) (u : Option (List ℕ)) → P (event_opened s call e packet u p)
        by_tag e None = w.refused other_tag
        by_tag e (Some body) = w.taken good e packet body

        by_number : (e : ℕ × End) (state : EndState) → P (event_numbered s call e packet state p)
        by_number e state =
            let u = unwrapped s.mac state.key (header_in packet) (take value_size (drop header_size packet)) (drop value_tag_at packet) in
            either (nat_lt (second_in packet) state.number || (second_in packet == last_number)) (Returns past_number p) (event_opened s call e packet u p) (w.refused past_number) (by_tag e u)

        by_end : (e : Option (ℕ × End)) → P (input_at s call packet e p)
        by_end None = w.refused no_end
        by_end (Some e) =
            let state = end_of p.state.ends e.0 in
            either (not state.is_open || not (epoch_of state.field == epoch_of (field_in packet))) (Returns no_end p) (event_numbered s call e packet state p) (w.refused no_end) (by_number e state)

    by_sample : P (sample s call p)
    by_sample = by_device (own_window s p.devices)
      where
        by_device : (d : Option (ℕ × Window)) → P (sample_of s call d p)
        by_device None = w.refused no_sample
        by_device (Some d) = either d.1.fresh (finished (handled s call (event.Sample d.1.value) (sample_read d p))) (Returns no_sample p) (w.sampled good d) (w.refused no_sample)

    by_entries : P (entered s call p)
    unfolding entered
    by_entries =
        let x3 = sample s call p in
        let x2 = with_received s call event_size event_kind p (λ packet. input s call packet p) in
        let x1 = with_received s call ask_size ask_kind p (λ packet. attest s call packet p) in
        let x0 = with_received s call set_key_size set_key_kind p (λ packet. set_key s packet p) in
        either (call.entry == set_key_entry) x0 (if call.entry == attest_entry then x1 else if call.entry == input_entry then x2 else x3)
        (by_packet (read_bytes s p.devices p.mem call.input set_key_size) set_key_kind (λ packet. set_key s packet p) by_key)
        (either (call.entry == attest_entry) x1 (if call.entry == input_entry then x2 else x3)
        (by_packet (read_bytes s p.devices p.mem call.input ask_size) ask_kind (λ packet. attest s call packet p) (w.attested good))
        (either (call.entry == input_entry) x2 x3
        (by_packet (read_bytes s p.devices p.mem call.input event_size) event_kind (λ packet. input s call packet p) by_event)
        by_sample))

  pub by_entry : P (invoke s call p)
  unfolding invoke
  by_entry =
      either (returns_inside s call) (Violates bad.Illegal p) (if is_no_entry s call then Returns no_entry p else if has_bad_windows s call then Returns bad_window p else entered s call p)
      (w.violated bad.Illegal)
      (either (is_no_entry s call) (Returns no_entry p) (if has_bad_windows s call then Returns bad_window p else entered s call p) (w.refused no_entry)
      (by_windows (has_bad_windows s call) by_entries))
    where
      by_windows : (b : Bool) → (b ≡ false → P (entered s call p)) → P (if b then Returns bad_window p else entered s call p)
      by_windows true f = w.refused bad_window
      by_windows false f = f refl
