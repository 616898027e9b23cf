-- An event packet is taken, and its handler runs.
use Rattle.std.proofs.Common.{◌≡◌, ℕ, ◌+◌, ◌*◌, ◌%◌, ◌/◌, ◌==◌, false, ◌||◌, not, [], ◌∷◌, ◌++◌, take, drop, nat_lt, refl, ap, ◌∙◌, arith}
use Rattle.std.proofs.lemmas.Bool.{cond-false, eq-eqb, le-ltb, ne_eqb}
use Rattle.sx_lang.specs.declared.sides.Side.TheVariants.{To}
use Rattle.sx_mean.specs.declared.events.SourceEvent.TheVariants as event
use Rattle.sx_tag.specs.Wrap.{wrapped, unwrapped, padded}
use Rattle.spec_invocation.specs.Protocol.{no_end, past_number, input_entry, event_kind, event_size, value_size, last_number}
use Rattle.spec_invocation.specs.ModuleState.{EndState, end_of, with_end, link_of, epoch_of}
use Rattle.spec_invocation.specs.Marks.{Unwrapped}
use Rattle.spec_invocation.specs.Windows.{two}
use Rattle.spec_invocation.specs.Progress.{Progress, Returns, finished}
use Rattle.spec_invocation.specs.Acts.{event_header, event_packet, handled}
use Rattle.spec_invocation.specs.Entries.{end_found, input, input_at, event_numbered, event_opened}
use Rattle.spec_invocation.specs.Invocation.{entered}
use Rattle.law_invocation.specs.Gives.{beginning, low_call, own_device}
use Rattle.law_invocation.specs.Laws.{InputReturns}
use Rattle.law_invocation.proofs.Making.{handler_makes}
use Rattle.law_invocation.proofs.Entering.{enters, receives}
use Rattle.law_invocation.proofs.Wraps.{unwraps}
use Rattle.lemmas.proofs.Numbers.{two_bytes}

pub input_returns : InputReturns
unfolding entered
input_returns su st mem devices k i v e low tag few found opened above below bytes =
    let p = beginning st mem devices in
    let c = low_call input_entry in
    let x = end_of st.ends k in
    let y : EndState = record x { number = i } in
    let header = event_header y in
    let w = wrapped su.mac x.key header (two v) in
    let packet = event_packet su y v in
    let field = two_bytes x.field in
    let number = two_bytes i in
    let f : ℕ = x.field % 256 + 256 * (x.field / 256) in
    let n : ℕ = i % 256 + 256 * (i / 256) in
    let body = padded (two v) in
    let read = unwrapped su.mac x.key header (take value_size (w.cipher ++ w.tag)) (drop value_size (w.cipher ++ w.tag)) in
    let taken : ℕ → Progress = λ j. record {
      state = record { cells = st.cells; ends = with_end st.ends k (record x { number = j + 1 }) };
      mem = mem;
      devices = devices;
      marks = Unwrapped header (two v) false ∷ [];
      pieces = [];
    } in
    let is_fine : (not x.is_open || not (epoch_of x.field == epoch_of f)) ≡ false =
    ap (λ b. not b || not (epoch_of x.field == epoch_of f)) opened ∙ ap (λ g. not (epoch_of x.field == epoch_of g)) field ∙ ap not (eq-eqb (epoch_of x.field) (epoch_of x.field) refl) in
    let is_next : (nat_lt n x.number || (n == last_number)) ≡ false =
    ap (λ j. nat_lt j x.number || (j == last_number)) number ∙ ap (λ b. b || (i == last_number)) (le-ltb i x.number above) ∙ ne_eqb i last_number (λ same. omega (arith, same, below)) in
    let made = handler_makes su devices low tag c (omega arith) (own_device su devices) refl few (event.Input e.port v) (taken i) refl refl in
    record {
      mem = made.mem;
      is = enters su p input_entry low refl
          ∙ receives su p input_entry event_size event_kind packet (λ z. input su c z p) low (omega arith) bytes refl
          ∙ ap (λ g. input_at su c packet (end_found (link_of g) To 0 su.ends) p) field
          ∙ ap (λ o. input_at su c packet o p) found
          ∙ cond-false _ (Returns no_end p) (event_numbered su c (k, e) packet x p) is_fine
          ∙ cond-false _ (Returns past_number p) (event_opened su c (k, e) packet read p) is_next
          ∙ ap (λ o. event_opened su c (k, e) packet o p) (unwraps su.mac x.key header (two v) value_size tag refl (omega arith))
          ∙ ap (λ u. finished (handled su c (event.Input e.port u) (taken n))) (two_bytes v)
          ∙ ap (λ j. finished (handled su c (event.Input e.port v) (taken j))) number
          ∙ ap finished made.is;
    }
