-- What the four entries give, each where its packet or its sensor is as it has to be. Each law
-- is the contract of a function in src/laws.rt.
use Rattle.std.specs.Prelude.{◌≡◌, ℕ, ◌+◌, ◌*◌, ◌<◌, ◌≤◌, true, false, List, [], ◌∷◌, ◌++◌, length}
use Rattle.std.specs.Prelude.{slice_get, Some}
use Rattle.sx_lang.specs.declared.sides.Side.{Side}
use Rattle.sx_lang.specs.declared.sides.Side.TheVariants.{To}
use Rattle.sx_mean.specs.declared.events.End.{End}
use Rattle.sx_mean.specs.declared.events.SourceEvent.TheVariants as event
use Rattle.sx_mean.specs.Application.{AppTree, PartTree, declared_kind}
use Rattle.sx_mean.specs.Validity.{is_valid}
use Rattle.sx_mean.specs.Ends.{ends_of}
use Rattle.sx_mean.specs.React.{react}
use Rattle.sx_bus.specs.declared.devices.Window.{Window}
use Rattle.sx_bus.specs.Devices.{cleared}
use Rattle.sx_tag.specs.Mac.{IsTag}
use Rattle.sx_tag.specs.Wrap.{wrapped}
use Rattle.spec_machine.specs.Memory.{bytes_from}
use Rattle.spec_invocation.specs.Protocol.{set_key_entry, attest_entry, input_entry, sample_entry}
use Rattle.spec_invocation.specs.Protocol.{set_key_kind, ask_kind, set_key_size, ask_size, event_size}
use Rattle.spec_invocation.specs.Protocol.{key_size, last_number}
use Rattle.spec_invocation.specs.Setup.{Setup}
use Rattle.spec_invocation.specs.ModuleState.{EndState, ModuleState, end_of, with_end, link_of}
use Rattle.spec_invocation.specs.Marks.{Wrapped, Unwrapped, Sampled}
use Rattle.spec_invocation.specs.Windows.{two}
use Rattle.spec_invocation.specs.Acts.{event_header, event_packet, own_window}
use Rattle.spec_invocation.specs.Entries.{end_found, is_kind, side_of}
use Rattle.spec_invocation.specs.Invocation.{is_sensor_driver}
use Rattle.law_invocation.specs.Effect.{acts_made, numbered, MakesFew}
use Rattle.law_invocation.specs.Gives.{low_input, IsLowFree, InvocationGives, beginning, own_device}

-- in a valid application no event makes more than 16 packets
abbrev pub FewMade : Type 0
FewMade =
    (app : AppTree) (m : ℕ) (q : PartTree) → is_valid app ≡ true → slice_get app.parts m ≡ Some q
    → MakesFew q.tree (ends_of app m)

-- attest: an ask in the in-window is answered by its tag
abbrev pub AttestReturns : Type 0
AttestReturns =
    (su : Setup) (st : ModuleState) (mem : List ℕ) (devices : List Window) (ask : List ℕ)
    → IsLowFree su devices → bytes_from mem low_input ask_size ≡ ask → is_kind ask_kind ask ≡ true
    → InvocationGives su attest_entry (beginning st mem devices) st devices
    (Wrapped ask [] true ∷ []) ((wrapped su.mac su.section.key ask []).tag ∷ [])

-- an end that was opened in this epoch of its connection with this key, and has sent or taken
-- nothing
abbrev pub opened : ℕ → ℕ → List ℕ → EndState
opened link epoch key =
    record { is_open = true; field = link + 256 * epoch; number = 0; key = key }

-- set-key: a set-key packet for the k-th end, which is closed, opens it
abbrev pub KeyReturns : Type 0
KeyReturns =
    (su : Setup) (st : ModuleState) (mem : List ℕ) (devices : List Window)
    (link epoch second k : ℕ) (side : Side) (e : End) (key : List ℕ)
    → IsLowFree su devices → IsTag su.mac → link < 256 → side_of second ≡ Some side
    → length key ≡ key_size → end_found link side 0 su.ends ≡ Some (k, e)
    → (end_of st.ends k).is_open ≡ false
    → let header = set_key_kind ∷ 0 ∷ link ∷ epoch ∷ second ∷ 0 ∷ [] in
    let packet = wrapped su.mac su.section.key header key in
    bytes_from mem low_input set_key_size ≡ header ++ packet.cipher ++ packet.tag
    → InvocationGives su set_key_entry (beginning st mem devices)
    (record { cells = st.cells; ends = with_end st.ends k (opened link epoch key) }) devices
    (Unwrapped header key true ∷ []) []

-- input: an event packet of the connection of the k-th end, which is open, under its key and with a
-- number i that isn't below the end's next, is taken, and the handler runs
abbrev pub InputReturns : Type 0
InputReturns =
    (su : Setup) (st : ModuleState) (mem : List ℕ) (devices : List Window) (k i v : ℕ) (e : End)
    → let x = end_of st.ends k in
    IsLowFree su devices → IsTag su.mac → MakesFew su.tree su.ends
    → end_found (link_of x.field) To 0 su.ends ≡ Some (k, e) → x.is_open ≡ true
    → x.number ≤ i → i < last_number
    → bytes_from mem low_input event_size ≡ event_packet su (numbered x i) v
    → let done = react su.tree (event.Input e.port v) st.cells in
    let ends = with_end st.ends k (numbered x (i + 1)) in
    let made = acts_made su (own_device su devices) done.acts ends in
    InvocationGives su input_entry (beginning st mem devices)
    (record { cells = done.cells; ends = made.ends }) devices
    (Unwrapped (event_header (numbered x i)) (two v) false ∷ made.marks) made.pieces

-- sample: the driver of a fresh sensor reads it, and the handler runs
abbrev pub SampleReturns : Type 0
SampleReturns =
    (su : Setup) (st : ModuleState) (mem : List ℕ) (devices : List Window) (k : ℕ) (window : Window)
    → IsLowFree su devices → IsTag su.mac → MakesFew su.tree su.ends
    → is_sensor_driver (declared_kind su.tree.decls) ≡ true
    → own_window su devices ≡ Some (k, window) → window.fresh ≡ true
    → let done = react su.tree (event.Sample window.value) st.cells in
    let made = acts_made su (Some k) done.acts st.ends in
    InvocationGives su sample_entry (beginning st mem devices)
    (record { cells = done.cells; ends = made.ends }) (cleared devices k)
    (Sampled k window.value ∷ made.marks) made.pieces
