-- What a call at one of the four entries does in a world, with its windows in low memory. Each law
-- is the contract of a function in src/laws.rt.
use Rattle.std.specs.Prelude.{◌≡◌, ℕ, ◌+◌, ◌*◌, ◌<◌, ◌≤◌, true, false, List, [], ◌∷◌, ◌++◌, length}
use Rattle.std.specs.Prelude.{map, Some}
use Rattle.sx_lang.specs.declared.sides.Side.{Side}
use Rattle.sx_lang.specs.declared.sides.Side.TheVariants.{To}
use Rattle.sx_lang.specs.Sizes.{module_cost}
use Rattle.sx_mean.specs.declared.events.End.{End}
use Rattle.sx_mean.specs.declared.events.Act.{Act}
use Rattle.sx_mean.specs.declared.events.Act.TheVariants.{Send, Emit}
use Rattle.sx_mean.specs.declared.events.SourceEvent.TheVariants as event
use Rattle.sx_mean.specs.Application.{declared_kind}
use Rattle.sx_mean.specs.Ends.{ends_of}
use Rattle.sx_mean.specs.React.{react}
use Rattle.sx_trace.specs.declared.items.Item.{Item}
use Rattle.sx_trace.specs.declared.items.Item.TheVariants as item
use Rattle.sx_ledger.specs.declared.entry.Maker.TheVariants as maker
use Rattle.sx_ledger.specs.Made.{Made, NO_TARGET}
use Rattle.sx_bus.specs.declared.devices.Window.{Window}
use Rattle.sx_tag.specs.Mac.{IsTag}
use Rattle.sx_tag.specs.Wrap.{wrapped}
use Rattle.spec_machine.specs.Memory.{bytes_from}
use Rattle.spec_machine.specs.State.{State}
use Rattle.spec_invocation.specs.Protocol.{set_key_entry, attest_entry, input_entry, sample_entry}
use Rattle.spec_invocation.specs.Protocol.{set_key_size, ask_size, event_size, key_size, last_number}
use Rattle.spec_invocation.specs.Protocol.{all_done}
use Rattle.spec_invocation.specs.Setup.{Setup}
use Rattle.spec_invocation.specs.ModuleState.{ModuleState, end_of, with_end, link_of, epoch_of}
use Rattle.spec_invocation.specs.Marks.{Mark, Wrapped, Unwrapped, Sampled, Actuated}
use Rattle.spec_invocation.specs.Windows.{two}
use Rattle.spec_invocation.specs.Acts.{event_header, event_packet, own_window}
use Rattle.spec_invocation.specs.Entries.{end_found}
use Rattle.spec_invocation.specs.Invocation.{is_sensor_driver}
use Rattle.law_invocation.specs.Effect.{MakesFew, acts_made, numbered}
use Rattle.law_invocation.specs.Gives.{low_input, IsLowFree, InvocationGives, beginning, own_device}
use Rattle.law_invocation.specs.Gives.{low_output, low_call}
use Rattle.law_invocation.specs.Laws.{opened}
use Rattle.spec_run.specs.Setting.{Setting}
use Rattle.sx_wire.specs.Headers.{is_ask, challenge_in, set_key_header}
use Rattle.sx_deployer.specs.Granting.{side_number}
use Rattle.spec_run.specs.Ledger.{made_entry, is_made}
use Rattle.spec_run.specs.Observation.{sender_of}
use Rattle.spec_run.specs.State.{World}
use Rattle.spec_run.specs.Acts.{with_node}
use Rattle.spec_run.specs.Run.{call}
use Rattle.spec_run.specs.Law.{IsSoundSetting, IsLawfulSetting}
use Rattle.law_calls.specs.Calls.{Callee, IsCallable, setup_of, state_at, IsReturned}

-- the values that acts put out
abbrev pub emitted : List Act → List ℕ
emitted [] = []
emitted (Send output v ∷ acts) = emitted acts
emitted (Emit v ∷ acts) = v ∷ emitted acts

-- the ledger's entries of the event packets among marks of the m-th module
abbrev pub entries_of : ℕ → List Mark → List Made
entries_of m [] = []
entries_of m (Wrapped header body own ∷ marks) =
    made_entry (maker.Module m) NO_TARGET 0 header body ∷ entries_of m marks
entries_of m (Unwrapped header body own ∷ marks) = entries_of m marks
entries_of m (Sampled k v ∷ marks) = entries_of m marks
entries_of m (Actuated k v ∷ marks) = entries_of m marks

-- what a call leaves and shows: the module's state, the marks and pieces of its invocation, the
-- items before `done`, and the entries that the ledger gains
pub record CallEffect : Type 0 where
  pub state : ModuleState
  pub marks : List Mark
  pub pieces : List (List ℕ)
  pub items : List Item
  pub entries : List Made

-- the call at this entry returns with all done, and leaves and shows this, and then `done`
pub record CallDoes (set : Setting) (w : World) (c : Callee) (e : ℕ) (effect : CallEffect)
    : Type 0 where
  pub mem : List ℕ
  pub devices : List Window
  pub after : State
  pub returned : IsReturned set c (low_call e) all_done (record {
    state = effect.state;
    mem = mem;
    devices = devices;
    marks = effect.marks;
    pieces = effect.pieces;
  }) after
  pub steps : ℕ
  pub few : steps ≤ 4096 + module_cost c.part.tree
  pub is : call set w e low_input low_output (Some c.site)
      ≡ record {
        world = with_node w c.site.node after (w.ledger ++ effect.entries) (w.steps + steps);
        items = effect.items ++ item.Done c.number all_done (length effect.pieces) ∷ [];
      }

-- a set-key packet of the deployer, with its header, for an end that is closed opens it
abbrev pub SetKeyReturns : Type 0
SetKeyReturns =
    (su : Setup) (st : ModuleState) (mem : List ℕ) (devices : List Window)
    (link epoch k : ℕ) (side : Side) (e : End) (key : List ℕ)
    → IsLowFree su devices → IsTag su.mac → link < 256 → length key ≡ key_size
    → end_found link side 0 su.ends ≡ Some (k, e) → (end_of st.ends k).is_open ≡ false
    → let header = set_key_header link epoch (side_number side) in
    let packet = wrapped su.mac su.section.key header key in
    bytes_from mem low_input set_key_size ≡ header ++ packet.cipher ++ packet.tag
    → InvocationGives su set_key_entry (beginning st mem devices)
    (record { cells = st.cells; ends = with_end st.ends k (opened link epoch key) }) devices
    (Unwrapped header key true ∷ []) []

-- attest: an ask is answered, and the module vouches for its challenge
abbrev pub AttestCalled : Type 0
AttestCalled =
    (set : Setting) (w : World) (c : Callee) (ask : List ℕ)
    → IsSoundSetting set → IsCallable set w c → IsLowFree (setup_of set c) c.node.devices
    → bytes_from c.node.mem low_input ask_size ≡ ask → is_ask ask ≡ true
    → CallDoes set w c attest_entry (record {
      state = state_at set c;
      marks = Wrapped ask [] true ∷ [];
      pieces = (wrapped set.mac c.section.key ask []).tag ∷ [];
      items = item.Vouch c.number (challenge_in ask) ∷ [];
      entries = made_entry (maker.Module c.number) NO_TARGET c.node.boot ask [] ∷ [];
    })

-- set-key: a set-key packet that the deployer made, for an end that is closed, opens it
abbrev pub KeyCalled : Type 0
KeyCalled =
    (set : Setting) (w : World) (c : Callee) (link epoch k : ℕ) (side : Side) (e : End)
    (key : List ℕ)
    → IsLawfulSetting set → IsCallable set w c → IsLowFree (setup_of set c) c.node.devices
    → link < 256 → length key ≡ key_size
    → end_found link side 0 (ends_of set.app c.number) ≡ Some (k, e)
    → let st = state_at set c in
    let header = set_key_header link epoch (side_number side) in
    let packet = wrapped set.mac c.section.key header key in
    (end_of st.ends k).is_open ≡ false
    → bytes_from c.node.mem low_input set_key_size ≡ header ++ packet.cipher ++ packet.tag
    → is_made w.ledger (made_entry maker.Deployer c.number c.node.boot header key) ≡ true
    → CallDoes set w c set_key_entry (record {
      state = record { cells = st.cells; ends = with_end st.ends k (opened link epoch key) };
      marks = Unwrapped header key true ∷ [];
      pieces = [];
      items = item.Open c.number link side epoch ∷ [];
      entries = [];
    })

-- input: an event packet that its sender made, with a number i that isn't below the next, is taken,
-- and its handler runs
abbrev pub InputCalled : Type 0
InputCalled =
    (set : Setting) (w : World) (c : Callee) (k i v : ℕ) (e : End)
    → let su = setup_of set c in
    let st = state_at set c in
    let x = end_of st.ends k in
    let link = link_of x.field in
    let header = event_header (numbered x i) in
    IsLawfulSetting set → IsCallable set w c → IsLowFree su c.node.devices
    → MakesFew c.part.tree (ends_of set.app c.number)
    → end_found link To 0 (ends_of set.app c.number) ≡ Some (k, e) → x.is_open ≡ true
    → x.number ≤ i → i < last_number
    → bytes_from c.node.mem low_input event_size ≡ event_packet su (numbered x i) v
    → is_made w.ledger (made_entry (maker.Module (sender_of set.app link)) NO_TARGET 0 header
    (two v)) ≡ true
    → let done = react c.part.tree (event.Input e.port v) st.cells in
    let ends = with_end st.ends k (numbered x (i + 1)) in
    let made = acts_made su (own_device su c.node.devices) done.acts ends in
    CallDoes set w c input_entry (record {
      state = record { cells = done.cells; ends = made.ends };
      marks = Unwrapped header (two v) false ∷ made.marks;
      pieces = made.pieces;
      items = item.Take c.number link (65536 * epoch_of x.field + i) v
          ∷ map (λ u. item.Out c.number u) (emitted done.acts);
      entries = entries_of c.number made.marks;
    })

-- sample: the driver of a fresh sensor reads it, and its handler runs
abbrev pub SampleCalled : Type 0
SampleCalled =
    (set : Setting) (w : World) (c : Callee) (k : ℕ) (window : Window)
    → let su = setup_of set c in
    let st = state_at set c in
    IsLawfulSetting set → IsCallable set w c → IsLowFree su c.node.devices
    → MakesFew c.part.tree (ends_of set.app c.number)
    → is_sensor_driver (declared_kind c.part.tree.decls) ≡ true
    → own_window su c.node.devices ≡ Some (k, window) → window.fresh ≡ true
    → let done = react c.part.tree (event.Sample window.value) st.cells in
    let made = acts_made su (Some k) done.acts st.ends in
    CallDoes set w c sample_entry (record {
      state = record { cells = done.cells; ends = made.ends };
      marks = Sampled k window.value ∷ made.marks;
      pieces = made.pieces;
      items = item.Read c.number window.value
          ∷ map (λ u. item.Out c.number u) (emitted done.acts);
      entries = entries_of c.number made.marks;
    })
