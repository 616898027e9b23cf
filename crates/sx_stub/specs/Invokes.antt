-- What it means that stack code does an invocation.
use Rattle.std.specs.Prelude.{◌≡◌, ℕ, ◌+◌, ◌<◌, ◌≤◌, false, List, [], length, All, slice_get, Some}
use Rattle.std.specs.Prelude.{None}
use Rattle.sx_lang.specs.Sizes.{module_data_size}
use Rattle.sx_mean.specs.declared.events.SourceEvent.{SourceEvent}
use Rattle.sx_mean.specs.Application.{declared_kind}
use Rattle.sx_mean.specs.React.{value_of}
use Rattle.sx_mean.specs.Working.{event_at}
use Rattle.sx_mean.specs.Handlers.{number_of}
use Rattle.sx_rules.specs.declared.access.Violation.{Violation}
use Rattle.sx_bus.specs.Devices.{HaveSamples}
use Rattle.sx_tag.specs.Mac.{IsTag}
use Rattle.spec_machine.specs.Memory.{word}
use Rattle.spec_invocation.specs.Protocol.{entry_register, input_register, output_register}
use Rattle.spec_invocation.specs.Protocol.{back_register}
use Rattle.spec_invocation.specs.ModuleState.{state_of}
use Rattle.spec_invocation.specs.Marks.{Mark}
use Rattle.spec_invocation.specs.Setup.{Setup, Call}
use Rattle.spec_invocation.specs.Windows.{is_bad_window, out_window_size}
use Rattle.spec_invocation.specs.Progress.{Progress, Invoked, Returns, Violates}
use Rattle.spec_invocation.specs.Acts.{handled}
use Rattle.spec_invocation.specs.Invocation.{invoke}
use Rattle.spec_invocation.specs.Devices.{HasDevices}
use Rattle.sx_ir.specs.declared.ir.Ir.{Ir}
use Rattle.sx_ir.specs.declared.ir.Ir.TheVariants as ir
use Rattle.sx_ir.specs.Conf.{Conf}
use Rattle.sx_ir.specs.Meaning.{OperationResult, saved, CodeReaches, Leaving, has_key_mark}
use Rattle.sx_ir.specs.Invoking.{DoesCourse}
use Rattle.sx_stub.specs.Stub.{stub_code}

-- the configuration stands for this progress of this call, but for the count of pieces
pub record ShowsCall (s : Setup) (call : Call) (p : Progress) (c : Conf) : Type 0 where
  pub size : length c.priv ≡ module_data_size s.tree (length s.ends)
  pub bytes : All (λ b. b < 256) c.priv
  pub state : state_of s.tree s.ends c.priv ≡ p.state
  pub mem : c.mem ≡ p.mem
  pub devices : c.devices ≡ p.devices
  pub marks : c.marks ≡ p.marks
  pub entry : saved c entry_register ≡ call.entry
  pub input : saved c input_register ≡ call.input
  pub output : saved c output_register ≡ call.output
  pub back : saved c back_register ≡ call.back

-- A call begins: nothing of it is done yet, and this is true of the module and the node.
pub record CallBegun (s : Setup) (call : Call) (p : Progress) (c : Conf) : Type 0 where
  pub shows : ShowsCall s call p c
  pub pieces : p.pieces ≡ []
  pub unmarked : p.marks ≡ []
  pub back : c.back ≡ None
  pub mem : All (λ b. b < 256) p.mem
  pub tag : IsTag s.mac
  pub few : length s.ends ≤ 16
  pub links : All (λ e. e.link < 256) s.ends
  pub devices : HasDevices p.devices (declared_kind s.tree.decls) s.section.layout
  pub samples : HaveSamples p.devices

-- it ends with this violation, after these marks
abbrev pub EndsSo : Invoked → Violation → List Mark → Type 0
EndsSo (Returns status p) v marks = ⊥
EndsSo (Violates w p) v marks = (w ≡ v) × (p.marks ≡ marks)

-- it returns, with this
abbrev pub ReturnsSo : Invoked → (ℕ → Progress → Type 0) → Type 0
ReturnsSo (Returns status p) Q = Q status p
ReturnsSo (Violates v p) Q = ⊥

-- it comes to `Leave`, with the invocation's status and number of pieces, and shows its progress
abbrev pub LeavesSo : Setup → Call → List Ir → Invoked → Conf → Type 0
LeavesSo s call code result c =
    ReturnsSo result (λ status p. ShowsCall s call p c × Leaving code status (length p.pieces) c)

-- The code does this invocation within this many instructions: where the invocation returns, the
-- code comes to `Leave` so; else the code ends with its violation, after its marks.
abbrev pub Invokes : Setup → Call → (ℕ → Conf → OperationResult) → (ℕ → ℕ) → List Ir
    → Invoked → ℕ → Conf → Type 0
Invokes s call handle given code result n c =
    CodeReaches s handle given code (EndsSo result) (LeavesSo s call code result) n c

-- Where the operation `Handler` may be: the event's value is in its place, no piece was made and
-- no key unwrapped, the stack is empty, the out-window is one that a caller may give, and the
-- module's devices are there.
pub record Ready (s : Setup) (call : Call) (e : SourceEvent) (p : Progress) (c : Conf) : Type
    0 where
  pub shows : ShowsCall s call p c
  pub value : word c.priv event_at ≡ value_of e
  pub pieces : p.pieces ≡ []
  pub unkeyed : has_key_mark c.marks ≡ false
  pub stack : c.stack ≡ []
  pub back : c.back ≡ None
  pub window : is_bad_window s call.output out_window_size ≡ false
  pub devices : HasDevices p.devices (declared_kind s.tree.decls) s.section.layout

-- the run is at the next place, its stack is empty, and it is in no handler's part
abbrev pub IsBehind : Conf → Conf → Type 0
IsBehind c t = (t.place ≡ c.place + 1) × (t.stack ≡ []) × (t.back ≡ None)

-- the operation `Handler h` does the handler of the event, and goes on to the next place
abbrev pub HandlerDoes : Setup → (ℕ → Conf → OperationResult) → (ℕ → ℕ) → List Ir
    → ℕ → SourceEvent → ℕ → Type 0
HandlerDoes s handle given code h e n =
    (call : Call) (p : Progress) (c : Conf)
    → slice_get code c.place ≡ Some (ir.Handler h) → Ready s call e p c
    → DoesCourse s call handle given code (handled s call e p) (IsBehind c) n c

-- each `Handler` does the handler of its event, within this count
abbrev pub HandlersDo : Setup → (ℕ → Conf → OperationResult) → (ℕ → ℕ) → List Ir → ℕ → Type 0
HandlersDo s handle given code n =
    (e : SourceEvent) (h : ℕ) → number_of s.tree e ≡ Some h
    → HandlerDoes s handle given code h e n

-- the first operations of the code are these
abbrev pub StartsWith : List Ir → List Ir → Type 0
StartsWith code ops = (i : ℕ) → i < length ops → slice_get code i ≡ slice_get ops i

-- the most instructions that the stub takes beside a handler
abbrev pub stub_count : ℕ
stub_count = 3300

-- The stub does an invocation: in any code whose first operations are the stub's, and in which each
-- `Handler` does the handler of its event.
abbrev pub StubInvokes : Type 0
StubInvokes =
    (s : Setup) (call : Call) (p : Progress) (handle : ℕ → Conf → OperationResult) (given : ℕ → ℕ)
    (code : List Ir) (c : Conf) (cost : ℕ)
    → CallBegun s call p c → c.place ≡ 0 → c.stack ≡ []
    → StartsWith code (stub_code s.tree s.ends) → HandlersDo s handle given code cost
    → Invokes s call handle given code (invoke s call p) (stub_count + cost) c
