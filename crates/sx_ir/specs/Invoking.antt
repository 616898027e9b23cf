-- How configurations of stack code stand for an invocation's progress.
use Rattle.std.specs.Prelude.{◌≡◌, ℕ, ◌<◌, false, List, [], length, All, slice_get, Some}
use Rattle.sx_lang.specs.Sizes.{module_data_size}
use Rattle.sx_mean.specs.declared.events.SourceEvent.{SourceEvent}
use Rattle.sx_mean.specs.Application.{declared_kind}
use Rattle.sx_mean.specs.React.{value_of}
use Rattle.sx_rules.specs.declared.access.Violation.{Violation}
use Rattle.spec_machine.specs.Memory.{word}
use Rattle.sx_mean.specs.Working.{event_at}
use Rattle.spec_invocation.specs.Protocol.{entry_register, input_register, output_register}
use Rattle.spec_invocation.specs.Protocol.{back_register}
use Rattle.spec_invocation.specs.ModuleState.{state_of}
use Rattle.spec_invocation.specs.Marks.{Mark}
use Rattle.spec_invocation.specs.Setup.{Setup, Call}
use Rattle.spec_invocation.specs.Windows.{out_window_size, is_bad_window}
use Rattle.spec_invocation.specs.Devices.{HasDevices}
use Rattle.spec_invocation.specs.Progress.{Progress, Course, Going, Broken}
use Rattle.spec_invocation.specs.Acts.{handled}
use Rattle.sx_ir.specs.declared.ir.Ir.{Ir}
use Rattle.sx_ir.specs.declared.ir.Ir.TheVariants as ir
use Rattle.sx_ir.specs.Conf.{Conf}
use Rattle.sx_ir.specs.Meaning.{OperationResult, saved, pieces, CodeReaches, has_key_mark}

-- the configuration stands for this progress of this call
pub record Represents (s : Setup) (call : Call) (p : Progress) (c : Conf) : Type 0 where
  pub size : length c.priv ≡ module_data_size s.tree (length s.ends)
  pub bytes : All (λ b. b < 256) c.priv
  pub state : state_of s.tree s.ends c.priv ≡ p.state
  pub mem : c.mem ≡ p.mem
  pub devices : c.devices ≡ p.devices
  pub marks : c.marks ≡ p.marks
  pub count : pieces c ≡ length p.pieces
  pub entry : saved c entry_register ≡ call.entry
  pub input : saved c input_register ≡ call.input
  pub output : saved c output_register ≡ call.output
  pub back : saved c back_register ≡ call.back

-- the course breaks with this violation, after these marks
abbrev pub CourseBreaks : Course → Violation → List Mark → Type 0
CourseBreaks (Going p) v marks = ⊥
CourseBreaks (Broken w p) v marks = (w ≡ v) × (p.marks ≡ marks)

-- the course goes on, with this
abbrev pub CourseGoesOn : Course → (Progress → Type 0) → Type 0
CourseGoesOn (Going p) Q = Q p
CourseGoesOn (Broken v p) Q = ⊥

-- The code does this course within this many instructions: where it goes on, it comes to a
-- configuration that stands for it and of which `at` holds; where it breaks, it ends with that
-- violation, after the course's marks.
abbrev pub DoesCourse : Setup → Call → (ℕ → Conf → OperationResult) → (ℕ → ℕ) → List Ir → Course
    → (Conf → Type 0) → ℕ → Conf → Type 0
DoesCourse s call handle given code course at n c =
    CodeReaches s handle given code (CourseBreaks course)
    (λ t. CourseGoesOn course (λ p. Represents s call p t × at t)) n c

-- where a handler may begin: the event's value is in its place, no piece was made and no key
-- unwrapped, the stack is empty, the out-window is one that a caller may give, and the module's
-- devices are there
pub record HandlerBegins (s : Setup) (call : Call) (e : SourceEvent) (p : Progress)
    (c : Conf) : Type 0 where
  pub represents : Represents s call p c
  pub value : word c.priv event_at ≡ value_of e
  pub pieces : p.pieces ≡ []
  pub unkeyed : has_key_mark c.marks ≡ false
  pub stack : c.stack ≡ []
  pub window : is_bad_window s call.output out_window_size ≡ false
  pub devices : HasDevices p.devices (declared_kind s.tree.decls) s.section.layout

-- a handler's part from this place on, up to `Stop`, does the handler of this event
abbrev pub PartDoes : Setup → (ℕ → Conf → OperationResult) → (ℕ → ℕ) → List Ir → ℕ → SourceEvent → ℕ
    → Type 0
PartDoes s handle given code place e n =
    (call : Call) (p : Progress) (c : Conf) → c.place ≡ place → HandlerBegins s call e p c →
    DoesCourse s call handle given code (handled s call e p)
    (λ t. (slice_get code t.place ≡ Some ir.Stop) × (t.stack ≡ []) × (t.back ≡ c.back)) n c
