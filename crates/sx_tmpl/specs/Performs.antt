-- What it means that instructions do what stack code does.
use Rattle.std.specs.Prelude.{◌≡◌, ℕ, ◌+◌, ◌%◌, ◌≤◌, ◌<◌, ◌⊎◌, true, false, List, [], ◌++◌, length}
use Rattle.std.specs.Prelude.{slice_index, slice_get, Option, Some, None}
use Rattle.sx_lang.specs.Tree.{ModuleTree}
use Rattle.sx_mean.specs.declared.events.End.{End}
use Rattle.sx_mean.specs.Working.{scratch_at, stack_words, stack_to}
use Rattle.sx_rules.specs.declared.access.Violation.{Violation}
use Rattle.sx_rules.specs.declared.section.Layout.{Layout}
use Rattle.sx_rules.specs.declared.section.Section.{Section}
use Rattle.sx_rules.specs.Access.{in_private, in_public}
use Rattle.sx_bus.specs.Devices.{HaveSamples}
use Rattle.sx_tag.specs.Mac.{Mac}
use Rattle.spec_machine.specs.declared.kinds.Event.TheVariants as event
use Rattle.spec_machine.specs.Memory.{even, put_word}
use Rattle.spec_machine.specs.State.{State}
use Rattle.sx_image.specs.Reach.{Comes, Goes, Stops}
use Rattle.spec_invocation.specs.Protocol.{output_register}
use Rattle.spec_invocation.specs.Marks.{HasPrefix, Mark}
use Rattle.spec_invocation.specs.Pieces.{made_bytes}
use Rattle.spec_invocation.specs.Setup.{Call, Setup}
use Rattle.spec_invocation.specs.Progress.{Invoked, bytes_in, marks_in, pieces_in}
use Rattle.sx_image.specs.Watched.{Watched, watch}
use Rattle.sx_image.specs.Image.{Enters, Image, call_at, private_bytes, setup_at}
use Rattle.sx_image.specs.Realizes.{Underway, begins, exit_registers}
use Rattle.sx_ir.specs.Conf.{Conf, Violates}
use Rattle.sx_ir.specs.declared.ir.Code.{Code}
use Rattle.sx_ir.specs.declared.ir.Ir.{Ir}
use Rattle.sx_ir.specs.declared.ir.Ir.TheVariants as ir
use Rattle.sx_ir.specs.Meaning.{has_key_mark, Leaving, no_count, op_count, op_step, part_from}
use Rattle.sx_ir.specs.Meaning.{saved}
use Rattle.sx_tmpl.specs.Shows.{Stood}
use Rattle.sx_tmpl.specs.Running.{fixed_at}
use Rattle.sx_tmpl.specs.Text.{addresses}
use Rattle.sx_tmpl.specs.Unseen.{SameSlots, StepShowsNone}

-- the node comes from here to Q, or is reset with B, within this many instructions, and each moment
-- before is one of the invocation whose step shows no key
abbrev pub NodeRuns : Setup → Invoked → State → (Watched → Violation → Type 0) → (Watched → Type 0)
    → ℕ → Watched → Type 0
NodeRuns s result before B Q n w =
    Comes Watched Violation (watch s.mac) (λ w. 1)
    (λ w. Underway s result before w × StepShowsNone s before.mem w) B Q n w

-- an operation that doesn't break has no violation
abbrev pub Never : Watched → Violation → Type 0
Never w v = ⊥

-- a violation with the marks until then
abbrev pub With : Violation → List Mark → Watched → Violation → Type 0
With v marks w u = (u ≡ v) × (w.marks ≡ marks)

-- the configuration with which a call begins: the caller's R12 to R15 are in their places
abbrev pub entry_conf : Layout → State → Conf
entry_conf l n = record {
  place = 0;
  stack = [];
  priv = put_word (put_word (put_word (put_word (private_bytes l n.mem) 6 (slice_index n.regs 12)) 8
      (slice_index n.regs 13)) 10 (slice_index n.regs 14)) 12 (slice_index n.regs 15);
  mem = n.mem;
  devices = n.devices;
  marks = [];
  back = None;
}

-- a place to return to is after an operation
abbrev pub ReturnsBehind : List Ir → Option ℕ → Type 0
ReturnsBehind ops None = Unit {0}
ReturnsBehind ops (Some p) = (q : ℕ) × (i : Ir) × (p ≡ q + 1) × (slice_get ops q ≡ Some i)

-- What holds of a configuration in a run for this call whose marks are `all`: the out-window is the
-- caller's, the marks so far are a prefix, the stack has room for return addresses, a sensor's
-- value is one, and slots are as in this private section until a key is unwrapped.
pub record IsRegular (ends : ℕ) (first : List ℕ) (ops : List Ir) (call : Call) (all : List Mark)
    (c : Conf) : Type 0 where
  pub window : saved c output_register ≡ call.output
  pub marks : HasPrefix all c.marks
  pub room : length c.stack ≤ stack_words
  pub back : ReturnsBehind ops c.back
  pub samples : HaveSamples c.devices
  pub slots : (has_key_mark c.marks ≡ true) ⊎ SameSlots ends first c.priv

-- an offset whose byte counts: beside the device word, the stack's place and what only templates
-- use
abbrev pub Counts : ℕ → Type 0
Counts o = (2 ≤ o) × ((o < scratch_at) ⊎ (stack_to ≤ o))

-- the node left by `Leave`, from a configuration
pub record LeftFrom (s : Setup) (before : State) (status count : ℕ) (t : Conf) (w : Watched) : Type
    0 where
  pub left : w.event ≡ event.Left s.section.id
  pub idle : w.node.cur ≡ 0
  pub registers : w.node.regs ≡ exit_registers before status count
  pub bytes : (o : ℕ) → Counts o → o < length t.priv
      → slice_index w.node.mem (s.section.layout.priv_from + o) ≡ slice_index t.priv o
  pub outside : (at : ℕ) → in_private s.section at ≡ false
      → slice_index w.node.mem at ≡ slice_index t.mem at
  pub sections : w.node.sections ≡ before.sections
  pub marks : w.marks ≡ t.marks

-- The node does the code, where `StandsFor` says that it stands for a configuration: from the entry
-- it comes to the first one; from one whose operation goes on, to the next one, within the
-- template's count; where the operation breaks, to its violation, after its marks; and from `Leave`
-- to the return.
pub record Performs (s : Setup) (code : Code) (before : State) (result : Invoked) (StandsFor : Conf
    → Watched → Type 0) : Type 0 where
  pub enters : NodeRuns s result before Never (StandsFor (entry_conf s.section.layout before)) 6
      (begins before)
  pub goes : (c t : Conf) (w : Watched) → StandsFor c w
      → IsRegular (length s.ends) (private_bytes s.section.layout before.mem) code.ops.items
      (call_at before) (marks_in result) c
      → HasPrefix (marks_in result) t.marks
      → op_step s (part_from code.parts.items) code.ops.items c ≡ Goes t
      → NodeRuns s result before Never (StandsFor t) (op_count no_count code.ops.items c) w
  pub stops : (c : Conf) (v : Violation) (marks : List Mark) (w : Watched) → StandsFor c w
      → IsRegular (length s.ends) (private_bytes s.section.layout before.mem) code.ops.items
      (call_at before) (marks_in result) c
      → HasPrefix (marks_in result) marks
      → op_step s (part_from code.parts.items) code.ops.items c ≡ Stops (Violates v marks)
      → NodeRuns s result before (With v marks) (λ w. ⊥) (op_count no_count code.ops.items c) w
  pub leaves : (t : Conf) (w : Watched) (status count : ℕ) → StandsFor t w
      → HasPrefix (marks_in result) t.marks → Leaving code.ops.items status count t
      → saved t 15 ≡ (call_at before).back → in_public s.section (even (call_at before).back)
      ≡ false → NodeRuns s result before Never (LeftFrom s before status count t) 16 w

-- sections at even addresses, the private one with the places that are named
pub record HasRoom (l : Layout) : Type 0 where
  pub public_even : l.pub_from % 2 ≡ 0
  pub public_end : l.pub_to % 2 ≡ 0
  pub private_even : l.priv_from % 2 ≡ 0
  pub private_size : l.priv_from + stack_to ≤ l.priv_to
  pub public_below : l.pub_to < 65536
  pub private_below : l.priv_to < 65536

-- operands have the width that operations give them: a word, and a byte for an end
abbrev pub IsNarrow : Ir → Type 0
IsNarrow (ir.Push n) = n < 65536
IsNarrow (ir.JumpEqual o n q) = n < 65536
IsNarrow (ir.Packet k) = k < 256
IsNarrow (ir.Meets r n) = n < 65536
IsNarrow i = Unit {0}

-- so do those of a code's operations
abbrev pub AreNarrow : List Ir → Type 0
AreNarrow ops = (p : ℕ) (i : Ir) → slice_get ops p ≡ Some i → IsNarrow i

-- A text does sound code: wherever an image begins with the text and a call enters the module, the
-- node does the code, for every end of the invocation whose pieces are those that its marks make.
abbrev pub DoesCode : Mac → Code → Layout → List ℕ → Type 0
DoesCode mac code l text =
    (tree : ModuleTree) (ends : List End) (image : Image) (section : Section) (n : State)
    (result : Invoked) (rest : List ℕ) → image.layout ≡ l → image.text ≡ text ++ rest
    → AreNarrow code.ops.items → Enters tree image section n
    → bytes_in (pieces_in result) ≡ made_bytes (marks_in result)
    → (let s = setup_at mac tree ends section n in
    Performs s code n result (Stood (fixed_at s n result) (marks_in result) (addresses l code).at))
