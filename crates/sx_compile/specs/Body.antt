-- A module's handlers as instructions alone: where each part begins and ends, and what a node does
-- between the two.
use Rattle.std.specs.Prelude.{◌≡◌, ℕ, ◌-◌, ◌+◌, false, List, length, map, slice_get, slice_index}
use Rattle.std.specs.Prelude.{Some}
use Rattle.sx_lang.specs.Sizes.{handler_cost}
use Rattle.sx_lang.specs.Tree.{HandlerTree, ModuleTree}
use Rattle.sx_mean.specs.Application.{declared_kind}
use Rattle.sx_mean.specs.declared.events.End.{End}
use Rattle.sx_mean.specs.declared.events.SourceEvent.{SourceEvent}
use Rattle.sx_mean.specs.Working.{event_at, pieces_at, saved_at, stack_to}
use Rattle.sx_mean.specs.React.{handler_at, value_of}
use Rattle.sx_rules.specs.declared.access.Violation.{Violation}
use Rattle.sx_rules.specs.declared.section.Layout.{Layout}
use Rattle.sx_rules.specs.declared.section.Section.{Section}
use Rattle.sx_rules.specs.Access.{Lives}
use Rattle.sx_tag.specs.Mac.{Mac}
use Rattle.spec_machine.specs.Memory.{bytes_from, word}
use Rattle.spec_machine.specs.Node.{IsNode}
use Rattle.spec_machine.specs.State.{State}
use Rattle.spec_machine.specs.Step.{own_of, pc_of}
use Rattle.sx_image.specs.Reach.{Comes}
use Rattle.spec_invocation.specs.Acts.{handled}
use Rattle.spec_invocation.specs.Devices.{HasDevices}
use Rattle.spec_invocation.specs.Marks.{HasPrefix}
use Rattle.spec_invocation.specs.ModuleState.{state_of}
use Rattle.spec_invocation.specs.Progress.{Course, Going, Progress, finished, marks_in, pieces_in}
use Rattle.spec_invocation.specs.Setup.{Call, Setup}
use Rattle.spec_invocation.specs.Windows.{is_bad_window, out_window_size}
use Rattle.sx_image.specs.Image.{private_bytes, progress_at, setup_at}
use Rattle.sx_image.specs.Realizes.{Aborted, KeepsOutside, Stand, begins}
use Rattle.sx_image.specs.Watched.{Watched, watch}
use Rattle.sx_ir.specs.declared.ir.Ir.{Ir}
use Rattle.sx_ir.specs.Sizes.{offset}
use Rattle.sx_lower.specs.Lowered.{handlers_code, handlers_parts}
use Rattle.sx_tmpl.specs.Text.{bytes_of, text_words_of}
use Rattle.sx_compile.specs.declared.bodies.Body.{Body}

-- the operations of the handlers' parts
unfoldable pub body_ops : ModuleTree → List End → List Ir
body_ops tree ends = handlers_code tree.decls ends 0 tree.handlers

-- where each handler's part is among them
unfoldable pub body_parts : ModuleTree → List End → List (ℕ × ℕ)
body_parts tree ends = handlers_parts tree.decls ends 0 tree.handlers

-- the text of their code in a section of this layout
abbrev pub body_text : Layout → ModuleTree → List End → List ℕ
body_text l tree ends = bytes_of (text_words_of l (body_ops tree ends) (body_parts tree ends))

-- where the instructions of a part's first operation begin
abbrev pub part_start : List Ir → ℕ × ℕ → ℕ
part_start ops part = offset ops part.0

-- where the instructions of a part's last operation begin, its return
abbrev pub part_return : List Ir → ℕ × ℕ → ℕ
part_return ops part = offset ops (part.1 - 1)

-- the call whose R12 to R15 a private section keeps
abbrev pub call_kept : List ℕ → Call
call_kept priv = record {
  entry = word priv (saved_at 12);
  input = word priv (saved_at 13);
  output = word priv (saved_at 14);
  back = word priv (saved_at 15);
}

-- the private section of a node
abbrev pub private_on : Setup → State → List ℕ
private_on s n = private_bytes s.section.layout n.mem

-- the call that a node's private section keeps
abbrev pub kept_on : Setup → State → Call
kept_on s n = call_kept (private_on s n)

-- the event's course, from the state that the private section represents
abbrev pub course_at : Setup → SourceEvent → State → Course
course_at s e n = handled s (kept_on s n) e (progress_at s n)

-- A handler may begin: the module runs, PC is at this offset of its text, the stack is empty, and
-- the private section has the event's value, an out-window that a caller may give, and no piece
-- yet. The devices are those that the module declares.
pub record BeginsHandler (s : Setup) (code : List ℕ) (from : ℕ) (e : SourceEvent) (n : State)
    : Type 0 where
  pub node : IsNode n
  pub lives : Lives n.sections.live s.section
  pub current : n.cur ≡ s.section.id
  pub last : n.last ≡ s.section.id
  pub at : pc_of n ≡ s.section.layout.pub_from + from
  pub stack : slice_index n.regs 1 ≡ s.section.layout.priv_from + stack_to
  pub text : bytes_from n.mem s.section.layout.pub_from (length code) ≡ code
  pub value : word (private_on s n) event_at ≡ value_of e
  pub count : word (private_on s n) pieces_at ≡ 0
  pub window : is_bad_window s (kept_on s n).output out_window_size ≡ false
  pub devices : HasDevices n.devices (declared_kind s.tree.decls) s.section.layout

-- What holds at every moment until the end: PC is in the module's public section, the table of
-- sections is as before, and so are the bytes outside but those where pieces go, and the marks so
-- far are a prefix of the course's.
pub record Handling (s : Setup) (out : ℕ) (course : Course) (before : State) (w : Watched)
    : Type 0 where
  pub inside : own_of w.node ≡ s.section.id
  pub sections : w.node.sections ≡ before.sections
  pub outside : KeepsOutside s out (pieces_in (finished course)) before.mem w.node.mem
  pub marks : HasPrefix (marks_in (finished course)) w.marks

-- The handler has ended, and its return is the next instruction: the private section represents
-- the new state and has the number of pieces, and the pieces are in the out-window.
pub record HasHandled (s : Setup) (out : ℕ) (course : Course) (before : State) (to : ℕ)
    (w : Watched) : Type 0 where
  pub progress : Progress
  pub goes : course ≡ Going progress
  pub current : w.node.cur ≡ s.section.id
  pub at : pc_of w.node ≡ s.section.layout.pub_from + to
  pub stack : slice_index w.node.regs 1 ≡ s.section.layout.priv_from + stack_to
  pub state : state_of s.tree s.ends (private_on s w.node) ≡ progress.state
  pub count : word (private_on s w.node) pieces_at ≡ length progress.pieces
  pub sections : w.node.sections ≡ before.sections
  pub outside : KeepsOutside s out progress.pieces before.mem w.node.mem
  pub pieces : Stand w.node.mem out progress.pieces
  pub marks : w.marks ≡ progress.marks

-- From one offset of the text the node comes within this many instructions to the other, or it is
-- reset with the course's violation.
abbrev pub DoesHandler : Setup → List ℕ → ℕ → ℕ → ℕ → SourceEvent → State → Type 0
DoesHandler s text from to cost e n =
    let out = (kept_on s n).output in
    let course = course_at s e n in
    BeginsHandler s text from e n
    → Comes Watched Violation (watch s.mac) (λ w. 1) (Handling s out course n)
    (Aborted (finished course)) (HasHandled s out course n to) cost (begins n)

-- the k-th handler is the event's, and its part begins and returns there
pub record IsHandlerPart (tree : ModuleTree) (e : SourceEvent) (from to : List ℕ) (k : ℕ)
    (h : HandlerTree)
    (p q : ℕ) : Type 0 where
  pub is : handler_at tree e ≡ Some h
  pub handler : slice_get tree.handlers k ≡ Some h
  pub begins : slice_get from k ≡ Some p
  pub returns : slice_get to k ≡ Some q

-- each handler's part does its handler within the handler's cost, wherever the text is in a
-- section of this layout
abbrev pub DoHandlers : Mac → ModuleTree → List End → Layout → List ℕ → List ℕ → List ℕ → Type 0
DoHandlers mac tree ends l text from to =
    (section : Section) (n : State) (e : SourceEvent) (h : HandlerTree) (k p q : ℕ)
    → section.layout ≡ l → IsHandlerPart tree e from to k h p q
    → DoesHandler (setup_at mac tree ends section n) text p q (handler_cost h) e n

-- the text of a module's handlers alone, with the offsets of their parts, which does the handlers
pub record IsBody (mac : Mac) (tree : ModuleTree) (ends : List End) (l : Layout) (body : Body)
    : Type 0 where
  pub text : body.text.items ≡ body_text l tree ends
  pub from : body.from.items ≡ map (part_start (body_ops tree ends)) (body_parts tree ends)
  pub to : body.to.items ≡ map (part_return (body_ops tree ends)) (body_parts tree ends)
  pub does : DoHandlers mac tree ends l body.text.items body.from.items body.to.items
