-- What it means that an image realizes a module.
use Rattle.std.specs.Prelude.{◌≡◌, ℕ, ◌+◌, nat_lt, nat_le, Bool, false, ◌&&◌, List, [], ◌∷◌, ◌++◌}
use Rattle.std.specs.Prelude.{length, slice_index, replicate}
use Rattle.sx_lang.specs.Tree.{ModuleTree}
use Rattle.sx_lang.specs.Sizes.{module_weight, module_data_size, module_cost}
use Rattle.sx_mean.specs.declared.events.End.{End}
use Rattle.sx_rules.specs.declared.access.Violation.{Violation}
use Rattle.sx_rules.specs.declared.section.Section.{Section}
use Rattle.sx_rules.specs.declared.access.Access.TheVariants.{Write}
use Rattle.sx_rules.specs.Access.{may, in_private}
use Rattle.sx_tag.specs.Mac.{Mac}
use Rattle.spec_machine.specs.declared.kinds.Event.TheVariants as event
use Rattle.spec_machine.specs.Memory.{even, bytes_from}
use Rattle.spec_machine.specs.State.{State}
use Rattle.spec_machine.specs.Step.{own_of}
use Rattle.sx_image.specs.Reach.{Comes}
use Rattle.spec_invocation.specs.Setup.{Setup}
use Rattle.spec_invocation.specs.ModuleState.{initial_state, state_of}
use Rattle.spec_invocation.specs.Marks.{HasPrefix}
use Rattle.spec_invocation.specs.Progress.{Progress, Invoked, Returns, Violates, marks_in, pieces_in}
use Rattle.spec_invocation.specs.Progress.{bytes_in}
use Rattle.spec_invocation.specs.Invocation.{invoke}
use Rattle.sx_image.specs.Watched.{Watched, watch}
use Rattle.sx_image.specs.Image.{Image, Enters, private_bytes, setup_at, call_at, progress_at}

-- an address in the out-window where pieces go, which the access table lets the module write
abbrev pub is_piece_address : Setup → ℕ → List (List ℕ) → ℕ → Bool
is_piece_address s out pieces at =
    nat_le out at && (nat_lt at (out + bytes_in pieces) && may s.live s.section.id Write at)

-- the pieces are in memory, one after the other
abbrev pub Stand : List ℕ → ℕ → List (List ℕ) → Type 0
Stand mem at [] = Unit {0}
Stand mem at (piece ∷ pieces) =
    (bytes_from mem at (length piece) ≡ piece) × Stand mem (at + length piece) pieces

-- the bytes outside the private section are as before, except where pieces go
abbrev pub KeepsOutside : Setup → ℕ → List (List ℕ) → List ℕ → List ℕ → Type 0
KeepsOutside s out pieces before after =
    (at : ℕ) → in_private s.section at ≡ false → is_piece_address s out pieces at ≡ false
    → slice_index after at ≡ slice_index before at

-- What holds at every moment until the exit: PC is in the module's public section, the table of
-- sections is as before, and so are the bytes outside but those where pieces go, and the marks so
-- far are a prefix of the invocation's.
pub record Underway (s : Setup) (result : Invoked) (before : State) (w : Watched) : Type 0 where
  pub inside : own_of w.node ≡ s.section.id
  pub sections : w.node.sections ≡ before.sections
  pub outside : KeepsOutside s (call_at before).output (pieces_in result) before.mem w.node.mem
  pub marks : HasPrefix (marks_in result) w.marks

-- the registers at the exit: R12 the status, R13 the number of pieces, SP the caller's, PC the
-- return address; all others 0
abbrev pub exit_registers : State → ℕ → ℕ → List ℕ
exit_registers before status count =
    even (call_at before).back ∷ slice_index before.regs 1 ∷ 0 ∷ slice_index before.regs 3
    ∷ (replicate 8 0 ++ status ∷ count ∷ 0 ∷ 0 ∷ [])

-- The module left its public section by a plain instruction, and the invocation returns: the
-- private section represents the new state, and the pieces are in the out-window.
pub record Exited (s : Setup) (result : Invoked) (before : State) (w : Watched) : Type 0 where
  pub status : ℕ
  pub progress : Progress
  pub returns : result ≡ Returns status progress
  pub left : w.event ≡ event.Left s.section.id
  pub idle : w.node.cur ≡ 0
  pub registers : w.node.regs ≡ exit_registers before status (length progress.pieces)
  pub state : state_of s.tree s.ends (private_bytes s.section.layout w.node.mem) ≡ progress.state
  pub sections : w.node.sections ≡ before.sections
  pub outside : KeepsOutside s (call_at before).output progress.pieces before.mem w.node.mem
  pub pieces : Stand w.node.mem (call_at before).output progress.pieces
  pub marks : w.marks ≡ progress.marks

-- the next step resets the node with the invocation's violation, after all of its marks
pub record Aborted (result : Invoked) (w : Watched) (v : Violation) : Type 0 where
  pub progress : Progress
  pub violates : result ≡ Violates v progress
  pub marks : w.marks ≡ progress.marks

-- an invocation begins: no mark yet
abbrev pub begins : State → Watched
begins n = record { node = n; marks = []; event = event.Quiet }

-- from this state the node does the invocation, in this many instructions
abbrev pub DoesInvocation : Setup → State → Type 0
DoesInvocation s n =
    let result = invoke s (call_at n) (progress_at s n) in
    Comes Watched Violation (watch s.mac) (λ w. 1) (Underway s result n) (Aborted result)
    (Exited s result n)
    (4096 + module_cost s.tree) (begins n)

-- The image's text has exactly the module's weight, a private section of zeros represents the
-- initial state, and from every state that enters the module the node does the invocation.
pub record Realizes (mac : Mac) (tree : ModuleTree) (ends : List End) (image : Image) : Type 0 where
  pub weight : length image.text ≡ module_weight tree (length ends)
  pub zeros : state_of tree ends (replicate (module_data_size tree (length ends)) 0)
      ≡ initial_state tree ends
  pub runs : (section : Section) (n : State) → Enters tree image section n
      → DoesInvocation (setup_at mac tree ends section n) n
