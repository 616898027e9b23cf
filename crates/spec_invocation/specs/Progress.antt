-- How far an invocation is, and how it ends.
use Rattle.std.specs.Prelude.{ℕ, ◌+◌, List, [], ◌∷◌, ◌++◌, length}
use Rattle.sx_rules.specs.declared.access.Violation.{Violation}
use Rattle.sx_bus.specs.declared.devices.Window.{Window}
use Rattle.spec_invocation.specs.Protocol.{all_done}
use Rattle.spec_invocation.specs.ModuleState.{EndState, ModuleState, with_end}
use Rattle.spec_invocation.specs.Marks.{Mark}

-- how far an invocation is: the module's state, the memory outside its private section, the node's
-- devices, the marks so far, and the pieces made so far
pub record Progress : Type 0 where
  pub state : ModuleState
  pub mem : List ℕ
  pub devices : List Window
  pub marks : List Mark
  pub pieces : List (List ℕ)

-- the k-th end is in this state, and a mark is made
abbrev pub with_end_marked : ℕ → EndState → Mark → Progress → Progress
with_end_marked k e mark p = record p {
  state = record p.state { ends = with_end p.state.ends k e };
  marks = p.marks ++ mark ∷ [];
}

-- How it ends: with a status, or with a violation. The last piece is then the one whose copy was
-- refused.
pub data Invoked : Type 0 where
  Returns : ℕ → Progress → Invoked
  Violates : Violation → Progress → Invoked

-- a part of it that goes on, or ends in a violation
pub data Course : Type 0 where
  Going : Progress → Course
  Broken : Violation → Progress → Course

-- the rest, where the first part goes on
abbrev pub and_on : Course → (Progress → Course) → Course
and_on (Going p) rest = rest p
and_on (Broken v p) rest = Broken v p

-- a whole course: all is done, or its violation
abbrev pub finished : Course → Invoked
finished (Going p) = Returns all_done p
finished (Broken v p) = Violates v p

-- the marks until the end
abbrev pub marks_in : Invoked → List Mark
marks_in (Returns status p) = p.marks
marks_in (Violates v p) = p.marks

-- the pieces made until the end
abbrev pub pieces_in : Invoked → List (List ℕ)
pieces_in (Returns status p) = p.pieces
pieces_in (Violates v p) = p.pieces

-- the pieces' bytes
abbrev pub bytes_in : List (List ℕ) → ℕ
bytes_in [] = 0
bytes_in (piece ∷ pieces) = length piece + bytes_in pieces
