-- A module's state, as the bytes of its private section represent it: every content represents
-- exactly one.
use Rattle.std.specs.Prelude.{ℕ, zero, suc, ◌+◌, ◌%◌, ◌/◌, ◌==◌, Bool, false, not, List, [], ◌∷◌}
use Rattle.std.specs.Prelude.{length, replicate}
use Rattle.sx_lang.specs.Tree.{ModuleTree}
use Rattle.sx_mean.specs.declared.events.End.{End}
use Rattle.sx_mean.specs.Places.{initial_cells}
use Rattle.spec_machine.specs.Memory.{word, bytes_from}
use Rattle.sx_mean.specs.Offsets.{end_at, end_number_at, end_open_at, end_key_at, cell_at}
use Rattle.spec_invocation.specs.Protocol.{key_size}

-- One end of a connection: whether it is open, the connection field of its set-key packet, which is
-- 256 times its epoch plus the connection's number, the number that is next, or that counts the
-- events sent, and the connection's key.
pub record EndState : Type 0 where
  pub is_open : Bool
  pub field : ℕ
  pub number : ℕ
  pub key : List ℕ

-- the cells of a module, and its ends in order
pub record ModuleState : Type 0 where
  pub cells : List ℕ
  pub ends : List EndState

-- the epoch of a connection field
abbrev pub epoch_of : ℕ → ℕ
epoch_of field = field / 256

-- the connection of a connection field
abbrev pub link_of : ℕ → ℕ
link_of field = field % 256

-- an end that was never opened
abbrev pub closed_end : EndState
closed_end = record { is_open = false; field = 0; number = 0; key = replicate key_size 0 }

-- the k-th end's state
abbrev pub end_of : List EndState → ℕ → EndState
end_of [] k = closed_end
end_of (e ∷ es) zero = e
end_of (e ∷ es) (suc k) = end_of es k

-- the k-th end's state is this
abbrev pub with_end : List EndState → ℕ → EndState → List EndState
with_end [] k new = []
with_end (e ∷ es) zero new = new ∷ es
with_end (e ∷ es) (suc k) new = e ∷ with_end es k new

-- all ends closed
abbrev pub initial_ends : List End → List EndState
initial_ends [] = []
initial_ends (e ∷ es) = closed_end ∷ initial_ends es

-- the state that a module begins with
abbrev pub initial_state : ModuleTree → List End → ModuleState
initial_state tree ends = record { cells = initial_cells tree.decls; ends = initial_ends ends }

-- an end's state in its slot
unfoldable pub end_state : List ℕ → ℕ → EndState
end_state priv k = record {
  is_open = not (word priv (end_open_at k) == 0);
  field = word priv (end_at k);
  number = word priv (end_number_at k);
  key = bytes_from priv (end_key_at k) key_size;
}

-- the states of ends in their slots, from the k-th on
abbrev pub end_states : List ℕ → ℕ → List End → List EndState
end_states priv k [] = []
end_states priv k (e ∷ es) = end_state priv k ∷ end_states priv (k + 1) es

-- a cell is stored less its first value
abbrev pub cells_from : List ℕ → ℕ → List ℕ → List ℕ
cells_from priv at [] = []
cells_from priv at (first ∷ rest) = (word priv at + first) % 65536 ∷ cells_from priv (at + 2) rest

-- the state that the bytes of a private section represent, each byte at its offset
unfoldable pub state_of : ModuleTree → List End → List ℕ → ModuleState
state_of tree ends priv = record {
  cells = cells_from priv (cell_at (length ends) 0) (initial_cells tree.decls);
  ends = end_states priv 0 ends;
}
