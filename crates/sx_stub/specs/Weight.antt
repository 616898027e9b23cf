-- That the stub fits into the weight.
use Rattle.std.specs.Prelude.{ℕ, ◌+◌, ◌*◌, ◌≤◌, List, [], ◌∷◌, length, if◌then◌else◌}
use Rattle.sx_lang.specs.Tree.{ModuleTree}
use Rattle.sx_mean.specs.declared.events.End.{End}
use Rattle.sx_ir.specs.declared.ir.Ir.{Ir}
use Rattle.sx_ir.specs.Sizes.{ops_bytes}
use Rattle.sx_stub.specs.Stub.{is_receiving, stub_ops}

-- what occurs once in the text: the entry, the exit, and the opening of a slot; and a packet's
-- routine for each sending end
abbrev pub once_bytes : ℕ
once_bytes = 124

-- the bytes of the routines: 140 for each sending end
abbrev pub routine_bytes : List End → ℕ
routine_bytes [] = 0
routine_bytes (e ∷ es) = (if is_receiving e then 0 else 140) + routine_bytes es

-- with what occurs once and the packets' routines, they take no more than the weight leaves beside
-- the source's nodes
abbrev pub FitsWeight : List End → List Ir → Type 0
FitsWeight ends code = ops_bytes code + once_bytes + routine_bytes ends ≤ 2048 + 192 * length ends

-- the stub's operations fit into the weight
abbrev pub StubFits : Type 0
StubFits =
    (tree : ModuleTree) (ends : List End) → length ends ≤ 16 → FitsWeight ends (stub_ops tree ends)
