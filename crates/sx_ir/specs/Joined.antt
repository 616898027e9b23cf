-- Code that follows other code: its jumps and parts are moved.
use Rattle.std.specs.Prelude.{ℕ, ◌+◌, List, ◌++◌, length, map, min}
use Rattle.sx_ir.specs.declared.ir.Ir.{Ir}
use Rattle.sx_ir.specs.declared.ir.Ir.TheVariants as ir

-- A place after k operations. Code has at most 65,535 operations, so a place that is cut names
-- none, before and after.
abbrev pub moved_place : ℕ → ℕ → ℕ
moved_place k p = min (k + p) 65535

-- an operation whose places are moved by k
abbrev pub moved : ℕ → Ir → Ir
moved k (ir.Jump p) = ir.Jump (moved_place k p)
moved k (ir.JumpZero p) = ir.JumpZero (moved_place k p)
moved k (ir.JumpEqual o n p) = ir.JumpEqual o n (moved_place k p)
moved k i = i

-- a part whose places are moved by k
abbrev pub moved_part : ℕ → ℕ × ℕ → ℕ × ℕ
moved_part k part = (moved_place k part.0, moved_place k part.1)

-- the operations of the entry protocol, and after them those of the handlers
abbrev pub joined_ops : List Ir → List Ir → List Ir
joined_ops stub bodies = stub ++ map (moved (length stub)) bodies
