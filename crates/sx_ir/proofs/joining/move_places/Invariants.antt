use Rattle.std.proofs.Common.{◌≡◌, ◌++◌, take, drop, map}
use Rattle.sx_ir.specs.Joined.{moved}
use Rattle.sx_ir.proofs.joining.move_places.Given as goal

-- the operations so far are moved
abbrev pub invariant-loop-op : goal.invariant-loop-op
invariant-loop-op l = take l.op-index l.ops ++ map (moved l.by) (drop l.op-index l.ops) ≡ map (moved l.by) l.initial.ops
