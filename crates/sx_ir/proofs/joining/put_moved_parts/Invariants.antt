use Rattle.std.proofs.Common.{◌≡◌, ◌++◌, drop}
use Rattle.std.specs.Prelude.{map}
use Rattle.sx_ir.specs.Joined.{moved_part}
use Rattle.sx_ir.proofs.joining.put_moved_parts.Given as goal

abbrev pub invariant-loop-part : goal.invariant-loop-part
invariant-loop-part l = l.parts.items ++ map (moved_part l.by) (drop l.part-index l.bodies) ≡ l.fn.parts.items ++ map (moved_part l.by) l.bodies
