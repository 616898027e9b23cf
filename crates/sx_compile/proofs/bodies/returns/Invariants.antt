use Rattle.std.proofs.Common.{◌≡◌, ◌++◌, length, map, drop}
use Rattle.std.specs.Prelude.{IsTrue}
use Rattle.std.specs.List.{list_all}
use Rattle.sx_ir.specs.Sound.{is_sound_part}
use Rattle.sx_compile.specs.Body.{part_return}
use Rattle.sx_compile.proofs.bodies.returns.Given as goal

abbrev pub invariant-loop-part : goal.invariant-loop-part
invariant-loop-part l =
    (l.returns.items ++ map (part_return l.code.ops.items) (drop l.part-index l.code.parts.items) ≡ map (part_return l.fn.code.ops.items) l.fn.code.parts.items)
    × IsTrue (list_all (is_sound_part (length l.code.ops.items)) (drop l.part-index l.code.parts.items))
