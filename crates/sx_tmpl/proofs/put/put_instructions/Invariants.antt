use Rattle.std.proofs.Common.{◌≡◌, ◌++◌, true, drop}
use Rattle.sx_isa.specs.Standing.{words_of}
use Rattle.sx_isa.specs.Shaped.{are_shaped}
use Rattle.sx_tmpl.specs.Text.{bytes_of}
use Rattle.sx_tmpl.proofs.put.put_instructions.Given as goal

abbrev pub invariant-loop-instruction : goal.invariant-loop-instruction
invariant-loop-instruction l =
    (l.text.items ++ bytes_of (words_of (drop l.instruction-index l.instructions)) ≡ l.fn.text.items ++ bytes_of (words_of l.fn.instructions))
    × (are_shaped (drop l.instruction-index l.instructions) ≡ true)
