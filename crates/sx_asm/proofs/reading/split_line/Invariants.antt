use Rattle.std.proofs.Common.{◌≡◌, take, drop}
use Rattle.sx_asm.specs.Fronts.{in_front}
use Rattle.sx_asm.specs.Reading.{is_newline, parts}
use Rattle.sx_asm.proofs.reading.split_line.Given as goal

abbrev pub invariant-loop-i : goal.invariant-loop-i
invariant-loop-i l = parts is_newline l.text ≡ in_front (take l.i l.text) (parts is_newline (drop l.i l.text))
