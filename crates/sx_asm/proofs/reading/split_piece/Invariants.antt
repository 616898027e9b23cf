use Rattle.std.proofs.Common.{◌≡◌, take, drop}
use Rattle.sx_asm.specs.Fronts.{in_front}
use Rattle.sx_asm.specs.Grammar.{is_semicolon}
use Rattle.sx_asm.specs.Reading.{parts}
use Rattle.sx_asm.proofs.reading.split_piece.Given as goal

abbrev pub invariant-loop-i : goal.invariant-loop-i
invariant-loop-i l = parts is_semicolon l.tokens ≡ in_front (take l.i l.tokens) (parts is_semicolon (drop l.i l.tokens))
