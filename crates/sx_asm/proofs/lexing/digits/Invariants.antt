use Rattle.std.proofs.Common.{◌≡◌, drop}
use Rattle.sx_asm.specs.Fronts.{digits_from}
use Rattle.sx_asm.proofs.lexing.digits.Given as goal

abbrev pub invariant-loop-byte : goal.invariant-loop-byte
invariant-loop-byte l = digits_from l.base 0 l.text ≡ digits_from l.base l.number (drop l.byte-index l.text)
