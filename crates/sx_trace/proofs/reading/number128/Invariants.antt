use Rattle.std.proofs.Common.{◌≡◌, ◌^◌, drop}
use Rattle.sx_trace.specs.Finding.{with_digits}
use Rattle.sx_trace.proofs.reading.number128.Given as goal

abbrev pub invariant-loop-byte : goal.invariant-loop-byte
invariant-loop-byte l = (with_digits (2 ^ 128) 0 l.text ≡ with_digits (2 ^ 128) l.number (drop l.byte-index l.text))
