use Rattle.std.proofs.Common.{◌≡◌, ◌<◌, drop}
use Rattle.sx_trace.specs.Finding.{with_digits}
use Rattle.sx_trace.proofs.reading.number_below.Given as goal

abbrev pub invariant-loop-byte : goal.invariant-loop-byte
invariant-loop-byte l = (with_digits l.limit 0 l.text ≡ with_digits l.limit l.number (drop l.byte-index l.text)) × (l.number < l.limit)
