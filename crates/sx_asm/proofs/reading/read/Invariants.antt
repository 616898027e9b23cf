use Rattle.std.proofs.Common.{◌≡◌, ◌+◌, ◌≤◌, length}
use Rattle.sx_asm.specs.Adding.{continued}
use Rattle.sx_asm.specs.Reading.{is_newline, parts, read_lines}
use Rattle.sx_asm.proofs.reading.read.Given as goal

abbrev pub invariant-loop-line : goal.invariant-loop-line
invariant-loop-line l = record {
  lines : read_lines 1 262144 (parts is_newline l.text) ≡ continued l.entries.items (read_lines l.number l.left (parts is_newline l.rest));
  within : l.number + l.left ≤ 262145;
}

abbrev pub decreases-loop-line : goal.decreases-loop-line
decreases-loop-line l = length l.rest
