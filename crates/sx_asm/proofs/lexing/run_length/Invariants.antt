use Rattle.std.proofs.Common.{◌≡◌, ◌+◌, drop}
use Rattle.sx_asm.specs.Fronts.{run_front}
use Rattle.sx_asm.proofs.lexing.run_length.Given as goal

abbrev pub invariant-loop-i : goal.invariant-loop-i
invariant-loop-i l = run_front l.before l.text ≡ l.i + run_front l.last (drop l.i l.text)
