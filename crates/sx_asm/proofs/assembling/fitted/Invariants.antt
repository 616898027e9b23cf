use Rattle.std.proofs.Common.{◌≡◌, drop}
use Rattle.sx_asm.specs.Assembled.{fitted}
use Rattle.sx_asm.proofs.assembling.fitted.Given as goal

abbrev pub invariant-loop-entry : goal.invariant-loop-entry
invariant-loop-entry l = fitted l.room l.entries ≡ fitted l.left (drop l.entry-index l.entries)
