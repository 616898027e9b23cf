use Rattle.std.proofs.Common.{◌≡◌, drop}
use Rattle.sx_asm.specs.Assembled.{reached}
use Rattle.sx_asm.proofs.assembling.reached.Given as goal

abbrev pub invariant-loop-entry : goal.invariant-loop-entry
invariant-loop-entry l = reached l.labels l.at l.entries ≡ reached l.labels l.address (drop l.entry-index l.entries)
