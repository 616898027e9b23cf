use Rattle.std.proofs.Common.{◌≡◌, drop}
use Rattle.sx_asm.specs.Assembled.{formed}
use Rattle.sx_asm.proofs.assembling.formed.Given as goal

abbrev pub invariant-loop-entry : goal.invariant-loop-entry
invariant-loop-entry l = formed l.entries ≡ formed (drop l.entry-index l.entries)
