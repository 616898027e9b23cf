use Rattle.std.proofs.Common.{◌≡◌, ◌++◌, drop}
use Rattle.sx_asm.specs.Meaning.{labels_of}
use Rattle.sx_asm.proofs.meaning.labels_of.Given as goal

abbrev pub invariant-loop-entry : goal.invariant-loop-entry
invariant-loop-entry l = labels_of l.at l.entries ≡ l.labels.items ++ labels_of l.address (drop l.entry-index l.entries)
