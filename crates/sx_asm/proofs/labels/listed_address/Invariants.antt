use Rattle.std.proofs.Common.{◌≡◌, drop}
use Rattle.sx_asm.specs.Meaning.{address_of}
use Rattle.sx_asm.proofs.labels.listed_address.Given as goal

abbrev pub invariant-loop-label : goal.invariant-loop-label
invariant-loop-label l = address_of l.labels l.name ≡ address_of (drop l.label-index l.labels) l.name
