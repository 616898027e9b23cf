use Rattle.std.proofs.Common.{◌≡◌, drop}
use Rattle.sx_asm.specs.Meaning.{is_label}
use Rattle.sx_asm.proofs.labels.lists_label.Given as goal

abbrev pub invariant-loop-label : goal.invariant-loop-label
invariant-loop-label l = is_label l.labels l.name ≡ is_label (drop l.label-index l.labels) l.name
