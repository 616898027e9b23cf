use Rattle.std.proofs.Common.{map, take}
use Rattle.sx_index.specs.Index.{IsNameIndex}
use Rattle.sx_asm.specs.declared.written.Label.{Label}
use Rattle.sx_asm.proofs.labels.index_of.Given as goal

abbrev pub invariant-loop-place : goal.invariant-loop-place
invariant-loop-place l = IsNameIndex l.index (map (λ (label : Label). label.name) (take l.place l.labels))
