use Rattle.std.proofs.Common.{List, map, subst}
use Rattle.std.proofs.lemmas.List.{take_all}
use Rattle.sx_index.specs.Index.{IsNameIndex}
use Rattle.sx_asm.specs.declared.written.Label.{Label}
use Rattle.sx_asm.proofs.labels.index_of.Goals as goal

pub returns : goal.returns
returns c =
    subst (λ (ls : List Label). IsNameIndex c.loop-place.index (map (λ (label : Label). label.name) ls))
    (take_all c.loop-place.place c.args.labels.now c.loop-place-test.false) c.loop-place.invariant
