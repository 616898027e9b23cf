use Rattle.std.proofs.Common.{List, map, subst}
use Rattle.std.proofs.lemmas.List.{take_all}
use Rattle.sx_index.specs.Index.{IsNameIndex}
use Rattle.sx_deploy.specs.declared.checks.CheckedModule.{CheckedModule}
use Rattle.sx_deploy.proofs.owners.names_of.Goals as goal

pub returns : goal.returns
returns c =
    subst (λ (ms : List CheckedModule). IsNameIndex c.loop-place.names (map (λ (m : CheckedModule). m.name) ms))
    (take_all c.loop-place.place c.args.modules.now c.loop-place-test.false) c.loop-place.invariant
