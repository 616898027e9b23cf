use Rattle.std.proofs.Common.{map, take}
use Rattle.sx_index.specs.Index.{IsNameIndex}
use Rattle.sx_deploy.specs.declared.checks.CheckedModule.{CheckedModule}
use Rattle.sx_deploy.proofs.owners.names_of.Given as goal

abbrev pub invariant-loop-place : goal.invariant-loop-place
invariant-loop-place l = IsNameIndex l.names (map (λ (m : CheckedModule). m.name) (take l.place l.modules))
