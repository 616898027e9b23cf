use Rattle.std.proofs.Common.{◌≡◌, map, take}
use Rattle.sx_deployer.specs.Keeping.{known}
use Rattle.sx_deployer.proofs.deployer.Deployer.copy.Given as goal

abbrev pub invariant-loop-target : goal.invariant-loop-target
invariant-loop-target g l = map known l.targets.items ≡ map known (take l.target-index l.target-items)
