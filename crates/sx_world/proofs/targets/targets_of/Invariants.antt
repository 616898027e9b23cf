use Rattle.std.proofs.Common.{◌≡◌, map, take}
use Rattle.sx_deploy.specs.SeenDeployment.{deployed_as}
use Rattle.sx_deployer.specs.Keeping.{known}
use Rattle.sx_tag.specs.Mac.{Mac}
use Rattle.sx_world.specs.Held.{targets_from}
use Rattle.spec_run.specs.Accepted.{setting}
use Rattle.sx_world.proofs.targets.targets_of.Given as goal

abbrev pub invariant-loop-m : goal.invariant-loop-m
invariant-loop-m l = (mac : Mac) → map known l.targets.items ≡ take l.m (targets_from (setting mac (deployed_as l.deployment) l.sites) 0 l.sites)
