use Rattle.std.proofs.Common.{◌≡◌, map, take}
use Rattle.sx_deploy.specs.SeenDeployment.{deployed_as}
use Rattle.spec_run.specs.Accepted.{sites_of}
use Rattle.sx_observe.proofs.sites.sites_of.Given as goal

abbrev pub invariant-loop-m : goal.invariant-loop-m
invariant-loop-m l =
    let d = deployed_as l.deployment in
    l.sites.items ≡ take l.m (sites_of d.app.parts d.layouts d.providers (map (λ i. i.text.items) l.images))
