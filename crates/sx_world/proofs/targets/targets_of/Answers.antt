use Rattle.std.proofs.Common.{◌++◌, ◌∷◌, [], List, map, sym, ap, ◌∙◌, arith}
use Rattle.std.proofs.lemmas.List.{map-append, take_all}
use Rattle.sx_deploy.specs.SeenDeployment.{deployed_as}
use Rattle.sx_deployer.specs.Keeping.{Known, known}
use Rattle.sx_deployer.specs.declared.target.Target.{Target}
use Rattle.sx_world.specs.Held.{targets_from}
use Rattle.spec_run.specs.Accepted.{setting}
use Rattle.sx_world.proofs.standing.Readying.{targets_long}
use Rattle.sx_observe.proofs.SitesOf.{take_next}
use Rattle.sx_world.proofs.targets.targets_of.Goals as goal

pub loop-m-preserved : goal.loop-m-preserved
loop-m-preserved c = λ mac.
    let t = c.in_ok-target_at.field-0 in
    ap (λ (xs : List Target). map known xs) c.in_ok-push.ensures.items ∙ map-append known c.loop-m.targets.items (t ∷ [])
    ∙ ap (λ (xs : List Known). xs ++ known t ∷ []) (c.loop-m.invariant mac)
    ∙ sym (take_next (targets_from (setting mac (deployed_as c.args.deployment.now) c.args.sites.now) 0 c.args.sites.now) c.loop-m.m (known t) (c.in_ok-target_at.ensures mac))

pub returns : goal.returns
returns c = λ mac.
    let set = setting mac (deployed_as c.args.deployment.now) c.args.sites.now in
    let long = targets_long set 0 c.args.sites.now in
    c.loop-m.invariant mac ∙ take_all c.loop-m.m (targets_from set 0 c.args.sites.now) (omega (arith, long, c.loop-m-test.false))
