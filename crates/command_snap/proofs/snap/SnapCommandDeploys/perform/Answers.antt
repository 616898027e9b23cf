use Rattle.std.proofs.Common.{List, [], inl, map, refl, subst, sym, ap}
use Rattle.command_promise.proofs.Laws.{begun-same, told-stop, ends-out-of-memory, prefix-none}
use Rattle.sx_deploy.specs.SeenDeployment.{deployed_as}
use Rattle.spec_run.specs.Accepted.{setting}
use Rattle.spec_run.specs.Setting.{Site}
use Rattle.command_head.proofs.Given.{given_none}
use Rattle.command_world.specs.Images.{images_text}
use Rattle.command_snap.specs.Output.{snap_deployed, snap_from}
use Rattle.command_snap.proofs.snap.SnapCommandDeploys.perform.Goals as goal

pub returns-in-Ok-clause-rest : goal.returns-in-Ok-clause-rest
returns-in-Ok-clause-rest g c = λ limit m0 defined aside noted b.
    let mac = g.T.Tag.mac in
    let d = deployed_as c.args.deployment.now in
    let texts = map (λ i. i.text.items) c.args.images.now in
    let set = setting mac d c.in-Ok.timeline.sites in
    c.snap_built.ensures.rest limit m0 defined aside noted
    (begun-same (snap_from d.names set (images_text d.names.modules texts) [])
    (λ more. ap (λ (sites : List Site). snap_from d.names (setting mac d sites) (images_text d.names.modules texts) [] more) (sym c.in-Ok.ensures.sites)) b)

pub returns-in-Err-clause-rest : goal.returns-in-Err-clause-rest
returns-in-Err-clause-rest g c = λ limit m0 defined aside noted b.
    let texts = map (λ i. i.text.items) c.args.images.now in
    told-stop b (λ more. ends-out-of-memory _ _ _ (snap_deployed g.T.Tag.mac (deployed_as c.args.deployment.now) texts more) (λ t. prefix-none _ _ _ refl) refl)

pub returns-in-Ok-clause-wanted : goal.returns-in-Ok-clause-wanted
returns-in-Ok-clause-wanted g c = c.snap_built.ensures.wanted

pub returns-in-Err-clause-wanted : goal.returns-in-Err-clause-wanted
returns-in-Err-clause-wanted g c = λ six. ([], given_none _ _ _ _, inl refl)
