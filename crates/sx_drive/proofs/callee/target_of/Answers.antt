use Rattle.std.specs.Prelude.{option_map}
use Rattle.sx_deploy.specs.SeenDeployment.{deployed_as}
use Rattle.sx_drive.specs.Driving.{callee_of}
use Rattle.sx_drive.proofs.Callees.{target_there, no_target, lent_there, lent_none}
use Rattle.sx_drive.proofs.callee.target_of.Goals as goal

pub returns-in-Some-clause-found : goal.returns-in-Some-clause-found
returns-in-Some-clause-found c =
    target_there (deployed_as c.args.deployment.now).app c.args.link c.in-Some.link.now (option_map callee_of c.callee_at.result)
    (lent_there c.args.deployment.now.app.links.items c.deref.result.now c.from.result c.args.link c.in-Some.link.now c.deref.ensures.value c.from.ensures
    c.in-Some.ensures.lookup.3.0 c.in-Some.ensures.lookup.1) c.callee_at.ensures.found

pub returns-in-None-clause-found : goal.returns-in-None-clause-found
returns-in-None-clause-found c =
    no_target (deployed_as c.args.deployment.now).app c.args.link (lent_none c.args.deployment.now.app.links.items c.deref.result.now c.from.result c.args.link
    c.deref.ensures.value c.from.ensures c.in-None.ensures.lookup.3)
