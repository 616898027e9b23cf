use Rattle.std.proofs.Common.{map, ap, ◌∙◌}
use Rattle.std.specs.Prelude.{option_map}
use Rattle.sx_deploy.specs.SeenDeployment.{deployed_as}
use Rattle.sx_mean.specs.View.{part_as}
use Rattle.sx_drive.specs.Driving.{callee_of, driver_at}
use Rattle.sx_drive.proofs.Callees.{driver_there, no_driver}
use Rattle.sx_drive.proofs.callee.driver_of.Goals as goal

pub returns-in-Some-clause-found : goal.returns-in-Some-clause-found
returns-in-Some-clause-found c =
    driver_there (deployed_as c.args.deployment.now).app c.args.device c.in-Some.m (option_map callee_of c.callee_at.result)
    (c.in-Some.ensures ∙ ap (λ ps. driver_at (map part_as ps) c.args.device) c.deref.ensures.value) c.callee_at.ensures.found

pub returns-in-None-clause-found : goal.returns-in-None-clause-found
returns-in-None-clause-found c =
    no_driver (deployed_as c.args.deployment.now).app c.args.device (c.in-None.ensures ∙ ap (λ ps. driver_at (map part_as ps) c.args.device) c.deref.ensures.value)
