use Rattle.std.proofs.Common.{ap, ◌∙◌}
use Rattle.std.specs.Prelude.{slice_get, option_and_then}
use Rattle.sx_deploy.specs.SeenDeployment.{deployed_as}
use Rattle.sx_drive.specs.Honest.{receiver_of}
use Rattle.sx_drive.specs.Driving.{Kept}
use Rattle.sx_drive.proofs.honest.Honest.receiver.Goals as goal

pub returns-in-Some-clause-found : goal.returns-in-Some-clause-found
returns-in-Some-clause-found g c = c.receiver_of.ensures.found ∙ ap (option_and_then (receiver_of (deployed_as c.args.deployment.now).app))
    (c.in-Some.ensures ∙ ap (λ (k : Kept). slice_get k.world.running.packets c.args.packet) c.self.view_is)

pub returns-in-None-clause-found : goal.returns-in-None-clause-found
returns-in-None-clause-found g c = ap (option_and_then (receiver_of (deployed_as c.args.deployment.now).app))
    (c.in-None.ensures ∙ ap (λ (k : Kept). slice_get k.world.running.packets c.args.packet) c.self.view_is)
