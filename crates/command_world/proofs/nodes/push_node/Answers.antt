use Rattle.std.proofs.Common.{◌∙◌, ℕ, List, ap}
use Rattle.sx_mean.specs.declared.apps.AppDevice.{AppDevice}
use Rattle.sx_deploy.specs.SeenDeployment.{deployed_as}
use Rattle.spec_run.specs.Setting.{windows_at}
use Rattle.command_world.proofs.Powering.{stand_apart}
use Rattle.command_world.proofs.nodes.push_node.Goals as goal

pub new-requires-2 : goal.new-requires-2
new-requires-2 g c =
    let d = deployed_as c.args.deployment.now in
    stand_apart d c.args.number c.deref-3.result.now c.requires.sound
    (c.deref-3.ensures.value ∙ c.in_ok-places.ensures ∙ ap (λ (xs : List AppDevice). windows_at c.args.number xs c.deref-2.result.now) c.deref.ensures.value
    ∙ ap (λ (ys : List ℕ). windows_at c.args.number d.app.devices ys) c.deref-2.ensures.value)
