use Rattle.std.proofs.Common.{[], inl, refl}
use Rattle.command_promise.proofs.Laws.{begun-put, told-stop}
use Rattle.sx_deploy.specs.SeenDeployment.{deployed_as}
use Rattle.sx_world.specs.InMemory.{image_setting}
use Rattle.sx_image.specs.InMemory.{texts_of}
use Rattle.command_head.proofs.Given.{given_none}
use Rattle.command_drive.specs.Output.{drive_deployed, drive_readings}
use Rattle.command_drive.proofs.drive.drive_built.Goals as goal

pub returns-in-Stop-clause-rest : goal.returns-in-Stop-clause-rest
returns-in-Stop-clause-rest g c = λ limit m0 defined aside noted b.
    let d = deployed_as c.args.deployment.now in
    told-stop b (c.in-Stop.ensures (drive_readings d (image_setting g.T.Tag.mac c.args.deployment.now c.args.images.now)))

pub returns-in-On-clause-rest : goal.returns-in-On-clause-rest
returns-in-On-clause-rest g c = λ limit m0 defined aside noted b.
    let mac = g.T.Tag.mac in
    let d = deployed_as c.args.deployment.now in
    let set = image_setting mac c.args.deployment.now c.args.images.now in
    let left = drive_readings d set in
    c.drive_run.ensures.rest set c.requires.starts limit m0 defined aside noted
    (begun-put (drive_deployed mac d (texts_of c.args.images.now)) left b (c.in-On.ensures left))

pub returns-in-Stop-clause-wanted : goal.returns-in-Stop-clause-wanted
returns-in-Stop-clause-wanted g c = λ six. ([], given_none _ _ _ _, inl refl)

pub returns-in-On-clause-wanted : goal.returns-in-On-clause-wanted
returns-in-On-clause-wanted g c = c.drive_run.ensures.wanted
