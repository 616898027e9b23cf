use Rattle.std.proofs.Common.{[], inl, map, refl}
use Rattle.command_promise.proofs.Laws.{told-stop, ends-out-of-memory, prefix-none}
use Rattle.sx_deploy.specs.SeenDeployment.{deployed_as}
use Rattle.spec_run.proofs.accepted.Settled.{settled}
use Rattle.sx_world.specs.InMemory.{image_setting}
use Rattle.sx_drive.specs.Honest.{start}
use Rattle.command_head.proofs.Given.{given_none}
use Rattle.command_drive.specs.Output.{drive_deployed}
use Rattle.command_drive.proofs.drive.DriveCommandDeploys.perform.Goals as goal

pub drive_built-requires-clause-going : goal.drive_built-requires-clause-going
drive_built-requires-clause-going g c =
    let mac = g.T.Tag.mac in
    let d = deployed_as c.args.deployment.now in
    let set = image_setting mac c.args.deployment.now c.args.images.now in record {
      set = set;
      honest = start set;
      follows = c.in-Ok.ensures.starts;
      deployed = c.requires.sound;
      sound = settled mac d (map (λ i. i.text.items) c.args.images.now) c.requires.sound c.requires.images g.met.T.Tag.is_tag;
    }

pub returns-in-Err-clause-rest : goal.returns-in-Err-clause-rest
returns-in-Err-clause-rest g c = λ limit m0 defined aside noted b.
    let texts = map (λ i. i.text.items) c.args.images.now in
    told-stop b (λ more. ends-out-of-memory _ _ _ (drive_deployed g.T.Tag.mac (deployed_as c.args.deployment.now) texts more) (λ t. prefix-none _ _ _ refl) refl)

pub returns-in-Ok-clause-wanted : goal.returns-in-Ok-clause-wanted
returns-in-Ok-clause-wanted g c = c.drive_built.ensures.wanted

pub returns-in-Err-clause-wanted : goal.returns-in-Err-clause-wanted
returns-in-Err-clause-wanted g c = λ six. ([], given_none _ _ _ _, inl refl)
