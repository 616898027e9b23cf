use Rattle.command_drive.proofs.Said.{drive_says}
use Rattle.command_drive.proofs.drive.drive_over.Goals as goal

pub returns : goal.returns
returns g c = drive_says g.T.Tag.mac g.met.T.Tag.is_tag c.deploy_over.ensures
