use Rattle.command_snap.proofs.Said.{snap_says}
use Rattle.command_snap.proofs.snap.snap_over.Goals as goal

pub returns : goal.returns
returns g c = snap_says g.T.Tag.mac c.deploy_over.ensures
