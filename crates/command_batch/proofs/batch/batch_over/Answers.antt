use Rattle.command_batch.proofs.Said.{batch_says}
use Rattle.command_batch.proofs.batch.batch_over.Goals as goal

pub returns : goal.returns
returns g c = batch_says g.T.Tag.mac g.met.T.Tag.is_tag c.deploy_over.ensures
