use Rattle.command_watch.proofs.Promised.{watch_promise}
use Rattle.command_watch.proofs.watch.watch_over.Goals as goal

pub returns : goal.returns
returns g c = watch_promise c.watch_told.ensures.told c.watch_told.ensures.starved
