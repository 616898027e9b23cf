use Rattle.sx_watch.proofs.Meanings.{some_property}
use Rattle.sx_watch.proofs.laws.some_property.Goals as goal

pub returns : goal.returns
returns c = some_property
