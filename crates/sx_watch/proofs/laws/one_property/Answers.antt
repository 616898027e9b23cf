use Rattle.sx_watch.proofs.Meanings.{one_property}
use Rattle.sx_watch.proofs.laws.one_property.Goals as goal

pub returns : goal.returns
returns c = one_property
