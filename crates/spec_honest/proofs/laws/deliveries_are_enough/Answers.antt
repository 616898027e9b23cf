use Rattle.spec_honest.proofs.Fuel.{deliveries_are_enough}
use Rattle.spec_honest.proofs.laws.deliveries_are_enough.Goals as goal

pub returns : goal.returns
returns c = deliveries_are_enough
