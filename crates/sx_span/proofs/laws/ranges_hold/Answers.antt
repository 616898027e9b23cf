use Rattle.sx_span.proofs.Values.{ranges_hold}
use Rattle.sx_span.proofs.laws.ranges_hold.Goals as goal

pub returns : goal.returns
returns c = λ ds st p e f. ranges_hold ds st p e f
