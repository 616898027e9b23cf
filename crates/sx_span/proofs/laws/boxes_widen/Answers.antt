use Rattle.sx_span.proofs.Followed.{boxes_widen}
use Rattle.sx_span.proofs.laws.boxes_widen.Goals as goal

pub returns : goal.returns
returns c = λ cells small large z y. boxes_widen cells small large z y
