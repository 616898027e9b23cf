use Rattle.sx_span.proofs.Followed.{box_kept}
use Rattle.sx_span.proofs.laws.box_kept.Goals as goal

pub returns : goal.returns
returns c = λ st ps box h a. box_kept st ps box h a
