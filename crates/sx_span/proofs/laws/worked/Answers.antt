use Rattle.std.proofs.Common.{refl}
use Rattle.sx_span.proofs.laws.worked.Goals as goal

pub returns-clause-two : goal.returns-clause-two
returns-clause-two c = refl

pub returns-clause-one : goal.returns-clause-one
returns-clause-one c = refl

pub returns-clause-counter : goal.returns-clause-counter
returns-clause-counter c = refl
