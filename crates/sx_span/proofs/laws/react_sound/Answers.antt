use Rattle.sx_span.proofs.Steps.{react_sound}
use Rattle.sx_span.proofs.laws.react_sound.Goals as goal

pub returns : goal.returns
returns c = λ m r box e cells l z. react_sound m e r cells box l z
