use Rattle.sx_explain.proofs.Caused.{legal_has_causes}
use Rattle.sx_explain.proofs.laws.legal_has_causes.Goals as goal

pub returns : goal.returns
returns c = legal_has_causes
