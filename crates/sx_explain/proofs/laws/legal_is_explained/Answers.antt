use Rattle.sx_explain.proofs.Explained.{legal_is_explained}
use Rattle.sx_explain.proofs.laws.legal_is_explained.Goals as goal

pub returns : goal.returns
returns c = legal_is_explained
