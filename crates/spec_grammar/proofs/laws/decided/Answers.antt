use Rattle.spec_grammar.proofs.Faults as faults
use Rattle.spec_grammar.proofs.laws.decided.Goals as goal

pub returns : goal.returns
returns c = faults.decided
