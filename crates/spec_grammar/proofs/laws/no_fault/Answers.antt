use Rattle.spec_grammar.proofs.OneFault as faults
use Rattle.spec_grammar.proofs.laws.no_fault.Goals as goal

pub returns : goal.returns
returns c = faults.no_fault
