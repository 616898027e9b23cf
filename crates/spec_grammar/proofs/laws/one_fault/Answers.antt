use Rattle.spec_grammar.proofs.OneFault as faults
use Rattle.spec_grammar.proofs.laws.one_fault.Goals as goal

pub returns : goal.returns
returns c = faults.one_fault
