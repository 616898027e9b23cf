use Rattle.spec_grammar.proofs.Texts as texts
use Rattle.spec_grammar.proofs.laws.module_or_fault.Goals as goal

pub returns : goal.returns
returns c = texts.module_or_fault
