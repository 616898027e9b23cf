use Rattle.spec_grammar.proofs.OneModule as modules
use Rattle.spec_grammar.proofs.laws.one_module.Goals as goal

pub returns : goal.returns
returns c = modules.one_module
