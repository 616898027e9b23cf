use Rattle.spec_grammar.proofs.Texts as texts
use Rattle.spec_grammar.proofs.laws.one_module_of_text.Goals as goal

pub returns : goal.returns
returns c = texts.one_module_of_text
