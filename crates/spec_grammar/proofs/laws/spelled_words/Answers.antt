use Rattle.spec_grammar.proofs.SpelledWords as words
use Rattle.spec_grammar.proofs.laws.spelled_words.Goals as goal

pub returns : goal.returns
returns c = words.spelled_words
