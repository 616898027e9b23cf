use Rattle.sx_mean.proofs.Words as proved
use Rattle.sx_mean.proofs.laws.values_are_words.Goals as goal

pub returns : goal.returns
returns c = proved.values_are_words
