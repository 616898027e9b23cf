use Rattle.sx_mean.proofs.Words as proved
use Rattle.sx_mean.proofs.laws.reactions_keep_words.Goals as goal

pub returns : goal.returns
returns c = proved.reactions_keep_words
