use Rattle.sx_deploy.proofs.Meanings as meanings
use Rattle.sx_deploy.proofs.laws.one_meaning.Goals as goal

pub returns : goal.returns
returns c = meanings.one_meaning
