use Rattle.sx_deploy.proofs.Meanings as meanings
use Rattle.sx_deploy.proofs.laws.some_meaning.Goals as goal

pub returns : goal.returns
returns c = meanings.some_meaning
