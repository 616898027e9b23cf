use Rattle.sx_mean.proofs.Scope as proved
use Rattle.sx_mean.proofs.laws.scopes_kept.Goals as goal

pub returns : goal.returns
returns c = proved.scopes_kept
