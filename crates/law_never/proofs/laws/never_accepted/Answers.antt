use Rattle.law_never.proofs.Keeping.{never_accepted}
use Rattle.law_never.proofs.laws.never_accepted.Goals as goal

pub returns : goal.returns
returns c = never_accepted
