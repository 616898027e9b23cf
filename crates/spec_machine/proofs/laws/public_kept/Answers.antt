use Rattle.spec_machine.proofs.PublicKept.{public_kept}
use Rattle.spec_machine.proofs.laws.public_kept.Goals as goal

pub returns : goal.returns
returns c = public_kept
